-- What leaves a deque of hints is a hint.
use Rattle.std.proofs.Common.{ℕ, All, List, [], ◌∷◌, ◌++◌, length, subst}
use lib.Seq.{take-append_seam, drop-append_seam}
use Rattle.std.proofs.lemmas.List.Elements.{All-take, All-drop}
use Rattle.crossbeam_deque.specs.Tasks.{Takes, Pops}

module _ {T : Type 0} (P : T → Type 0) where
  abbrev Holds : List T → List (Unit {0}) → Type 0
  Holds items _ = All P items

  front : (xs ys : List T) → All P (xs ++ ys) → All P xs
  front xs ys h = subst (All P) (take-append_seam xs ys) (All-take P (length xs) (xs ++ ys) h)

  back : (xs ys : List T) → All P (xs ++ ys) → All P ys
  back xs ys h = subst (All P) (drop-append_seam xs ys) (All-drop P (length xs) (xs ++ ys) h)

  pub takes : (port : ℕ) (v : Unit {0}) (most : ℕ) → Takes Holds port v most (λ xs _. All P xs)
  takes port v most xs items views _ _ h _ = (tt, back xs items h, front xs items h)

  pub pops : (port : ℕ) (v : Unit {0}) → Pops Holds port v (λ xs _. All P xs)
  pops port v x items views h _ = (tt, front items (x ∷ []) h, back items (x ∷ []) h)
