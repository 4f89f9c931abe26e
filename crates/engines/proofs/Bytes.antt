-- A text that was written whole or in pieces, and then flushed.
use Rattle.std.proofs.Common.{◌≡◌, ℕ, List, [], ◌∷◌, ◌++◌, length, take, drop, Option, Some, None, Result, Ok, Err, OnErr, refl, sym, ap, subst, ◌∙◌}
use Rattle.std.proofs.lemmas.List.{append-nil, append_assoc, take-append-drop}
use Rattle.std.proofs.Math.Seq.{take-append_seam}
use Rattle.std.specs.Global.{Vec}
use Rattle.std.specs.Io.KnownBytes.{Appends, Keeps}
use Rattle.canonical_nquads.specs.Canonical.{text_of_pieces}
use Rattle.engines.specs.Outputs.{GrewInPart}

pub kept_after : (old mid new : Option (List ℕ)) (text : List ℕ) → Appends old mid text → Keeps mid new → Appends old new text
kept_after None mid new text a k = tt
kept_after (Some xs) None new text a k = absurd a
kept_after (Some xs) (Some ys) None text a k = absurd k
kept_after (Some xs) (Some ys) (Some zs) text a k = k ∙ a

take_whole : (xs : List ℕ) → take (length xs) xs ≡ xs
take_whole [] = refl
take_whole (x ∷ xs) = ap (λ ys. x ∷ ys) (take_whole xs)

appends_same : (old new : Option (List ℕ)) (xs ys : List ℕ) → xs ≡ ys → Appends old new ys → Appends old new xs
appends_same None new xs ys e a = tt
appends_same (Some zs) None xs ys e a = a
appends_same (Some zs) (Some ws) xs ys e a = a ∙ ap (λ t. zs ++ t) (sym e)

-- the whole text is a beginning of it
pub whole_is_part : (old mid new : Option (List ℕ)) (text : List ℕ) → Appends old mid text → Keeps mid new → GrewInPart (record { before = old; after = new }) text
whole_is_part old mid new text a k = (length text, appends_same old new (take (length text) text) text (take_whole text) (kept_after old mid new text a k))

pub on_err : {T E : Type 0} {P : Type 0} (r : Result T E) → P → OnErr r P
on_err (Ok x) p = tt
on_err (Err e) p = p

-- ---- pieces

pub nothing_yet : (old : Option (List ℕ)) → Appends old old []
nothing_yet None = tt
nothing_yet (Some xs) = sym (append-nil xs)

appended : (a b c : Option (List ℕ)) (x y : List ℕ) → Appends a b x → Appends b c y → Appends a c (x ++ y)
appended None b c x y p q = tt
appended (Some us) None c x y p q = absurd p
appended (Some us) (Some bs) None x y p q = q
appended (Some us) (Some bs) (Some cs) x y p q = q ∙ ap (λ (t : List ℕ). t ++ y) p ∙ append_assoc us x y

module _ (whole done : List ℕ) (piece : Vec ℕ) (pieces rest : List (Vec ℕ)) (left : whole ≡ done ++ text_of_pieces pieces) (next : pieces ≡ piece ∷ rest) where
  -- the text behind one piece more
  pub left_behind : whole ≡ (done ++ piece.items) ++ text_of_pieces rest
  left_behind = left ∙ ap (λ (ps : List (Vec ℕ)). done ++ text_of_pieces ps) next ∙ sym (append_assoc done piece.items (text_of_pieces rest))

  pub one_more : (a b c : Option (List ℕ)) → Appends a b done → Appends b c piece.items → Appends a c (done ++ piece.items)
  one_more a b c p q = appended a b c done piece.items p q

  -- where a beginning of it was written, a beginning of the whole was
  pub part_of_one : (a b c : Option (List ℕ)) (n : ℕ) → Appends a b done → Appends b c (take n piece.items) → GrewInPart (record { before = a; after = c }) whole
  part_of_one a b c n p q =
      let behind = text_of_pieces rest in
      let written = done ++ take n piece.items in
      let parted : whole ≡ written ++ (drop n piece.items ++ behind) =
      left_behind
      ∙ ap (λ (t : List ℕ). (done ++ t) ++ behind) (sym (take-append-drop n piece.items))
      ∙ ap (λ (t : List ℕ). t ++ behind) (sym (append_assoc done (take n piece.items) (drop n piece.items)))
      ∙ append_assoc written (drop n piece.items) behind in
      (length written, subst (Appends a c) (sym (take-append_seam written (drop n piece.items ++ behind)) ∙ ap (take (length written)) (sym parted)) (appended a b c done (take n piece.items) p q))
