-- Items one after another with links between them, as `Object { ',' Object }`. `Item ts x rest`
-- says that x stands at the front of the tokens ts, and rest follows; `Link ts true rest` leads to
-- a next item, and `Link ts false rest` ends the list.
use Rattle.std.specs.Prelude.{ℕ, zero, suc, Bool, true, false, List, [], ◌∷◌, length, Option, Some, None, if◌then◌else◌}
use Rattle.iris.specs.Bracketed.{◌>>=◌}
use Rattle.lexer.specs.declared.token.Token.{Token}

pub data Many {A : Type 0} (Item : List Token → A → List Token → Type 0) (Link : List Token → Bool → List Token → Type 0) : List Token → List A → List Token → Type 0 where
  last : {ts r s : List Token} {x : A} → Item ts x r → Link r false s → Many Item Link ts (x ∷ []) s
  next : {ts r u s : List Token} {x : A} {xs : List A} → Item ts x r → Link r true u → Many Item Link u xs s → Many Item Link ts (x ∷ xs) s

-- ---- as it is read: with n steps at most

abbrev pub many_from : {A : Type 0} → (List Token → Option (A × List Token)) → (List Token → Bool × List Token) → ℕ → List Token → Option (List A × List Token)
many_from item link zero ts = None
many_from item link (suc n) ts = item ts >>= λ x. if (link x.1).0 then (many_from item link n (link x.1).1 >>= λ xs. Some (x.0 ∷ xs.0, xs.1)) else Some (x.0 ∷ [], (link x.1).1)

abbrev pub many : {A : Type 0} → (List Token → Option (A × List Token)) → (List Token → Bool × List Token) → List Token → Option (List A × List Token)
many item link ts = many_from item link (length ts) ts
