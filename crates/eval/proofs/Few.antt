-- What is wanted only up to a limit is no longer than it.
use Rattle.std.specs.Prelude.{ℕ, Bool, true, false, nat_lt, cond, List, length, Option, Some, None, IfSome, ◌≤◌}
use Rattle.std.proofs.lemmas.Bool.{ltb-false}
use Rattle.std.proofs.Common.{◌≡◌, refl, sym, subst}
use Rattle.datasets.specs.declared.id.Id.{Id}
use Rattle.meaning.specs.Mapping.{Mapping}
use Rattle.solution.specs.Limits.{up_to}

few_if : (limit : ℕ) (xs : List (Mapping Id)) (b : Bool) → nat_lt limit (length xs) ≡ b → IfSome (cond b None (Some xs)) (λ few. length few ≤ limit)
few_if limit xs true e = tt
few_if limit xs false e = ltb-false limit (length xs) e

pub few_of : (limit : ℕ) (found : Option (List (Mapping Id))) (xs : List (Mapping Id)) → found ≡ up_to limit xs → IfSome found (λ few. length few ≤ limit)
few_of limit found xs e = subst (λ (o : Option (List (Mapping Id))). IfSome o (λ few. length few ≤ limit)) (sym e) (few_if limit xs (nat_lt limit (length xs)) refl)
