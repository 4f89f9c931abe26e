-- What holds of the first of a list, and of the next.
use Rattle.std.proofs.Common.{◌≡◌, ◌<◌, ◌+◌, ◌||◌, ℕ, Bool, true, false, List, length, take, get_or, refl, sym, ap, ◌∙◌}
use Rattle.std.specs.List.{list_any}
use Rattle.std.specs.Ordering.{eq_by_cmp}
use Rattle.std.proofs.lemmas.Bool.{or_cases}
use Rattle.std.proofs.lemmas.List.Folds.{list_any_more}
use Rattle.std.proofs.Math.Logic.{⊎_elim}
use Rattle.sets.specs.Sets.{has}
use Rattle.sets.proofs.SetLaws.{exact_by}
use Rattle.datasets.specs.declared.id.Id.{Id}
use Rattle.datasets.specs.Id.{id_order, id_total, id_exact}

-- what holds of some first names, and of the next, holds of all those
pub one_more : (names : List Id) (i : ℕ) (d : Id) (found : Id → Bool) → i < length names → ((q : Id) → has id_order (take i names) q ≡ true → found q ≡ true) → found (get_or names i d) ≡ true
    → (q : Id) → has id_order (take (i + 1) names) q ≡ true → found q ≡ true
one_more names i d found lt before here q e = at (has id_order (take i names) q) refl (sym (list_any_more (eq_by_cmp id_order q) names i d lt) ∙ e)
  where
    at : (b : Bool) → has id_order (take i names) q ≡ b → (b || eq_by_cmp id_order q (get_or names i d)) ≡ true → found q ≡ true
    at true h e = before q h
    at false h e = ap found (exact_by id_total id_exact q (get_or names i d) e) ∙ here

pub any_more : {X Z : Type 0} (p : X → Bool) (xs : List X) (i : ℕ) (d : X) → i < length xs → list_any p (take (i + 1) xs) ≡ true → (list_any p (take i xs) ≡ true → Z) → (p (get_or xs i d) ≡ true → Z) → Z
any_more p xs i d lt e before here = ⊎_elim before here (or_cases (list_any p (take i xs)) (p (get_or xs i d)) (sym (list_any_more p xs i d lt) ∙ e))
