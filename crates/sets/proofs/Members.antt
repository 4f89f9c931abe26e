-- Members of a set, by their places.
use Rattle.std.specs.Prelude.{◌||◌, slice_get, IfSome, IfNone, is_some}
use Rattle.std.specs.declared.cmp.Ordering.{Ordering}
use Rattle.std.specs.Ordering.{is_eq, eq_by_cmp}
use Rattle.std.specs.Cmp.{IsTotalOrder, tied_itself}
use Rattle.std.proofs.lemmas.Bool.{or_right}
use Rattle.std.proofs.Common.{◌≡◌, ℕ, zero, suc, true, false, List, [], ◌∷◌, Option, Some, None, sym, ap, ◌∙◌}
use Rattle.std.proofs.lemmas.Option.{same_Some}
use Rattle.sets.specs.Sets.{has}

module _ {A : Type 0} {R : A → A → Ordering} (o : IsTotalOrder R) where
  has_at : (xs : List A) (i : ℕ) (x : A) → slice_get xs i ≡ Some x → has R xs x ≡ true
  has_at [] i x e = absurd (cc)
  has_at (y ∷ ys) zero x e =
      ap (λ z. eq_by_cmp R x z || has R ys x) (same_Some y x e) ∙ ap (λ r. is_eq r || has R ys x) (tied_itself o x)
  has_at (y ∷ ys) (suc i) x e = or_right _ _ (has_at ys i x e)

  -- what a search for its place says of a value
  pub placed_is : (xs : List A) (x : A) (place : Option ℕ) → IfSome place (λ i. slice_get xs i ≡ Some x) → IfNone place (has R xs x ≡ false)
      → is_some place ≡ has R xs x
  placed_is xs x (Some i) found none = sym (has_at xs i x found)
  placed_is xs x None found none = sym none
