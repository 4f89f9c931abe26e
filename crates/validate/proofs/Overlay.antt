-- What a read says of the view of a request, without the whole view.
use Rattle.std.proofs.Common.{◌≡◌, ℕ, zero, suc, List, ap, sym, ◌∙◌}
use Rattle.datasets.specs.Id.{id_order}
use Rattle.change_laws.specs.Laws.{IsRising}
use Rattle.reads.specs.Reads.{View, Delta, applied}
use Rattle.reads.proofs.Changes.{rises}
use Rattle.incarnations.specs.Slots.{Slot}
use Rattle.validate.specs.Below.{slot_at, view_at}

module _ (base : View) (slots : List Slot) where
  pub view_rises : IsRising id_order base → (i : ℕ) → IsRising id_order (view_at base slots i)
  unfolding view_at
  view_rises rising zero = rising
  view_rises rising (suc i) = rises (slot_at slots i).delta (view_at base slots i)

-- a delta takes its request's view to the next one's
pub changes_one : (slots : List Slot) (low high : ℕ) (c : Delta) → c ≡ (slot_at slots low).delta → high ≡ suc low → (base : View) → applied c (view_at base slots low) ≡ view_at base slots high
unfolding view_at
changes_one slots low high c e f base = ap (λ (d : Delta). applied d (view_at base slots low)) e ∙ ap (view_at base slots) (sym f)
