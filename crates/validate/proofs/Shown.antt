-- A slot that is kept, and what it stands for.
use Rattle.std.proofs.Common.{◌≡◌, ℕ, zero, suc, ◌<◌, List, [], ◌∷◌, length, map, slice_index_or, refl, sym, ap, ◌∙◌}
use Rattle.std.proofs.lemmas.List.{get_or_default}
use Rattle.incarnations.specs.declared.state.Noted.{Noted as KeptNote}
use Rattle.incarnations.specs.declared.state.Slot.{Slot as KeptSlot}
use Rattle.incarnations.specs.Kept.{slot_by, fresh_kept}
use Rattle.incarnations.specs.Slots.{Noted}
use Rattle.validate.specs.Below.{slot_at}

abbrev pub kept_at : List KeptSlot → ℕ → KeptSlot
kept_at xs i = slice_index_or xs i fresh_kept

pub by_at : (f : KeptNote → Noted) (xs : List KeptSlot) (i : ℕ) → slot_at (map (slot_by f) xs) i ≡ slot_by f (kept_at xs i)
by_at f [] i = refl
by_at f (x ∷ xs) zero = refl
by_at f (x ∷ xs) (suc i) = by_at f xs i

pub kept_is : (xs : List KeptSlot) (i : ℕ) (y : KeptSlot) → y ≡ slice_index_or xs i y → i < length xs → y ≡ kept_at xs i
kept_is xs i y at lt = at ∙ get_or_default xs i y fresh_kept lt

pub is_slot : (f : KeptNote → Noted) (xs : List KeptSlot) (i : ℕ) (y : KeptSlot) → y ≡ slice_index_or xs i y → i < length xs → slot_by f y ≡ slot_at (map (slot_by f) xs) i
is_slot f xs i y at lt = ap (slot_by f) (kept_is xs i y at lt) ∙ sym (by_at f xs i)

-- the same, where the slot is named by its place
pub at_slot : (f : KeptNote → Noted) (xs : List KeptSlot) (i : ℕ) (y : KeptSlot) → i < length xs → slot_by f (slice_index_or xs i y) ≡ slot_at (map (slot_by f) xs) i
at_slot f xs i y lt = ap (slot_by f) (get_or_default xs i y fresh_kept lt) ∙ sym (by_at f xs i)
