-- What a changed slot leaves as it was.
use Rattle.std.proofs.Common.{◌≡◌, ◌≢◌, ℕ, zero, suc, ◌<◌, ◌≤◌, inl, inr, List, ◌++◌, length, Option, Some, None, option_map, slice_get, slice_set, refl, sym, ap, ◌∙◌, subst, arith, option_to_list}
use Rattle.std.proofs.lemmas.Bool.{cases_eq}
use Rattle.std.proofs.lemmas.List.{get_or-set_same, get_or-set_other}
use Rattle.std.proofs.lemmas.Option.{slice_get-get_or, slice_get_within, get_or_from_slice_get}
use Rattle.reads.specs.Reads.{View, applied}
use Rattle.incarnations.specs.declared.state.Status.{Status}
use Rattle.incarnations.specs.Slots.{Slot, fresh_slot}
use Rattle.validate.specs.Below.{slot_at, view_at}
use Rattle.slots.specs.Slots.{status_of, replies_to}

pub set_same : (slots : List Slot) (i : ℕ) (x : Slot) → i < length slots → slot_at (slice_set slots i x) i ≡ x
set_same slots i x h = get_or-set_same slots i x fresh_slot h

pub set_other : (slots : List Slot) (i j : ℕ) (x : Slot) → j ≢ i → slot_at (slice_set slots i x) j ≡ slot_at slots j
set_other slots i j x h = get_or-set_other slots i j x fresh_slot h

-- a request that has a status has a slot of that status
pub status_within : (slots : List Slot) (i : ℕ) (st : Status) → status_of slots i ≡ Some st → (i < length slots) × ((slot_at slots i).status ≡ st)
status_within slots i st h = go (slice_get slots i) refl h
  where
    go : (o : Option Slot) → slice_get slots i ≡ o → option_map (λ x. x.status) o ≡ Some st → (i < length slots) × ((slot_at slots i).status ≡ st)
    go None e f = absurd (let g : None ≡ Some st = f in (cc))
    go (Some x) e f =
        let g : Some x.status ≡ Some st = f in
        let at = get_or_from_slice_get slots i x fresh_slot e in
        let same : x.status ≡ st = cc in
        (slice_get_within slots i x e, ap (λ (y : Slot). y.status) at ∙ same)

-- a slot's status, by its number
pub status_at : (slots : List Slot) (i : ℕ) → i < length slots → status_of slots i ≡ Some (slot_at slots i).status
status_at slots i h = ap (option_map (λ x. x.status)) (slice_get-get_or slots i fresh_slot h)

-- a field that the new slot shares with the old one
pub field_set : {A : Type 0} (field : Slot → A) (slots : List Slot) (i : ℕ) (x : Slot) → i < length slots → field x ≡ field (slot_at slots i) → (k : ℕ) → field (slot_at (slice_set slots i x) k) ≡ field (slot_at slots k)
field_set field slots i x h same k =
    elim (cases_eq k i) [
      | inl e ↦ subst (λ n. field (slot_at (slice_set slots i x) n) ≡ field (slot_at slots n)) (sym e) (ap field (set_same slots i x h) ∙ same)
      | inr ne ↦ ap field (set_other slots i k x ne)
    ]

-- views at and below a slot do not see it
pub view_below : (base : View) (slots : List Slot) (i : ℕ) (x : Slot) (k : ℕ) → k ≤ i → view_at base (slice_set slots i x) k ≡ view_at base slots k
unfolding view_at
view_below base slots i x zero h = refl
view_below base slots i x (suc k) h =
    let ne : k ≢ i = omega arith in
    let below : k ≤ i = omega arith in
    λ t. applied (set_other slots i k x ne t).delta (view_below base slots i x k below t)

-- no view sees a slot whose delta is as before
pub view_same : (base : View) (slots : List Slot) (i : ℕ) (x : Slot) → i < length slots → x.delta ≡ (slot_at slots i).delta → (k : ℕ) → view_at base (slice_set slots i x) k ≡ view_at base slots k
unfolding view_at
view_same base slots i x h same zero = refl
view_same base slots i x h same (suc k) =
    λ t. applied (field_set (λ y. y.delta) slots i x h same k t) (view_same base slots i x h same k t)

pub replies_below : (slots : List Slot) (i : ℕ) (x : Slot) (k : ℕ) → k ≤ i → replies_to (slice_set slots i x) k ≡ replies_to slots k
unfolding replies_to
replies_below slots i x zero h = refl
replies_below slots i x (suc k) h =
    let ne : k ≢ i = omega arith in
    let below : k ≤ i = omega arith in
    λ t. replies_below slots i x k below t ++ option_to_list (set_other slots i k x ne t).reply
