-- How a changed slot keeps what the machine has beside its state.
use Rattle.std.proofs.Common.{◌≡◌, ◌≢◌, ℕ, zero, suc, ◌<◌, ◌≤◌, inl, inr, true, false, ◌&&◌, List, length, map, Some, slice_set, slice_get, option_map, replicate, Option, None, ◌+◌, max, refl, sym, ap, ◌∙◌, subst, arith, leb-true}
use Rattle.std.specs.Prelude.{nat_le, ◌==◌}
use Rattle.std.specs.Cmp.{both_ways}
use Rattle.std.proofs.lemmas.List.{get_or_past}
use Rattle.std.proofs.lemmas.Option.{slice_get_within}
use Rattle.std.proofs.lemmas.Bool.{cases_lt, cases_eq, false≢true, and_parts, and_from, eqb-true}
use Rattle.stamp_tree.specs.declared.standing.Standing.{Standing}
use Rattle.incarnations.specs.declared.state.Status.{Status}
use Rattle.incarnations.specs.declared.state.Status.TheVariants.{Ready, Executing, Executed, Committed as HasCommitted}
use Rattle.incarnations.specs.Slots.{Slot, fresh_slot, committed}
use Rattle.incarnations.specs.Statuses.{is_closed, is_executed}
use Rattle.incarnations.specs.Standings.{standing_of}
use Rattle.validate.specs.Below.{slot_at}
use Rattle.slots.specs.Slots.{status_of}
use Rattle.slots.proofs.SlotLaws.{set_same, set_other, status_within, status_at}
use Rattle.block_machine.specs.Machine.{State, can_commit, is_current, is_stamped}
use Rattle.block_machine.specs.Beside.{KeepsBeside}

current_below : (slots : List Slot) (i : ℕ) (x : Slot) (k moment : ℕ) → k ≤ i → is_current (slice_set slots i x) k moment ≡ is_current slots k moment
unfolding is_current
current_below slots i x zero moment le = refl
current_below slots i x (suc k) moment le =
    let ne : k ≢ i = omega arith in
    let below : k ≤ i = omega arith in
    λ t. nat_le (set_other slots i k x ne t).changed moment && current_below slots i x k moment below t

leb-from : (a b : ℕ) → a ≤ b → nat_le a b ≡ true
leb-from a b h = grind (arith, h)

pub max_le : (a b m : ℕ) → (nat_le b m && nat_le a m) ≡ nat_le (max a b) m
max_le a b m =
    both_ways (nat_le b m && nat_le a m) (nat_le (max a b) m)
    (λ e. let p = and_parts (nat_le b m) (nat_le a m) e in
    let l : b ≤ m = leb-true _ _ p.0 in
    let k : a ≤ m = leb-true _ _ p.1 in
    leb-from (max a b) m (omega arith))
    (λ e. let l : max a b ≤ m = leb-true _ _ e in
    and_from (nat_le b m) (nat_le a m) (leb-from b m (omega arith)) (leb-from a m (omega arith)))

pub open_within : (slots : List Slot) (i : ℕ) → is_closed (status_of slots i) ≡ false → i < length slots
open_within slots i still = go (slice_get slots i) refl still
  where
    go : (o : Option Slot) → slice_get slots i ≡ o → is_closed (option_map (λ (x : Slot). x.status) o) ≡ false → i < length slots
    go None e f = absurd (false≢true (sym f))
    go (Some x) e f = slice_get_within slots i x e

module _ (slots : List Slot) (front latest : ℕ) (standings : List Standing) (k : KeepsBeside slots front latest standings) where
  -- an open request is none of those below the front
  open_above : (i : ℕ) → is_closed (Some (slot_at slots i).status) ≡ false → front ≤ i
  open_above i still = elim (cases_lt i front) [ inl lt ↦ absurd (false≢true (sym still ∙ k.closed i lt)) | inr ge ↦ ge ]

  -- the front is of the block
  pub front_in : front ≤ length slots
  front_in =
      elim (cases_lt (length slots) front) [
        | inl lt ↦ absurd (false≢true (ap (λ (x : Slot). is_closed (Some x.status)) (sym (get_or_past slots (length slots) fresh_slot (omega arith))) ∙ k.closed (length slots) lt))
        | inr ge ↦ ge
      ]

  -- a slot of an open status, changed
  pub keeps_by : (i : ℕ) (st : Status) → status_of slots i ≡ Some st → is_closed (Some st) ≡ false → (x : Slot) (next : List Standing) → next ≡ map standing_of (slice_set slots i x) → KeepsBeside (slice_set slots i x) front latest next
  keeps_by i st is still x next stand =
      let w = status_within slots i st is in
      let above = open_above i (ap (λ z. is_closed (Some z)) w.1 ∙ still) in
      record {
        changes = λ moment. current_below slots i x front moment above ∙ k.changes moment;
        closed = λ j below. ap (λ (y : Slot). is_closed (Some y.status)) (set_other slots i j x (omega (arith, above, below))) ∙ k.closed j below;
        standings_are = stand;
      }

  -- the same of a request that is not closed
  pub keeps_open : (i : ℕ) → is_closed (status_of slots i) ≡ false → (x : Slot) (next : List Standing) → next ≡ map standing_of (slice_set slots i x) → KeepsBeside (slice_set slots i x) front latest next
  keeps_open i still x next stand =
      let lt = open_within slots i still in
      keeps_by i (slot_at slots i).status (status_at slots i lt) (ap is_closed (sym (status_at slots i lt)) ∙ still) x next stand

  -- the front is committed
  pub keeps_commit : (x : Slot) (next : List Standing) → front < length slots → x.changed ≡ (slot_at slots front).changed → is_closed (Some x.status) ≡ true → next ≡ map standing_of (slice_set slots front x)
      → KeepsBeside (slice_set slots front x) (suc front) (max latest (slot_at slots front).changed) next
  unfolding is_current
  keeps_commit x next lt at shut stand =
      let here = set_same slots front x lt in
      record {
        changes = λ moment.
            (λ t. nat_le (here t).changed moment && current_below slots front x front moment (omega arith) t)
            ∙ (λ t. nat_le (at t) moment && k.changes moment t)
            ∙ max_le latest (slot_at slots front).changed moment;
        closed = λ j below.
            elim (cases_eq j front) [
              | inl e ↦ ap (λ (y : Slot). is_closed (Some y.status)) (ap (slot_at (slice_set slots front x)) e ∙ here) ∙ shut
              | inr ne ↦ ap (λ (y : Slot). is_closed (Some y.status)) (set_other slots front j x ne) ∙ k.closed j (omega (arith, ne, below))
            ];
        standings_are = stand;
      }

-- ---- a commit

pub committed-changed : (x : Slot) (st : Status) → (committed x st).changed ≡ x.changed
committed-changed x (Ready n) = refl
committed-changed x (Executing n w) = refl
committed-changed x (Executed n) = refl
committed-changed x (HasCommitted n) = refl

pub committed-closed : (x : Slot) (st : Status) → is_executed st ≡ true → is_closed (Some (committed x st).status) ≡ true
committed-closed x (Executed n) e = refl
committed-closed x (Ready n) e = absurd (false≢true e)
committed-closed x (Executing n w) e = absurd (false≢true e)
committed-closed x (HasCommitted n) e = absurd (false≢true e)

pub keeps_committed : (slots : List Slot) (front latest next : ℕ) (standings stand : List Standing) → KeepsBeside slots front latest standings → (s : State) → s.slots ≡ slots → s.front ≡ front → (i : ℕ) → is_closed (status_of slots i) ≡ false → can_commit s i ≡ true
    → (x : Slot) → x ≡ committed (slot_at slots i) (slot_at slots i).status → next ≡ max latest (slot_at slots i).changed → stand ≡ map standing_of (slice_set slots i x)
    → KeepsBeside (slice_set slots i x) (front + 1) next stand
keeps_committed slots front latest next standings stand k s same first i still can x made e stands =
    let lt = open_within slots i still in
    let p = and_parts (i == s.front) (is_executed (slot_at s.slots i).status && is_stamped s.slots i (slot_at s.slots i).stamp) can in
    let q = and_parts (is_executed (slot_at s.slots i).status) (is_stamped s.slots i (slot_at s.slots i).stamp) p.1 in
    let here : front ≡ i = sym first ∙ sym (eqb-true i s.front p.0) in
    let done_executed : is_executed (slot_at slots i).status ≡ true = ap (λ (ss : List Slot). is_executed (slot_at ss i).status) (sym same) ∙ q.0 in
    let more : suc i ≡ front + 1 = omega (arith, here) in
    let done =
    keeps_commit slots i latest standings (subst (λ n. KeepsBeside slots n latest standings) here k) x stand lt
    (ap (λ (w : Slot). w.changed) made ∙ committed-changed (slot_at slots i) (slot_at slots i).status)
    (ap (λ (w : Slot). is_closed (Some w.status)) made ∙ committed-closed (slot_at slots i) (slot_at slots i).status done_executed) stands in
    subst (λ n. KeepsBeside (slice_set slots i x) (front + 1) n stand) (sym e)
    (subst (λ n. KeepsBeside (slice_set slots i x) n (max latest (slot_at slots i).changed) stand) more done)

pub keeps_new : (slots : List Slot) (n : ℕ) (standings : List Standing) → slots ≡ replicate n fresh_slot → standings ≡ map standing_of slots → KeepsBeside slots 0 0 standings
unfolding is_current
keeps_new slots n standings e stands =
    record {
      changes = λ moment. sym (leb-from 0 moment (omega arith));
      closed = λ j below. absurd (omega (arith, below));
      standings_are = stands;
    }
