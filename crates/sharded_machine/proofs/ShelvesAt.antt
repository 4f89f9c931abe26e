-- The slots that a history leads to have what its publications shelved.
use Rattle.std.proofs.Common.{◌≡◌, ℕ, ◌<◌, inl, inr, Bool, true, false, ◌==◌, if◌then◌else◌, List, [], ◌∷◌, ◌++◌, length, map, Some, zero, suc, slice_set, replicate, refl, sym, ap, ◌∙◌, subst, arith, eq-eqb, ne_eqb}
use Rattle.std.proofs.lemmas.Bool.{false≢true, true_from_ne_false, cases_eq, cases_lt}
use Rattle.std.proofs.lemmas.List.{append_assoc, append-nil, map-append, get_or-replicate, get_or_past}
use Rattle.std.proofs.Math.ListN.{length-replicate}
use Rattle.reads.specs.Reads.{View, Delta, Read, applied, covers}
use Rattle.reads.proofs.Changes.{covers_none}
use Rattle.shards.specs.Shards.{cut, speaks}
use Rattle.incarnations.specs.declared.state.Status.TheVariants.{Ready, Executing, Executed}
use Rattle.incarnations.specs.declared.state.Event.{Event}
use Rattle.incarnations.specs.declared.state.Event.TheVariants.{Take, Read as ReadOf, Publish, Begin, Check, Commit, GiveUp}
use Rattle.incarnations.specs.declared.state.Reply.{Reply}
use Rattle.incarnations.specs.declared.state.Reply.TheVariants.{Taken, Answered, Published, Begun, Passed, Aborted, Committed, Given}
use Rattle.incarnations.specs.Slots.{Slot, fresh_slot, published}
use Rattle.validate.specs.Below.{slot_at, view_at, touching}
use Rattle.slots.specs.Slots.{status_of}
use Rattle.slots.proofs.SlotLaws.{set_same, set_other, status_within}
use Rattle.block_machine.specs.Machine.{State, after, state_after}
use Rattle.block_machine.specs.Serial.{Setting, state_of}
use Rattle.sharded_machine.specs.Histories.{ShardedEntry, entries, cut_slot, LawfulAfter, IsShardedHistory}
use Rattle.sharded_machine.specs.Shelves.{Shelved, nothing_shelved, shelf_with, shelf_after, shelf, HasShelved, shelved_in, part_after, view_in, touching_in}
use Rattle.block_machine.proofs.Theorem.{open_is}
use Rattle.block_machine.proofs.Statuses.{HasStatus}
use Rattle.sharded_machine.proofs.Statuses.{sharded_status}
use Rattle.block_machine.proofs.Archive.{same_begun, same_passed, closed_committed}
use Rattle.sharded_machine.proofs.Theorem.{state_push}
use Rattle.sharded_machine.proofs.Shelves.{silent, shelf_push}
use Rattle.sharded_machine.proofs.Parts.{slot_cut}

module _ (slots : List Slot) (i : ℕ) (x : Slot) (within : i < length slots) (j : ℕ) (y : Shelved) (h : HasShelved (slot_at slots j) y) where
  -- a slot is replaced by one with the same publication
  slot_keeps : x.delta ≡ (slot_at slots i).delta → x.version ≡ (slot_at slots i).version → HasShelved (slot_at (slice_set slots i x) j) y
  slot_keeps delta version =
      elim (cases_eq j i) [
        | inl e ↦
            let now : slot_at (slice_set slots i x) j ≡ x = ap (slot_at (slice_set slots i x)) e ∙ set_same slots i x within in
            let was : slot_at slots i ≡ slot_at slots j = ap (slot_at slots) (sym e) in
            (ap (λ (z : Slot). z.delta) now ∙ delta ∙ ap (λ (z : Slot). z.delta) was ∙ h.0, ap (λ (z : Slot). z.version) now ∙ version ∙ ap (λ (z : Slot). z.version) was ∙ h.1)
        | inr ne ↦ subst (λ (z : Slot). HasShelved z y) (sym (set_other slots i j x ne)) h
      ]

  -- or by one with another
  slot_files : (new : Shelved) → HasShelved x new → HasShelved (slot_at (slice_set slots i x) j) (if i == j then new else y)
  slot_files new own =
      elim (cases_eq j i) [
        | inl e ↦
            let now : slot_at (slice_set slots i x) j ≡ x = ap (slot_at (slice_set slots i x)) e ∙ set_same slots i x within in
            subst (λ (z : Slot). HasShelved z (if i == j then new else y)) (sym now) (subst (λ (z : Shelved). HasShelved x z) (sym (ap (λ b. if b then new else y) (eq-eqb i j (sym e)))) own)
        | inr ne ↦
            subst (λ (z : Slot). HasShelved z (if i == j then new else y)) (sym (set_other slots i j x ne))
            (subst (λ (z : Shelved). HasShelved (slot_at slots j) z) (sym (ap (λ b. if b then new else y) (ne_eqb i j (λ e. ne (sym e))))) h)
      ]

shelved_step : (s : State) (w : ℕ) (e : Event) (r : Reply) → HasStatus s.slots w e r → (j : ℕ) (y : Shelved) → HasShelved (slot_at s.slots j) y → HasShelved (slot_at (after s w e r).slots j) (shelf_with j y e r)
shelved_step s w (Take i) (Taken n) st j y h = slot_keeps s.slots i _ (status_within s.slots i (Ready n) st).0 j y h refl refl
shelved_step s w (ReadOf i n read) (Answered a) st j y h = slot_keeps s.slots i _ (status_within s.slots i (Executing n w) st).0 j y h refl refl
shelved_step s w (Publish i n (Some f)) Published st j y h =
    slot_files s.slots i (published (slot_at s.slots i) n f s.clock) (status_within s.slots i (Executing n w) st).0 j y h (record { delta = f.delta; version = n }) (refl, refl)
shelved_step s w (Begin i n) Begun st j y h =
    let same = same_begun (slot_at s.slots i) (slot_at s.slots i).notes s.clock in
    slot_keeps s.slots i _ (status_within s.slots i (Executed n) st).0 j y h same.delta same.version
shelved_step s w (Check i n) Passed st j y h =
    let same = same_passed (slot_at s.slots i) (slot_at s.slots i).pass in
    slot_keeps s.slots i _ (status_within s.slots i (Executed n) st).0 j y h same.delta same.version
shelved_step s w (Check i n) Aborted st j y h = slot_keeps s.slots i _ (status_within s.slots i (Executed n) st).0 j y h refl refl
shelved_step s w (Commit i) Committed st j y h =
    let o = open_is (status_of s.slots i) st in
    let closed = closed_committed (slot_at s.slots i) (slot_at s.slots i).status refl in
    slot_keeps s.slots i _ (status_within s.slots i o.0 o.1).0 j y h closed.delta closed.version
shelved_step s w (GiveUp i n) Given st j y h = slot_keeps s.slots i _ (status_within s.slots i (Executing n w) st).0 j y h refl refl
shelved_step s w event reply st j y h = h

shelved_after : (m : Setting) (before history : List ShardedEntry) (j : ℕ) → HasShelved (slot_at (state_of m (entries before)).slots j) (shelf j (entries before)) → LawfulAfter m before history
    → HasShelved (slot_at (state_of m (entries (before ++ history))).slots j) (shelf j (entries (before ++ history)))
shelved_after m before [] j h lawful = subst (λ (es : List ShardedEntry). HasShelved (slot_at (state_of m (entries es)).slots j) (shelf j (entries es))) (sym (append-nil before)) h
shelved_after m before (e ∷ es) j h lawful =
    let next =
    shelved_step (state_of m (entries before)) e.entry.worker e.entry.event e.entry.reply (sharded_status m before e.entry.worker e.entry.event e.entry.reply e.lengths lawful.0.0) j (shelf j (entries before)) h in
    let shelves : shelf j (entries (before ++ e ∷ [])) ≡ shelf_with j (shelf j (entries before)) e.entry.event e.entry.reply =
    ap (shelf j) (map-append (λ (x : ShardedEntry). x.entry) before (e ∷ [])) ∙ shelf_push j nothing_shelved (entries before) e.entry in
    subst (λ (xs : List ShardedEntry). HasShelved (slot_at (state_of m (entries xs)).slots j) (shelf j (entries xs))) (append_assoc before (e ∷ []) es)
    (shelved_after m (before ++ e ∷ []) es j
    (subst (λ (z : Shelved). HasShelved (slot_at (state_of m (entries (before ++ e ∷ []))).slots j) z) (sym shelves)
    (subst (λ (t : State). HasShelved (slot_at t.slots j) (shelf_with j (shelf j (entries before)) e.entry.event e.entry.reply)) (sym (state_push m before e)) next))
    lawful.1)

fresh_shelved : (size j : ℕ) → HasShelved (slot_at (replicate size fresh_slot) j) nothing_shelved
fresh_shelved size j = subst (λ (x : Slot). HasShelved x nothing_shelved) (sym at) (refl, refl)
  where
    at : slot_at (replicate size fresh_slot) j ≡ fresh_slot
    at =
        elim (cases_lt j (length (replicate size fresh_slot))) [
          | inl lt ↦ get_or-replicate size j fresh_slot fresh_slot (let l = length-replicate size fresh_slot in omega (arith, l, lt))
          | inr ge ↦ get_or_past (replicate size fresh_slot) j fresh_slot ge
        ]

-- After a history each slot has what was published last.
pub shelves_are : (m : Setting) (history : List ShardedEntry) (j : ℕ) → IsShardedHistory m history → HasShelved (slot_at (state_of m (entries history)).slots j) (shelf j (entries history))
unfolding IsShardedHistory state_after shelf_after
shelves_are m history j lawful = shelved_after m [] history j (fresh_shelved m.size j) lawful

-- ---- what is found in a part

-- a change that covers a read speaks of something
covers_speaks : (c : Delta) (r : Read) → covers c r ≡ true → speaks c ≡ true
covers_speaks c r h = true_from_ne_false (speaks c) (λ e. false≢true (sym (covers_none r) ∙ ap (λ (d : Delta). covers d r) (sym (silent c e)) ∙ h))

-- a request in a touching list, if it is one
abbrev listed_if : Bool → ℕ → ℕ → List (ℕ × ℕ)
listed_if b j version = if b then (j, version) ∷ [] else []

module _ (k : ℕ) (slots : List Slot) (shelves : ℕ → Shelved) (are : (j : ℕ) → HasShelved (slot_at slots j) (shelves j)) where
  delta_in : (j : ℕ) → (slot_at (map (cut_slot k) slots) j).delta ≡ (shelved_in k (shelves j)).delta
  delta_in j = ap (λ (x : Slot). x.delta) (slot_cut k slots j) ∙ ap (cut k) (are j).0

  view_found : (base : View) (i : ℕ) → view_at base (map (cut_slot k) slots) i ≡ view_in base (λ j. shelved_in k (shelves j)) i
  unfolding view_at view_in
  view_found base zero = refl
  view_found base (suc i) = λ t. applied (delta_in i t) (view_found base i t)

  item_found : (j : ℕ) (r : Read) (b : Bool) → covers (shelved_in k (shelves j)).delta r ≡ b
      → listed_if b j (slot_at (map (cut_slot k) slots) j).version ≡ listed_if b j (shelved_in k (shelves j)).version
  item_found j r true e =
      let speak = covers_speaks (cut k (shelves j).delta) r e in
      let version : (slot_at (map (cut_slot k) slots) j).version ≡ (shelved_in k (shelves j)).version =
      ap (λ (x : Slot). x.version) (slot_cut k slots j) ∙ (are j).1 ∙ sym (ap (λ b. if b then (shelves j).version else 0) speak) in
      ap (listed_if true j) version
  item_found j r false e = refl

  list_found : (i : ℕ) (r : Read) → touching (map (cut_slot k) slots) i r ≡ touching_in (λ j. shelved_in k (shelves j)) i r
  unfolding touching touching_in
  list_found zero r = refl
  list_found (suc j) r =
      (λ t. list_found j r t ++ listed_if (covers (delta_in j t) r) j (slot_at (map (cut_slot k) slots) j).version)
      ∙ ap (λ ts. touching_in (λ j. shelved_in k (shelves j)) j r ++ ts) (item_found j r (covers (shelved_in k (shelves j)).delta r) refl)

-- What is found in a part is in the shard's part alone: the view, and so the answer, and the
-- touching list.
pub found_in_part : (m : Setting) (history : List ShardedEntry) (k i : ℕ) (r : Read) → IsShardedHistory m history
    → (view_at m.base (map (cut_slot k) (state_of m (entries history)).slots) i ≡ view_in m.base (part_after k (entries history)) i)
    × (touching (map (cut_slot k) (state_of m (entries history)).slots) i r ≡ touching_in (part_after k (entries history)) i r)
found_in_part m history k i r lawful =
    let slots = (state_of m (entries history)).slots in
    let are : (j : ℕ) → HasShelved (slot_at slots j) (shelf j (entries history)) = λ j. shelves_are m history j lawful in
    (view_found k slots (λ j. shelf j (entries history)) are m.base i, list_found k slots (λ j. shelf j (entries history)) are i r)
