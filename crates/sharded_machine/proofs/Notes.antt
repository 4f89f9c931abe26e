-- Every noted answer is made of its own parts.
use Rattle.std.proofs.Common.{◌≡◌, ℕ, inl, inr, List, [], ◌∷◌, ◌++◌, length, Some, None, zero, suc, slice_get, slice_set, replicate, refl, sym, ap, ◌∙◌, subst, arith}
use Rattle.std.proofs.lemmas.Bool.{cases_eq, cases_lt}
use Rattle.std.proofs.lemmas.List.{get_or-replicate, get_or_past}
use Rattle.std.proofs.Math.ListN.{length-replicate}
use Rattle.reads.specs.Reads.{Read, Answer}
use Rattle.incarnations.specs.declared.state.Status.{Status}
use Rattle.incarnations.specs.declared.state.Status.TheVariants.{Ready, Executing, Executed}
use Rattle.incarnations.specs.declared.state.Event.{Event}
use Rattle.incarnations.specs.declared.state.Event.TheVariants.{Take, Read as ReadOf, Publish, Begin, Check, Commit, GiveUp}
use Rattle.incarnations.specs.declared.state.Reply.{Reply}
use Rattle.incarnations.specs.declared.state.Reply.TheVariants.{Taken, Answered, Published, Begun, Passed, Aborted, Committed, Given}
use Rattle.incarnations.specs.Slots.{Noted, Slot, fresh_slot, with_note}
use Rattle.validate.specs.Below.{slot_at, view_at, touching}
use Rattle.slots.specs.Slots.{status_of}
use Rattle.slots.proofs.SlotLaws.{set_same, set_other, status_within}
use Rattle.shards.proofs.FoundParts.{whole_answer}
use Rattle.block_machine.specs.Machine.{State, after}
use Rattle.block_machine.specs.Serial.{Setting, state_of}
use Rattle.sharded_machine.specs.Histories.{ShardedEntry, entries, Part, IsAllowedAfter}
use Rattle.block_machine.proofs.Theorem.{unless_execution, open_is}
use Rattle.block_machine.proofs.Statuses.{HasStatus}
use Rattle.sharded_machine.proofs.Statuses.{sharded_status}
use Rattle.block_machine.proofs.Archive.{same_begun, same_passed, closed_committed}
use Rattle.sharded_machine.proofs.Parts.{IsWhole}

abbrev pub AllWhole : List Noted → Type 0
AllWhole [] = Unit {0}
AllWhole (n ∷ ns) = IsWhole n.read n.answer × AllWhole ns

abbrev pub WholeNotes : List Slot → Type 0
WholeNotes slots = (j : ℕ) → AllWhole (slot_at slots j).notes

whole_append : (ns : List Noted) (n : Noted) → AllWhole ns → IsWhole n.read n.answer → AllWhole (ns ++ n ∷ [])
whole_append [] n h w = (w, tt)
whole_append (x ∷ xs) n h w = (h.0, whole_append xs n h.1 w)

whole_set : (slots : List Slot) (i : ℕ) (st : Status) (x : Slot) → status_of slots i ≡ Some st → WholeNotes slots → AllWhole x.notes → WholeNotes (slice_set slots i x)
whole_set slots i st x is h own j =
    elim (cases_eq j i) [
      | inl e ↦ subst (λ (y : Slot). AllWhole y.notes) (sym (ap (slot_at (slice_set slots i x)) e ∙ set_same slots i x (status_within slots i st is).0)) own
      | inr ne ↦ subst (λ (y : Slot). AllWhole y.notes) (sym (set_other slots i j x ne)) (h j)
    ]

-- each event but an answered read
whole_step : (s : State) (w : ℕ) (e : Event) (r : Reply) → HasStatus s.slots w e r → WholeNotes s.slots → ((i n : ℕ) (read : Read) (a : Answer) → e ≡ ReadOf i n read → r ≡ Answered a → IsWhole read a) → WholeNotes (after s w e r).slots
whole_step s w (Take i) (Taken n) st h reads = whole_set s.slots i (Ready n) _ st h tt
whole_step s w (ReadOf i n read) (Answered a) st h reads =
    whole_set s.slots i (Executing n w) (with_note (slot_at s.slots i) (record { read = read; answer = a; touching = touching s.slots i read })) st h
    (whole_append (slot_at s.slots i).notes (record { read = read; answer = a; touching = touching s.slots i read }) (h i) (reads i n read a refl refl))
whole_step s w (Publish i n (Some f)) Published st h reads = whole_set s.slots i (Executing n w) _ st h (h i)
whole_step s w (Begin i n) Begun st h reads =
    whole_set s.slots i (Executed n) _ st h (subst AllWhole (sym (same_begun (slot_at s.slots i) (slot_at s.slots i).notes s.clock).notes) (h i))
whole_step s w (Check i n) Passed st h reads =
    whole_set s.slots i (Executed n) _ st h (subst AllWhole (sym (same_passed (slot_at s.slots i) (slot_at s.slots i).pass).notes) (h i))
whole_step s w (Check i n) Aborted st h reads = whole_set s.slots i (Executed n) _ st h tt
whole_step s w (Commit i) Committed st h reads =
    let o = open_is (status_of s.slots i) st in
    whole_set s.slots i o.0 _ o.1 h (subst AllWhole (sym (closed_committed (slot_at s.slots i) (slot_at s.slots i).status refl).notes) (h i))
whole_step s w (GiveUp i n) Given st h reads = whole_set s.slots i (Executing n w) _ st h tt
whole_step s w event reply st h reads = h

-- an answer that is found is made of its own parts
found_whole : (m : Setting) (history : List ShardedEntry) (w : ℕ) (e : Event) (r : Reply) (lengths : List ℕ) → IsAllowedAfter m history w e r lengths → (i n : ℕ) (read : Read) (a : Answer) → e ≡ ReadOf i n read → r ≡ Answered a → IsWhole read a
found_whole m history w e r lengths allowed i n read a is told =
    let h = subst (λ (x : Event). IsAllowedAfter m history w x (Answered a) lengths) is (subst (λ (y : Reply). IsAllowedAfter m history w e y lengths) told allowed) in
    let u = unless_execution (status_of (state_of m (entries history)).slots i) n w (Answered a) _ (λ e. cc) (λ e. cc) h.1 in
    subst (λ (b : Answer). IsWhole read b) (sym u.1.1) (whole_answer (λ (p : Part). p.shard) (λ (p : Part). view_at m.base p.slots i) read _)

pub whole_after : (m : Setting) (history : List ShardedEntry) (w : ℕ) (e : Event) (r : Reply) (lengths : List ℕ) → IsAllowedAfter m history w e r lengths → WholeNotes (state_of m (entries history)).slots
    → WholeNotes (after (state_of m (entries history)) w e r).slots
whole_after m history w e r lengths allowed h =
    whole_step (state_of m (entries history)) w e r (sharded_status m history w e r lengths allowed) h (found_whole m history w e r lengths allowed)

pub whole_nothing : (size : ℕ) → WholeNotes (replicate size fresh_slot)
whole_nothing size j = subst (λ (x : Slot). AllWhole x.notes) (sym at) tt
  where
    at : slot_at (replicate size fresh_slot) j ≡ fresh_slot
    at =
        elim (cases_lt j (length (replicate size fresh_slot))) [
          | inl lt ↦ get_or-replicate size j fresh_slot fresh_slot (let l = length-replicate size fresh_slot in omega (arith, l, lt))
          | inr ge ↦ get_or_past (replicate size fresh_slot) j fresh_slot ge
        ]

-- a note among them
pub whole_at : (ns : List Noted) (k : ℕ) (n : Noted) → AllWhole ns → slice_get ns k ≡ Some n → IsWhole n.read n.answer
whole_at [] k n h e = absurd (let d : None ≡ Some n = e in (cc))
whole_at (x ∷ xs) zero n h e =
    let is : x ≡ n = (let d : Some x ≡ Some n = e in (cc)) in
    subst (λ (z : Noted). IsWhole z.read z.answer) is h.0
whole_at (x ∷ xs) (suc k) n h e = whole_at xs k n h.1 e
