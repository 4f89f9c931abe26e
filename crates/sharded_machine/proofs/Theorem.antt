-- Each entry that is lawful in sixteen shards keeps the invariant, so each history does.
use Rattle.std.proofs.Common.{◌≡◌, ℕ, ◌+◌, ◌≤◌, inl, inr, Bool, true, false, ◌==◌, ◌&&◌, if◌then◌else◌, List, [], ◌∷◌, ◌++◌, length, length-append, Option, Some, None, slice_get, slice_set, refl, sym, ap, ◌∙◌, subst, arith, eqb-true, eq-eqb}
use Rattle.std.proofs.lemmas.Bool.{cases_lt}
use Rattle.std.proofs.lemmas.List.{append_assoc, append-nil, map-append, take_all, take-append-le}
use Rattle.reads.specs.Reads.{View}
use Rattle.incarnations.specs.declared.state.Status.{Status}
use Rattle.incarnations.specs.declared.state.Status.TheVariants.{Executing, Executed}
use Rattle.incarnations.specs.declared.state.Pass.{Pass}
use Rattle.incarnations.specs.declared.state.Event.{Event}
use Rattle.incarnations.specs.declared.state.Event.TheVariants.{Take, Read as ReadOf, Publish, Begin, Check, Commit, GiveUp}
use Rattle.incarnations.specs.declared.state.Reply.{Reply}
use Rattle.incarnations.specs.declared.state.Reply.TheVariants.{Answered, Passed, Aborted, Stale, NotYet}
use Rattle.incarnations.specs.Slots.{Noted, Slot, passed}
use Rattle.incarnations.specs.Statuses.{is_closed, executed_refusal}
use Rattle.validate.specs.Below.{slot_at}
use Rattle.slots.specs.Slots.{status_of}
use Rattle.slots.proofs.SlotLaws.{status_within}
use Rattle.shards.specs.Shards.{shards_of}
use Rattle.block_machine.specs.Machine.{State, fresh, after, state_after}
use Rattle.block_machine.specs.Serial.{Setting, IsSetting, IsSoundEntry, state_of}
use Rattle.sharded_machine.specs.Histories.{ShardedEntry, entries, state_at, opening_of, found_lengths, RiseWithin, KeepsLengths, Part, parts_found, SameParts, standing_pass, checked_note, shards_checked, NoteFound, CheckFound, pass_checked, check_shards, IsAllowedAfter, IsLawfulAfter, LawfulAfter, IsShardedHistory}
use Rattle.block_machine.proofs.Invariant.{is_done, Invariant}
use Rattle.block_machine.proofs.Theorem.{unless_execution, unless_executed, execution_kept, pass_kept, abort_kept, keeps, fresh_holds, state_after-push}
use Rattle.sharded_machine.proofs.Parts.{Laws, same_now}
use Rattle.sharded_machine.proofs.Notes.{WholeNotes, whole_after, whole_nothing, whole_at}

-- ---- what a passed check says

-- the pass that stands, and the one after the opening with the same start
pub record Stands (now opened : Option Pass) (p : Pass) : Type 0 where
  pub now_is : now ≡ Some p
  pub was : Pass
  pub opened_is : opened ≡ Some was
  pub start : p.start ≡ was.start

standing_is : (now opened : Option Pass) (p : Pass) → standing_pass now opened ≡ Some p → Stands now opened p
standing_is None opened p h = absurd (let d : None ≡ Some p = h in (cc))
standing_is (Some q) None p h = absurd (let d : None ≡ Some p = h in (cc))
standing_is (Some q) (Some was) p h = go (q.start == was.start) (q.next == was.next) refl h
  where
    go : (a b : Bool) → (q.start == was.start) ≡ a → (if (a && b) then Some q else None) ≡ Some p → Stands (Some q) (Some was) p
    go true true e h =
        let is : q ≡ p = (let d : Some q ≡ Some p = h in (cc)) in
        record { now_is = ap Some is; was = was; opened_is = refl; start = ap (λ (z : Pass). z.start) (sym is) ∙ eqb-true q.start was.start e }
    go true false e h = absurd (let d : None ≡ Some p = h in (cc))
    go false b e h = absurd (let d : None ≡ Some p = h in (cc))

-- a pass, its next note, and the answer found
pub record Found (base : View) (parts : List Part) (i : ℕ) (notes : List Noted) (o : Option Pass) : Type 0 where
  pub pass : Pass
  pub note : Noted
  pub stands : o ≡ Some pass
  pub next : slice_get notes pass.next ≡ Some note
  pub answer : SameParts base parts i note

passed_found : (base : View) (opened : List Slot) (parts : List Part) (noted : List (List (List (ℕ × ℕ)))) (i : ℕ) (notes : List Noted) (o : Option Pass)
    → CheckFound base opened parts noted i notes o Passed → Found base parts i notes o
passed_found base opened parts noted i notes None h = absurd (let d : Passed ≡ NotYet = h in (cc))
passed_found base opened parts noted i notes (Some p) h = go (slice_get notes p.next) refl h
  where
    go : (o : Option Noted) → slice_get notes p.next ≡ o → NoteFound base opened parts (slice_get noted p.next) i o Passed → Found base parts i notes (Some p)
    go None e h = absurd h
    go (Some note) e h = record { pass = p; note = note; stands = refl; next = e; answer = h.1 }

-- what an executed request's check is refused for: nothing
pub not_refused : (o : Option Status) (n : ℕ) → o ≡ Some (Executed n) → executed_refusal o n ≡ None
not_refused o n e = ap (λ (s : Option Status). executed_refusal s n) e ∙ at (n == n) (eq-eqb n n refl)
  where
    at : (b : Bool) → b ≡ true → (if b then None else Some Stale) ≡ None
    at true h = refl
    at false h = cc

-- the first length is that of the opening
pub opened_within : (shards lengths : List ℕ) (whole : ℕ) → length lengths ≡ length shards + 1 → RiseWithin 0 lengths whole → (length (found_lengths lengths) ≡ length shards) × RiseWithin (opening_of lengths) (found_lengths lengths) whole
opened_within shards [] whole len rise = absurd (omega (arith, len))
opened_within shards (n ∷ ns) whole len rise = ((let e : length ns ≡ length shards = omega (arith, len) in e), rise.1)

-- ---- one entry

-- after each beginning the invariant holds
abbrev pub HoldsThroughout : Setting → List ShardedEntry → Type 0
HoldsThroughout m history = (n : ℕ) → Invariant m (state_at m history n)

-- and each noted answer is made of its own parts
pub record Held (m : Setting) (history : List ShardedEntry) : Type 0 where
  pub each : HoldsThroughout m history
  pub whole : WholeNotes (state_of m (entries history)).slots

module _ (laws : Laws) (m : Setting) (ok : IsSetting m) (history : List ShardedEntry) (held : HoldsThroughout m history) (inv : Invariant m (state_of m (entries history))) (whole : WholeNotes (state_of m (entries history)).slots) where
  abbrev s : State
  s = state_of m (entries history)

  check_passed : (i n w : ℕ) (lengths : List ℕ) → status_of s.slots i ≡ Some (Executed n) → KeepsLengths history w (check_shards m history i n lengths) lengths
      → Found m.base (parts_found m history (check_shards m history i n lengths) (found_lengths lengths)) i (slot_at s.slots i).notes (pass_checked m history i lengths)
      → Invariant m (after s w (Check i n) Passed)
  check_passed i n w lengths st kept found =
      subst (λ (o : Option Pass). Invariant m (record { slots = slice_set s.slots i (passed (slot_at s.slots i) o); clock = s.clock; front = s.front })) (sym stands.now_is)
      (pass_kept laws.deltas m s inv i n w st found.pass stands.now_is found.note found.next
      (λ clear.
      same_now laws m history i found.pass.start clear found.note ok.base.set (whole_at (slot_at s.slots i).notes found.pass.next found.note (whole i) found.next)
      (opening_of lengths) (found_lengths lengths) begun within.0 within.1
      (subst (λ (ks : List ℕ). SameParts m.base (parts_found m history ks (found_lengths lengths)) i found.note) shards_are found.answer)))
    where
      stands : Stands (slot_at s.slots i).pass (slot_at (state_at m history (opening_of lengths)).slots i).pass found.pass
      stands = standing_is (slot_at s.slots i).pass (slot_at (state_at m history (opening_of lengths)).slots i).pass found.pass found.stands

      shards_are : check_shards m history i n lengths ≡ shards_of found.note.read
      shards_are =
          ap (λ (o : Option Reply). shards_checked (checked_note o (slot_at s.slots i).notes (pass_checked m history i lengths))) (not_refused (status_of s.slots i) n st)
          ∙ ap (λ (o : Option Pass). shards_checked (checked_note None (slot_at s.slots i).notes o)) found.stands
          ∙ ap shards_checked found.next

      within : (length (found_lengths lengths) ≡ length (shards_of found.note.read)) × RiseWithin (opening_of lengths) (found_lengths lengths) (length history)
      within = opened_within (shards_of found.note.read) lengths (length history) (kept.one_each ∙ ap (λ (ks : List ℕ). length ks + 1) shards_are) kept.rise

      -- the opening's clock had reached the start of the pass, since the pass stood there
      begun : found.pass.start ≤ (state_at m history (opening_of lengths)).clock
      begun =
          let before = held (opening_of lengths) in
          let here = (status_within s.slots i (Executed n) st).0 in
          let size = inv.size in
          let size' = before.size in
          let p = (before.each i (omega (arith, here, size, size'))).pass stands.was stands.opened_is in
          let start = p.start in
          let same = stands.start in
          omega (arith, start, same)

  pub sharded_keeps : (w : ℕ) (e : Event) (r : Reply) (lengths : List ℕ) → IsAllowedAfter m history w e r lengths → IsSoundEntry m e r → Invariant m (after s w e r)
  sharded_keeps w (ReadOf i n read) (Answered a) lengths h sound =
      let u = unless_execution (status_of s.slots i) n w (Answered a) _ (λ e. cc) (λ e. cc) h.1 in
      execution_kept laws.deltas m s inv i n w _ u.0 refl refl refl refl (ap is_done (status_within s.slots i (Executing n w) u.0).1) (ap (λ (z : Status). is_closed (Some z)) (status_within s.slots i (Executing n w) u.0).1)
  sharded_keeps w (ReadOf i n read) r lengths h sound = inv
  sharded_keeps w (Check i n) Passed lengths h sound =
      let u = unless_executed (status_of s.slots i) n Passed _ (λ e. cc) h.1 in
      check_passed i n w lengths u.0 h.0 (passed_found _ _ _ _ i _ _ u.1)
  sharded_keeps w (Check i n) Aborted lengths h sound =
      let u = unless_executed (status_of s.slots i) n Aborted _ (λ e. cc) h.1 in
      abort_kept laws.deltas m s inv i n w u.0
  sharded_keeps w (Check i n) r lengths h sound = inv
  sharded_keeps w (Take i) r lengths h sound = keeps laws.deltas m s inv ok w (Take i) r h.1 sound
  sharded_keeps w (Publish i n finished) r lengths h sound = keeps laws.deltas m s inv ok w (Publish i n finished) r h.1 sound
  sharded_keeps w (Begin i n) r lengths h sound = keeps laws.deltas m s inv ok w (Begin i n) r h.1 sound
  sharded_keeps w (Commit i) r lengths h sound = keeps laws.deltas m s inv ok w (Commit i) r h.1 sound
  sharded_keeps w (GiveUp i n) r lengths h sound = keeps laws.deltas m s inv ok w (GiveUp i n) r h.1 sound

-- ---- whole histories

pub state_push : (m : Setting) (history : List ShardedEntry) (e : ShardedEntry) → state_of m (entries (history ++ e ∷ [])) ≡ after (state_of m (entries history)) e.entry.worker e.entry.event e.entry.reply
state_push m history e =
    ap (state_of m) (map-append (λ (x : ShardedEntry). x.entry) history (e ∷ [])) ∙ state_after-push (fresh m.size) (entries history) e.entry

held_whole : (m : Setting) (history : List ShardedEntry) → HoldsThroughout m history → Invariant m (state_of m (entries history))
held_whole m history held =
    subst (λ (es : List ShardedEntry). Invariant m (state_of m (entries es))) (take_all (length history) history (let l : length history ≤ length history = omega arith in l)) (held (length history))

held_push : Laws → (m : Setting) → IsSetting m → (history : List ShardedEntry) (e : ShardedEntry) → Held m history → IsLawfulAfter m history e → Held m (history ++ e ∷ [])
held_push laws m ok history e held lawful =
    record {
      each = each;
      whole = subst (λ (t : State). WholeNotes t.slots) (sym (state_push m history e)) (whole_after m history e.entry.worker e.entry.event e.entry.reply e.lengths lawful.0 held.whole);
    }
  where
    long : (n : ℕ) → length history + 1 ≤ n → length (history ++ e ∷ []) ≤ n
    long n past = let l = length-append history (e ∷ []) in omega (arith, l, past)

    each : HoldsThroughout m (history ++ e ∷ [])
    each n =
        elim (cases_lt n (length history + 1)) [
          | inl lt ↦
              subst (λ (es : List ShardedEntry). Invariant m (state_of m (entries es))) (sym (take-append-le n history (e ∷ []) (omega (arith, lt)))) (held.each n)
          | inr past ↦
              subst (λ (es : List ShardedEntry). Invariant m (state_of m (entries es))) (sym (take_all n (history ++ e ∷ []) (long n past)))
              (subst (λ (t : State). Invariant m t) (sym (state_push m history e))
              (sharded_keeps laws m ok history held.each (held_whole m history held.each) held.whole e.entry.worker e.entry.event e.entry.reply e.lengths lawful.0 lawful.1))
        ]

held_after : Laws → (m : Setting) → IsSetting m → (before history : List ShardedEntry) → Held m before → LawfulAfter m before history → Held m (before ++ history)
held_after laws m ok before [] held lawful = subst (λ (es : List ShardedEntry). Held m es) (sym (append-nil before)) held
held_after laws m ok before (e ∷ es) held lawful =
    subst (λ (xs : List ShardedEntry). Held m xs) (append_assoc before (e ∷ []) es)
    (held_after laws m ok (before ++ e ∷ []) es (held_push laws m ok before e held lawful.0) lawful.1)

held_nothing : (m : Setting) → Held m []
unfolding state_after
held_nothing m =
    record {
      each = λ n. subst (λ (es : List ShardedEntry). Invariant m (state_of m (entries es))) (sym (take_all n [] (omega arith))) (fresh_holds m);
      whole = whole_nothing m.size;
    }

-- After every history in sixteen shards, and each of its beginnings, the invariant holds.
pub sharded_invariant : Laws → (m : Setting) → IsSetting m → (history : List ShardedEntry) → IsShardedHistory m history → Invariant m (state_of m (entries history))
unfolding IsShardedHistory
sharded_invariant laws m ok history lawful = held_whole m history (held_after laws m ok [] history (held_nothing m) lawful).each
