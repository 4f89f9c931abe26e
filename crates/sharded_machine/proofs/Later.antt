-- What later events leave of a state: each request's delta, or its change counts above the earlier
-- clock. And what reads found in parts, each after a beginning of its own, come to.
use Rattle.std.proofs.Common.{◌≡◌, ℕ, zero, suc, ◌+◌, ◌<◌, ◌≤◌, inl, inr, Bool, true, false, if◌then◌else◌, List, [], ◌∷◌, ◌++◌, length, Option, Some, None, slice_set, refl, sym, ap, ◌∙◌, subst, arith, length-set}
use Rattle.std.proofs.Math.Nat.{le_refl, le_trans}
use Rattle.std.proofs.lemmas.Bool.{cases_eq, cases_lt}
use Rattle.std.proofs.lemmas.List.{get_or_past}
use Rattle.incarnations.specs.declared.state.Status.{Status}
use Rattle.incarnations.specs.declared.state.Status.TheVariants.{Ready, Executing, Executed, Committed as HasCommitted}
use Rattle.incarnations.specs.declared.state.Pass.{Pass}
use Rattle.incarnations.specs.declared.state.Event.{Event}
use Rattle.incarnations.specs.declared.state.Event.TheVariants.{Take, Read as ReadOf, Publish, Begin, Check, Commit, GiveUp}
use Rattle.incarnations.specs.declared.state.Reply.{Reply}
use Rattle.incarnations.specs.declared.state.Reply.TheVariants.{Taken, Answered, Published, Begun, Passed, Aborted, Committed, Given}
use Rattle.incarnations.specs.declared.state.Entry.{Entry}
use Rattle.reads.specs.Reads.{View, applied}
use Rattle.incarnations.specs.Slots.{Noted, Slot, fresh_slot, keeps_delta, begun, passed, committed}
use Rattle.validate.specs.Below.{slot_at, view_at}
use Rattle.slots.proofs.SlotLaws.{set_same, set_other}
use Rattle.block_machine.specs.Machine.{State, after, state_after}
use Rattle.sharded_machine.specs.Later.{Since, Later}
use Rattle.block_machine.proofs.Known.{Clear}
use Rattle.block_machine.proofs.Theorem.{DeltasAreOne}

pub later_same : (s : State) → Later s s
later_same s = record { clock = le_refl s.clock; each = λ j. inl (refl, refl) }

since_both : (a b : ℕ) (x y z : Slot) → a ≤ b → Since a x y → Since b y z → Since a x z
since_both a b x y z le (inl h) (inl k) = inl (k.0 ∙ h.0, k.1 ∙ h.1)
since_both a b x y z le (inr h) (inl k) = inr (let e = k.1 in omega (arith, h, e))
since_both a b x y z le h (inr k) = inr (omega (arith, le, k))

pub later_both : (s t u : State) → Later s t → Later t u → Later s u
later_both s t u a b =
    record {
      clock = le_trans a.clock b.clock;
      each = λ j. since_both s.clock t.clock (slot_at s.slots j) (slot_at t.slots j) (slot_at u.slots j) a.clock (a.each j) (b.each j);
    }

-- one slot is replaced
since_set : (slots : List Slot) (clock i : ℕ) (x : Slot) → Since clock (slot_at slots i) x → (j : ℕ) → Since clock (slot_at slots j) (slot_at (slice_set slots i x) j)
since_set slots clock i x h j =
    elim (cases_eq j i) [
      | inl e ↦
          elim (cases_lt i (length slots)) [
            | inl lt ↦
                let now : x ≡ slot_at (slice_set slots i x) j = sym (ap (slot_at (slice_set slots i x)) e ∙ set_same slots i x lt) in
                subst (λ y. Since clock (slot_at slots j) y) now (subst (λ (n : ℕ). Since clock (slot_at slots n) x) (sym e) h)
            | inr past ↦
                let len = length-set slots i x in
                let was : slot_at slots j ≡ fresh_slot = get_or_past slots j fresh_slot (omega (arith, past, e)) in
                let now : slot_at (slice_set slots i x) j ≡ fresh_slot = get_or_past (slice_set slots i x) j fresh_slot (omega (arith, past, e, len)) in
                let same : slot_at (slice_set slots i x) j ≡ slot_at slots j = now ∙ sym was in
                inl (ap (λ (y : Slot). y.delta) same, ap (λ (y : Slot). y.changed) same)
          ]
      | inr ne ↦
          let same : slot_at (slice_set slots i x) j ≡ slot_at slots j = set_other slots i j x ne in
          inl (ap (λ (y : Slot). y.delta) same, ap (λ (y : Slot). y.changed) same)
    ]

later_set : (s : State) (i : ℕ) (x : Slot) (clock front : ℕ) → s.clock ≤ clock → Since s.clock (slot_at s.slots i) x → Later s (record { slots = slice_set s.slots i x; clock = clock; front = front })
later_set s i x clock front le h = record { clock = le; each = since_set s.slots s.clock i x h }

-- the rows that leave a slot's delta and its change
later_kept : (s : State) (i : ℕ) (x : Slot) (front : ℕ) → x.delta ≡ (slot_at s.slots i).delta → x.changed ≡ (slot_at s.slots i).changed → Later s (record { slots = slice_set s.slots i x; clock = s.clock; front = front })
later_kept s i x front delta changed = later_set s i x s.clock front (le_refl s.clock) (inl (delta, changed))

abbrev Keeps : (was now : Slot) → Type 0
Keeps was now = (now.delta ≡ was.delta) × (now.changed ≡ was.changed)

begun_keeps : (x : Slot) (ns : List Noted) (clock : ℕ) → Keeps x (begun x ns clock)
begun_keeps x [] clock = (refl, refl)
begun_keeps x (n ∷ ns) clock = (refl, refl)

passed_keeps : (x : Slot) (p : Option Pass) → Keeps x (passed x p)
passed_keeps x None = (refl, refl)
passed_keeps x (Some p) = choice _
  where
    choice : (b : Bool) → Keeps x (if b then record x { pass = None; stamp = Some p.start } else record x { pass = Some (record p { next = p.next + 1 }) })
    choice true = (refl, refl)
    choice false = (refl, refl)

committed_keeps : (x : Slot) (st : Status) → Keeps x (committed x st)
committed_keeps x (Ready n) = (refl, refl)
committed_keeps x (Executing n by) = (refl, refl)
committed_keeps x (Executed n) = (refl, refl)
committed_keeps x (HasCommitted n) = (refl, refl)

-- one event
pub later_step : DeltasAreOne → (s : State) (w : ℕ) (e : Event) (r : Reply) → Later s (after s w e r)
later_step exact s w (Take i) (Taken n) = later_kept s i _ s.front refl refl
later_step exact s w (ReadOf i n read) (Answered a) = later_kept s i _ s.front refl refl
later_step exact s w (Publish i n (Some f)) Published = go (keeps_delta y f) refl
  where
    y : Slot
    y = slot_at s.slots i

    new : Bool → Slot
    new c =
        record y {
          status = Executed n;
          delta = f.delta;
          version = n;
          reply = Some f.reply;
          estimate = false;
          changed = if c then y.changed else s.clock + 1;
          pass = None;
          stamp = None;
        }

    go : (c : Bool) → keeps_delta y f ≡ c → Later s (record { slots = slice_set s.slots i (new c); clock = if c then s.clock else s.clock + 1; front = s.front })
    go true e = later_kept s i (new true) s.front (sym (exact y.delta f.delta e)) refl
    go false e = later_set s i (new false) (s.clock + 1) s.front (omega arith) (inr (omega arith))
later_step exact s w (Begin i n) Begun = let k = begun_keeps (slot_at s.slots i) (slot_at s.slots i).notes s.clock in later_kept s i _ s.front k.0 k.1
later_step exact s w (Check i n) Passed = let k = passed_keeps (slot_at s.slots i) (slot_at s.slots i).pass in later_kept s i _ s.front k.0 k.1
later_step exact s w (Check i n) Aborted = later_kept s i _ s.front refl refl
later_step exact s w (Commit i) Committed = let k = committed_keeps (slot_at s.slots i) (slot_at s.slots i).status in later_kept s i _ (s.front + 1) k.0 k.1
later_step exact s w (GiveUp i n) Given = later_kept s i _ s.front refl refl
later_step exact s w event reply = later_same s

-- a whole list of events
pub later_after : DeltasAreOne → (s : State) (es : List Entry) → Later s (state_after s es)
unfolding state_after
later_after exact s [] = later_same s
later_after exact s (e ∷ es) =
    let next = after s e.worker e.event e.reply in
    later_both s next (state_after next es) (later_step exact s e.worker e.event e.reply) (later_after exact next es)

state_after-append : (s : State) (es more : List Entry) → state_after s (es ++ more) ≡ state_after (state_after s es) more
unfolding state_after
state_after-append s [] more = refl
state_after-append s (e ∷ es) more = state_after-append (after s e.worker e.event e.reply) es more

-- Of each request a history has the delta that its beginning has, or its change counts above the
-- beginning's clock.
pub since : DeltasAreOne → (s : State) (beginning more : List Entry) → Later (state_after s beginning) (state_after s (beginning ++ more))
since exact s beginning more =
    subst (λ (t : State). Later (state_after s beginning) t) (sym (state_after-append s beginning more)) (later_after exact (state_after s beginning) more)

-- Where nothing below i has changed above a moment that an earlier clock had reached, the earlier
-- view(i) is the view(i) now.
pub same_view : (base : View) (s t : State) → Later s t → (i moment : ℕ) → moment ≤ s.clock → Clear t.slots i moment → view_at base s.slots i ≡ view_at base t.slots i
unfolding view_at
same_view base s t later i moment le clear = go i (le_refl i)
  where
    delta_same : (j : ℕ) → j < i → (slot_at s.slots j).delta ≡ (slot_at t.slots j).delta
    delta_same j lt =
        elim (later.each j) [
          | inl same ↦ sym same.0
          | inr changed ↦ absurd (let c = clear j lt in omega (arith, c, changed, le))
        ]

    go : (k : ℕ) → k ≤ i → view_at base s.slots k ≡ view_at base t.slots k
    go zero h = refl
    go (suc k) h =
        let below : k < i = omega (arith, h) in
        let rest : k ≤ i = omega (arith, h) in
        λ z. applied (delta_same k below z) (go k rest z)
