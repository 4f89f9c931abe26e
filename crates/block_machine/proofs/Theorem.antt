-- Each lawful entry keeps the invariant, so each history does.
use Rattle.std.proofs.Common.{◌≡◌, ◌≢◌, ℕ, zero, suc, ◌+◌, ◌<◌, ◌≤◌, inl, inr, Bool, true, false, ◌==◌, List, [], ◌∷◌, ◌++◌, length, replicate, Option, Some, None, option_to_list, slice_get, slice_set, refl, sym, ap, ◌∙◌, subst, arith, length-set, eqb-true, eq-eqb, add-one}
use Rattle.std.specs.Prelude.{if◌then◌else◌}
use Rattle.std.proofs.lemmas.Bool.{cases_eq, and_parts}
use Rattle.std.proofs.lemmas.List.{get_or-replicate}
use Rattle.std.proofs.Math.ListN.{length-replicate}
use Rattle.reads.specs.Reads.{View, Delta, says, applied}
use Rattle.delta.specs.Same.{delta_eq}
use Rattle.incarnations.specs.declared.state.Status.{Status}
use Rattle.incarnations.specs.declared.state.Status.TheVariants.{Ready, Executing, Executed, Committed as HasCommitted}
use Rattle.incarnations.specs.declared.state.Pass.{Pass}
use Rattle.incarnations.specs.declared.state.Event.{Event}
use Rattle.incarnations.specs.declared.state.Event.TheVariants.{Take, Read as ReadOf, Publish, Begin, Check, Commit, GiveUp}
use Rattle.incarnations.specs.declared.state.Reply.{Reply}
use Rattle.incarnations.specs.declared.state.Reply.TheVariants.{Taken, Answered, Published, Begun, Passed, Aborted, Committed, Given, Stale, NotYours, NotYet}
use Rattle.incarnations.specs.declared.state.Entry.{Entry}
use Rattle.incarnations.specs.Slots.{Noted, Slot, fresh_slot, keeps_delta, taken, begun, passed, aborted, committed, transcript_of}
use Rattle.incarnations.specs.Statuses.{is_closed, is_executed, execution_refusal, executed_refusal}
use Rattle.validate.specs.Below.{slot_at, view_at}
use Rattle.slots.specs.Slots.{status_of, replies_to}
use Rattle.slots.proofs.SlotLaws.{set_same, set_other, status_within, view_below, replies_below}
use Rattle.block_machine.specs.Machine.{State, fresh, is_current, is_stamped, can_commit, commit_reply, Unless, TakeReply, NoteReply, CheckReply, IsAllowed, after, state_after}
use Rattle.block_machine.specs.Serial.{Setting, IsSetting, dataset_after, replies_after, IsSound, IsSoundEntry, IsLawful, LawfulFrom, IsHistory, state_of, FrontIsSerial}
use Rattle.block_machine.proofs.Known.{Clear, is_current-Clear, Known, known_more, known_agrees}
use Rattle.block_machine.proofs.Invariant.{is_done, Holds, Ran, PassHolds, StampHolds, SlotHolds, InOrder, Invariant, Steady, slot_steady, each_replaced, replaced}
use Rattle.delta.specs.declared.finished.Finished.{Finished}
use Rattle.reads.specs.Runs.{Agrees}
use Rattle.delta.specs.Sound.{IsDatasetOf, IsSoundFor}

-- WHAT A REPLY SAYS OF THE STATE

pub unless_execution : (o : Option Status) (n w : ℕ) (r : Reply) (Row : Type 0) → r ≢ Stale → r ≢ NotYours → Unless (execution_refusal o n w) r Row → (o ≡ Some (Executing n w)) × Row
unless_execution None n w r Row a b h = absurd (a h)
unless_execution (Some (Ready k)) n w r Row a b h = absurd (a h)
unless_execution (Some (Executed k)) n w r Row a b h = absurd (a h)
unless_execution (Some (HasCommitted k)) n w r Row a b h = absurd (a h)
unless_execution (Some (Executing k by)) n w r Row a b h = go (k == n) (by == w) refl refl h
  where
    go : (c d : Bool) → (k == n) ≡ c → (by == w) ≡ d → Unless (if c then (if d then None else Some NotYours) else Some Stale) r Row → (Some (Executing k by) ≡ Some (Executing n w)) × Row
    go true true p q h = ((λ t. Some (Executing (eqb-true k n p t) (eqb-true by w q t))), h)
    go true false p q h = absurd (b h)
    go false d p q h = absurd (a h)

pub unless_executed : (o : Option Status) (n : ℕ) (r : Reply) (Row : Type 0) → r ≢ Stale → Unless (executed_refusal o n) r Row → (o ≡ Some (Executed n)) × Row
unless_executed None n r Row a h = absurd (a h)
unless_executed (Some (Ready k)) n r Row a h = absurd (a h)
unless_executed (Some (Executing k by)) n r Row a h = absurd (a h)
unless_executed (Some (HasCommitted k)) n r Row a h = absurd (a h)
unless_executed (Some (Executed k)) n r Row a h = go (k == n) refl h
  where
    go : (c : Bool) → (k == n) ≡ c → Unless (if c then None else Some Stale) r Row → (Some (Executed k) ≡ Some (Executed n)) × Row
    go true p h = ((λ t. Some (Executed (eqb-true k n p t))), h)
    go false p h = absurd (a h)

pub take_ready : (o : Option Status) (n : ℕ) → TakeReply o (Taken n) → o ≡ Some (Ready n)
take_ready None n h = absurd (let e : Taken n ≡ Stale = h in (cc))
take_ready (Some (Ready k)) n h = let e : Taken n ≡ Taken k = h in (cc)
take_ready (Some (Executing k by)) n h = absurd (let e : Taken n ≡ Stale = h in (cc))
take_ready (Some (Executed k)) n h = absurd (let e : Taken n ≡ Stale = h in (cc))
take_ready (Some (HasCommitted k)) n h = absurd (let e : Taken n ≡ Stale = h in (cc))

pub commit_can : (a b : Bool) → Committed ≡ commit_reply a b → (a ≡ false) × (b ≡ true)
commit_can true b h = absurd (let e : Committed ≡ Stale = h in (cc))
commit_can false true h = (refl, refl)
commit_can false false h = absurd (let e : Committed ≡ NotYet = h in (cc))

pub executed_is : (st : Status) → is_executed st ≡ true → (n : ℕ) × (st ≡ Executed n)
executed_is (Executed n) h = (n, refl)
executed_is (Ready n) h = cc
executed_is (Executing n by) h = cc
executed_is (HasCommitted n) h = cc

stamped_is : (slots : List Slot) (i : ℕ) (o : Option ℕ) → is_stamped slots i o ≡ true → (st : ℕ) × (o ≡ Some st) × (is_current slots i st ≡ true)
stamped_is slots i None h = cc
stamped_is slots i (Some st) h = (st, refl, h)

pub open_is : (o : Option Status) → is_closed o ≡ false → (st : Status) × (o ≡ Some st)
open_is None h = cc
open_is (Some st) h = (st, refl)

pub committed_is : (x : Slot) (n : ℕ) → x.status ≡ Executed n → record x { status = HasCommitted n } ≡ committed x x.status
committed_is x n e = ap (committed x) (sym e)

-- THE SLOT AFTER AN EVENT

-- the view and the replies one request further
view_next : (base : View) (slots : List Slot) (i : ℕ) (x : Slot) → i < length slots → view_at base (slice_set slots i x) (suc i) ≡ applied x.delta (view_at base slots i)
unfolding view_at
view_next base slots i x h = λ t. applied (set_same slots i x h t).delta (view_below base slots i x i (let l : i ≤ i = omega arith in l) t)

replies_next : (slots : List Slot) (i : ℕ) (x : Slot) → i < length slots → replies_to (slice_set slots i x) (suc i) ≡ replies_to slots i ++ option_to_list x.reply
unfolding replies_to
replies_next slots i x h = λ t. replies_below slots i x i (let l : i ≤ i = omega arith in l) t ++ option_to_list (set_same slots i x h t).reply

-- a slot that is not done has neither a pass nor a stamp
bare : (m : Setting) (slots : List Slot) (clock i : ℕ) (y : Slot) → is_done y.status ≡ false → SlotHolds m slots clock i y → (y.pass ≡ None) × (y.stamp ≡ None)
bare m slots clock i y not_done h = (no_pass y.pass refl, no_stamp y.stamp refl)
  where
    no_pass : (o : Option Pass) → y.pass ≡ o → o ≡ None
    no_pass None e = refl
    no_pass (Some p) e = absurd (let d : true ≡ false = sym (h.pass p e).done ∙ not_done in (cc))

    no_stamp : (o : Option ℕ) → y.stamp ≡ o → o ≡ None
    no_stamp None e = refl
    no_stamp (Some s) e = absurd (let d : true ≡ false = sym (h.stamp s e).done ∙ not_done in (cc))

-- with neither, and not done, there is nothing else to say of it
bare_holds : (m : Setting) (slots : List Slot) (clock i : ℕ) (x : Slot) → is_done x.status ≡ false → x.pass ≡ None → x.stamp ≡ None → x.changed ≤ clock → SlotHolds m slots clock i x
bare_holds m slots clock i x not_done no_pass no_stamp le =
    record {
      ran = λ e. absurd (let d : true ≡ false = sym e ∙ not_done in (cc));
      pass = λ p e. absurd (let d : None ≡ Some p = sym no_pass ∙ e in (cc));
      stamp = λ s e. absurd (let d : None ≡ Some s = sym no_stamp ∙ e in (cc));
      changed = le;
    }

-- what the law of equal deltas says
abbrev pub DeltasAreOne : Type 0
DeltasAreOne = (a b : Delta) → delta_eq a b ≡ true → a ≡ b

module _ (exact : DeltasAreOne) (m : Setting) (s : State) (inv : Invariant m s) where
  -- an execution goes on, or ends with no publication
  pub execution_kept : (i n w : ℕ) (x : Slot) → status_of s.slots i ≡ Some (Executing n w) → x.delta ≡ (slot_at s.slots i).delta → x.changed ≡ (slot_at s.slots i).changed → x.pass ≡ (slot_at s.slots i).pass → x.stamp ≡ (slot_at s.slots i).stamp → is_done x.status ≡ false → is_closed (Some x.status) ≡ false → Invariant m (record { slots = slice_set s.slots i x; clock = s.clock; front = s.front })
  execution_kept i n w x st delta changed pass stamp not_done is_open =
      let at = status_within s.slots i (Executing n w) st in
      let old = inv.each i at.0 in
      let b = bare m s.slots s.clock i (slot_at s.slots i) (ap is_done at.1) old in
      let le : (slot_at s.slots i).changed ≤ x.changed = omega (arith, changed) in
      let c = old.changed in
      replaced m s i x s.clock inv at.0 (ap (λ (z : Status). is_closed (Some z)) at.1) is_open (omega arith) (inl (delta, le))
      (bare_holds m (slice_set s.slots i x) s.clock i x not_done (pass ∙ b.0) (stamp ∙ b.1) (omega (arith, changed, c)))

  take_kept : (i n w : ℕ) → status_of s.slots i ≡ Some (Ready n) → Invariant m (after s w (Take i) (Taken n))
  take_kept i n w st =
      let at = status_within s.slots i (Ready n) st in
      let old = inv.each i at.0 in
      let b = bare m s.slots s.clock i (slot_at s.slots i) (ap is_done at.1) old in
      let x = taken (slot_at s.slots i) n w in
      let le : (slot_at s.slots i).changed ≤ x.changed = omega arith in
      replaced m s i x s.clock inv at.0 (ap (λ (z : Status). is_closed (Some z)) at.1) refl (omega arith) (inl (refl, le))
      (bare_holds m (slice_set s.slots i x) s.clock i x refl b.0 b.1 old.changed)

  publish_kept : (i n w : ℕ) (f : Finished) → IsSound m i f → f.transcript ≡ transcript_of (slot_at s.slots i).notes → status_of s.slots i ≡ Some (Executing n w) → Invariant m (after s w (Publish i n (Some f)) Published)
  publish_kept i n w f sound transcript st = go (keeps_delta y f) refl
    where
      y : Slot
      y = slot_at s.slots i

      new : Bool → Slot
      new c =
          record y {
            status = Executed n;
            delta = f.delta;
            version = n;
            reply = Some f.reply;
            estimate = false;
            changed = if c then y.changed else s.clock + 1;
            pass = None;
            stamp = None;
          }

      at : (i < length s.slots) × (y.status ≡ Executing n w)
      at = status_within s.slots i (Executing n w) st

      ran : (c : Bool) → Ran m i (new c)
      ran c = record { finished = f; sound = sound; delta = refl; reply = refl; transcript = transcript }

      own : (c : Bool) (clock : ℕ) → (new c).changed ≤ clock → SlotHolds m (slice_set s.slots i (new c)) clock i (new c)
      own c clock le =
          record {
            ran = λ e. ran c;
            pass = λ p e. absurd (let d : None ≡ Some p = e in (cc));
            stamp = λ z e. absurd (let d : None ≡ Some z = e in (cc));
            changed = le;
          }

      was_open : is_closed (Some y.status) ≡ false
      was_open = ap (λ (z : Status). is_closed (Some z)) at.1

      go : (c : Bool) → keeps_delta y f ≡ c → Invariant m (record { slots = slice_set s.slots i (new c); clock = if c then s.clock else s.clock + 1; front = s.front })
      go true e =
          replaced m s i (new true) s.clock inv at.0 was_open refl (omega arith)
          (inl (sym (exact y.delta f.delta e), omega arith)) (own true s.clock (inv.each i at.0).changed)
      go false e =
          replaced m s i (new false) (s.clock + 1) inv at.0 was_open refl (omega arith)
          (inr (omega arith)) (own false (s.clock + 1) (omega arith))

  -- an executed request gets another pass or stamp, and keeps the rest
  checked : (i n : ℕ) (x : Slot) → status_of s.slots i ≡ Some (Executed n) → x.status ≡ (slot_at s.slots i).status → x.notes ≡ (slot_at s.slots i).notes → x.delta ≡ (slot_at s.slots i).delta → x.reply ≡ (slot_at s.slots i).reply → x.changed ≡ (slot_at s.slots i).changed → ((p : Pass) → x.pass ≡ Some p → PassHolds m.base s.slots s.clock i x p) → ((z : ℕ) → x.stamp ≡ Some z → StampHolds m.base s.slots s.clock i x z) → Invariant m (record { slots = slice_set s.slots i x; clock = s.clock; front = s.front })
  checked i n x st status notes delta reply changed pass stamp =
      let at = status_within s.slots i (Executed n) st in
      let old = inv.each i at.0 in
      let le : (slot_at s.slots i).changed ≤ x.changed = omega (arith, changed) in
      let c = old.changed in
      let steady : Steady s.slots i x s.clock = inl (delta, le) in
      let before : SlotHolds m s.slots s.clock i x =
      record {
        ran = λ e. (let r = old.ran (ap is_done (sym status) ∙ e) in
            record { finished = r.finished; sound = r.sound; delta = r.delta ∙ sym delta; reply = reply ∙ r.reply; transcript = r.transcript ∙ ap transcript_of (sym notes) });
        pass = pass;
        stamp = stamp;
        changed = omega (arith, changed, c);
      } in
      replaced m s i x s.clock inv at.0 (ap (λ (z : Status). is_closed (Some z)) at.1) (ap (λ (z : Status). is_closed (Some z)) (status ∙ at.1)) (omega arith) steady
      (slot_steady m s.slots i x at.0 s.clock s.clock i x steady (omega arith) before)

  begin_kept : (i n w : ℕ) → status_of s.slots i ≡ Some (Executed n) → Invariant m (after s w (Begin i n) Begun)
  begin_kept i n w st = go (slot_at s.slots i).notes refl
    where
      y : Slot
      y = slot_at s.slots i

      done : is_done y.status ≡ true
      done = ap is_done (status_within s.slots i (Executed n) st).1

      go : (ns : List Noted) → y.notes ≡ ns → Invariant m (record { slots = slice_set s.slots i (begun y ns s.clock); clock = s.clock; front = s.front })
      go [] e =
          checked i n (begun y [] s.clock) st refl refl refl refl refl
          (λ p f. absurd (let d : None ≡ Some p = f in (cc)))
          (λ z f.
          let d : Some s.clock ≡ Some z = f in
          let same : s.clock ≡ z = cc in
          record {
            done = done;
            start = omega (arith, same);
            holds = record { known = λ clear. subst (λ (ns : List Noted). Known (view_at m.base s.slots i) (length ns) ns) (sym e) tt };
          })
      go (a ∷ ns) e =
          checked i n (begun y (a ∷ ns) s.clock) st refl refl refl refl refl
          (λ p f.
          let d : Some (record { start = s.clock; next = 0 }) ≡ Some p = f in
          let same : record { start = s.clock; next = 0 } ≡ p = cc in
          subst (λ (q : Pass). PassHolds m.base s.slots s.clock i (begun y (a ∷ ns) s.clock) q) same
          (record { done = done; start = omega arith; next = subst (λ (ns : List Noted). 0 < length ns) (sym e) (omega arith); holds = record { known = λ clear. tt } }))
          (λ z f. absurd (let d : None ≡ Some z = f in (cc)))

  -- A check that finds the noted answer goes on to the next note, or ends in a stamp. The answer
  -- has to be the one now only as long as no lower request has changed since the pass began: after
  -- that nothing is known of the notes.
  pub pass_kept : (i n w : ℕ) → status_of s.slots i ≡ Some (Executed n) → (p : Pass) → (slot_at s.slots i).pass ≡ Some p → (note : Noted) → slice_get (slot_at s.slots i).notes p.next ≡ Some note → (Clear s.slots i p.start → note.answer ≡ says note.read (view_at m.base s.slots i)) → Invariant m (record { slots = slice_set s.slots i (passed (slot_at s.slots i) (Some p)); clock = s.clock; front = s.front })
  pass_kept i n w st p stands note at same = go ((p.next + 1) == length y.notes) refl
    where
      y : Slot
      y = slot_at s.slots i

      within : i < length s.slots
      within = (status_within s.slots i (Executed n) st).0

      old : SlotHolds m s.slots s.clock i y
      old = inv.each i within

      was : PassHolds m.base s.slots s.clock i y p
      was = old.pass p stands

      more : Holds m.base s.slots i p.start (suc p.next) y.notes
      more = record { known = λ clear. known_more (view_at m.base s.slots i) p.next y.notes note (was.holds.known clear) at (same clear) }

      on : Slot
      on = record y { pass = Some (record p { next = p.next + 1 }) }

      over : Slot
      over = record y { pass = None; stamp = Some p.start }

      go : (c : Bool) → ((p.next + 1) == length y.notes) ≡ c → Invariant m (record { slots = slice_set s.slots i (if c then over else on); clock = s.clock; front = s.front })
      go true e =
          let last : suc p.next ≡ length y.notes = sym (add-one p.next) ∙ eqb-true _ _ e in
          checked i n over st refl refl refl refl refl
          (λ q f. absurd (let d : None ≡ Some q = f in (cc)))
          (λ z f.
          let d : Some p.start ≡ Some z = f in
          let e : p.start ≡ z = cc in
          subst (λ (k : ℕ). StampHolds m.base s.slots s.clock i over k) e
          (record { done = was.done; start = was.start; holds = subst (λ (k : ℕ). Holds m.base s.slots i p.start k y.notes) last more }))
      go false e =
          let bound : suc p.next < length y.notes =
          elim (cases_eq (p.next + 1) (length y.notes)) [
            | inl same ↦ absurd (let d : true ≡ false = sym (eq-eqb (p.next + 1) (length y.notes) same) ∙ e in (cc))
            | inr ne ↦ let l = was.next in omega (arith, l, ne)
          ] in
          checked i n on st refl refl refl refl refl
          (λ q f.
          let d : Some (record p { next = p.next + 1 }) ≡ Some q = f in
          let e : record p { next = p.next + 1 } ≡ q = cc in
          subst (λ (r : Pass). PassHolds m.base s.slots s.clock i on r) e
          (record {
            done = was.done;
            start = was.start;
            next = omega (arith, bound);
            holds = subst (λ (k : ℕ). Holds m.base s.slots i p.start k y.notes) (sym (add-one p.next)) more;
          }))
          (λ z f. let h = old.stamp z f in record { done = h.done; start = h.start; holds = h.holds })

  pub abort_kept : (i n w : ℕ) → status_of s.slots i ≡ Some (Executed n) → Invariant m (after s w (Check i n) Aborted)
  abort_kept i n w st =
      let at = status_within s.slots i (Executed n) st in
      let x = aborted (slot_at s.slots i) n in
      let le : (slot_at s.slots i).changed ≤ x.changed = omega arith in
      replaced m s i x s.clock inv at.0 (ap (λ (z : Status). is_closed (Some z)) at.1) refl (omega arith) (inl (refl, le))
      (bare_holds m (slice_set s.slots i x) s.clock i x refl refl refl (inv.each i at.0).changed)

  -- THE COMMIT

  -- what was run one after another is a dataset of known terms
  serial_dataset : IsSetting m → (n : ℕ) → IsDatasetOf m.known (dataset_after m n)
  unfolding dataset_after
  serial_dataset ok zero = ok.base
  serial_dataset ok (suc n) = ok.answers n (dataset_after m n) (serial_dataset ok n)

  -- a request at the front whose notes are known has its answer
  front_answer : IsSetting m → (x : Slot) → Ran m s.front x → Known (view_at m.base s.slots s.front) (length x.notes) x.notes → (applied x.delta (view_at m.base s.slots s.front) ≡ dataset_after m (suc s.front)) × (replies_to s.slots s.front ++ option_to_list x.reply ≡ replies_after m (suc s.front))
  unfolding dataset_after replies_after IsSoundFor
  front_answer ok x ran known =
      let d = view_at m.base s.slots s.front in
      let same = inv.serial.dataset in
      let is : IsDatasetOf m.known d = subst (IsDatasetOf m.known) (sym same) (serial_dataset ok s.front) in
      let f = ran.finished in
      let agrees = subst (λ ns. Agrees ns d) (sym ran.transcript) (known_agrees d x.notes known) in
      let right = ran.sound d is agrees in (
        ap (λ (e : Delta). applied e d) (sym ran.delta) ∙ right.0 ∙ ap (λ (v : View). (m.answer s.front v).0) same,
        λ t. inv.serial.replies t ++ option_to_list ((ran.reply ∙ ap Some (right.1 ∙ ap (λ (v : View). (m.answer s.front v).1) same)) t),
      )

  -- the request at the front is executed and stamped, and no lower request has changed since
  commit_kept : IsSetting m → (n stamp : ℕ) → status_of s.slots s.front ≡ Some (Executed n) → (slot_at s.slots s.front).stamp ≡ Some stamp → is_current s.slots s.front stamp ≡ true → Invariant m (record { slots = slice_set s.slots s.front (record (slot_at s.slots s.front) { status = HasCommitted n }); clock = s.clock; front = s.front + 1 })
  commit_kept ok n stamp st stands current =
      record {
        size = len ∙ inv.size;
        within = omega (arith, len, within);
        each = λ j lt. each_replaced m s.slots s.front x within s.clock s.clock steady (omega arith) own inv.each j (omega (arith, len));
        order = λ j lt. (let lt' : j < length s.slots = omega (arith, len) in ordered j lt');
        serial = subst (λ (f : ℕ). FrontIsSerial m (record { slots = slots'; clock = s.clock; front = f })) (sym (add-one s.front)) serial;
      }
    where
      y : Slot
      y = slot_at s.slots s.front

      x : Slot
      x = record y { status = HasCommitted n }

      slots' : List Slot
      slots' = slice_set s.slots s.front x

      len : length slots' ≡ length s.slots
      len = length-set s.slots s.front x

      within : s.front < length s.slots
      within = (status_within s.slots s.front (Executed n) st).0

      was_done : is_done y.status ≡ true
      was_done = ap is_done (status_within s.slots s.front (Executed n) st).1

      old : SlotHolds m s.slots s.clock s.front y
      old = inv.each s.front within

      steady : Steady s.slots s.front x s.clock
      steady = inl (refl, (let l : y.changed ≤ y.changed = omega arith in l))

      ran : Ran m s.front y
      ran = old.ran was_done

      before : SlotHolds m s.slots s.clock s.front x
      before =
          record {
            ran = λ e. record { finished = ran.finished; sound = ran.sound; delta = ran.delta; reply = ran.reply; transcript = ran.transcript };
            pass = λ p e. (let h = old.pass p e in record { done = refl; start = h.start; next = h.next; holds = h.holds });
            stamp = λ z e. (let h = old.stamp z e in record { done = refl; start = h.start; holds = h.holds });
            changed = old.changed;
          }

      own : SlotHolds m slots' s.clock s.front x
      own = slot_steady m s.slots s.front x within s.clock s.clock s.front x steady (omega arith) before

      known : Known (view_at m.base s.slots s.front) (length y.notes) y.notes
      known = (old.stamp stamp stands).holds.known (is_current-Clear s.slots s.front stamp current)

      answer : (applied y.delta (view_at m.base s.slots s.front) ≡ dataset_after m (suc s.front)) × (replies_to s.slots s.front ++ option_to_list y.reply ≡ replies_after m (suc s.front))
      answer = front_answer ok y ran known

      serial : FrontIsSerial m (record { slots = slots'; clock = s.clock; front = suc s.front })
      serial =
          record {
            dataset = view_next m.base s.slots s.front x within ∙ answer.0;
            replies = replies_next s.slots s.front x within ∙ answer.1;
          }

      ordered : (j : ℕ) → j < length s.slots → InOrder (s.front + 1) j (slot_at slots' j)
      ordered j lt =
          elim (cases_eq j s.front) [
            | inl e ↦
                let at : slot_at slots' j ≡ x = ap (slot_at slots') e ∙ set_same s.slots s.front x within in
                record { below = λ c. omega (arith, e); closed = λ l. ap (λ (z : Slot). is_closed (Some z.status)) at }
            | inr ne ↦
                let at = ap (λ (z : Slot). is_closed (Some z.status)) (set_other s.slots s.front j x ne) in
                let o = inv.order j lt in
                record { below = λ c. (let b = o.below (sym at ∙ c) in omega (arith, b)); closed = λ l. at ∙ o.closed (omega (arith, ne, l)) }
          ]

  -- A LAWFUL ENTRY

  pub keeps : IsSetting m → (w : ℕ) (e : Event) (r : Reply) → IsAllowed m.base s w e r → IsSoundEntry m e r → Invariant m (after s w e r)
  keeps ok w (Take i) (Taken n) h sound = take_kept i n w (take_ready (status_of s.slots i) n h)
  keeps ok w (ReadOf i n read) (Answered a) h sound =
      let u = unless_execution (status_of s.slots i) n w (Answered a) _ (λ e. cc) (λ e. cc) h in
      execution_kept i n w _ u.0 refl refl refl refl (ap is_done (status_within s.slots i (Executing n w) u.0).1) (ap (λ (z : Status). is_closed (Some z)) (status_within s.slots i (Executing n w) u.0).1)
  keeps ok w (Publish i n (Some f)) Published h sound =
      let u = unless_execution (status_of s.slots i) n w Published _ (λ e. cc) (λ e. cc) h in
      publish_kept i n w f sound u.1 u.0
  keeps ok w (Begin i n) Begun h sound =
      let u = unless_executed (status_of s.slots i) n Begun _ (λ e. cc) h in
      begin_kept i n w u.0
  keeps ok w (Check i n) Passed h sound =
      let u = unless_executed (status_of s.slots i) n Passed _ (λ e. cc) h in
      go (slot_at s.slots i).pass refl u.0 u.1
    where
      note_same : (o : Option Noted) → NoteReply m.base s.slots i o Passed → (note : Noted) × (o ≡ Some note) × (note.answer ≡ says note.read (view_at m.base s.slots i))
      note_same None h = absurd h
      note_same (Some note) h = (note, refl, h.1)

      go : (o : Option Pass) → (slot_at s.slots i).pass ≡ o → status_of s.slots i ≡ Some (Executed n) → CheckReply m.base s.slots i (slot_at s.slots i).notes o Passed → Invariant m (record { slots = slice_set s.slots i (passed (slot_at s.slots i) o); clock = s.clock; front = s.front })
      go None e st c = absurd (let d : Passed ≡ NotYet = c in (cc))
      go (Some p) e st c =
          let t = note_same (slice_get (slot_at s.slots i).notes p.next) c in
          pass_kept i n w st p e t.0 t.1 (λ clear. t.2)
  keeps ok w (Check i n) Aborted h sound =
      let u = unless_executed (status_of s.slots i) n Aborted _ (λ e. cc) h in
      abort_kept i n w u.0
  keeps ok w (Commit i) Committed h sound =
      let c = commit_can (is_closed (status_of s.slots i)) (can_commit s i) h in
      let st = open_is (status_of s.slots i) c.0 in
      let p = and_parts (i == s.front) _ c.1 in
      let q = and_parts (is_executed (slot_at s.slots i).status) _ p.1 in
      let n = executed_is (slot_at s.slots i).status q.0 in
      let z = stamped_is s.slots i (slot_at s.slots i).stamp q.1 in
      let at = status_within s.slots i st.0 st.1 in
      let is : status_of s.slots i ≡ Some (Executed n.0) = st.1 ∙ ap Some (sym at.1 ∙ n.1) in
      let here = eqb-true i s.front p.0 in
      let done = subst (λ (k : ℕ). status_of s.slots k ≡ Some (Executed n.0) → (slot_at s.slots k).stamp ≡ Some z.0 → is_current s.slots k z.0 ≡ true → Invariant m (record { slots = slice_set s.slots k (record (slot_at s.slots k) { status = HasCommitted n.0 }); clock = s.clock; front = s.front + 1 })) (sym here) (commit_kept ok n.0 z.0) in
      subst (λ (y : Slot). Invariant m (record { slots = slice_set s.slots i y; clock = s.clock; front = s.front + 1 })) (committed_is (slot_at s.slots i) n.0 n.1) (done is z.1 z.2)
  keeps ok w (GiveUp i n) Given h sound =
      let u = unless_execution (status_of s.slots i) n w Given _ (λ e. cc) (λ e. cc) h in
      execution_kept i n w _ u.0 refl refl refl refl refl refl
  keeps ok w event reply h sound = inv

-- WHOLE HISTORIES

pub fresh_holds : (m : Setting) → Invariant m (fresh m.size)
unfolding view_at replies_to dataset_after replies_after
fresh_holds m =
    record {
      size = length-replicate m.size fresh_slot;
      within = omega arith;
      each = λ j lt. subst (λ y. SlotHolds m (replicate m.size fresh_slot) 0 j y) (sym (at j lt))
          (bare_holds m (replicate m.size fresh_slot) 0 j fresh_slot refl refl refl (omega arith));
      order = λ j lt. subst (λ y. InOrder 0 j y) (sym (at j lt))
          (record { below = λ e. absurd (let d : false ≡ true = e in (cc)); closed = λ l. absurd (omega arith) });
      serial = record { dataset = refl; replies = refl };
    }
  where
    at : (j : ℕ) → j < length (replicate m.size fresh_slot) → slot_at (replicate m.size fresh_slot) j ≡ fresh_slot
    at j lt = get_or-replicate m.size j fresh_slot fresh_slot (let l = length-replicate m.size fresh_slot in omega (arith, l))

pub history_holds : DeltasAreOne → (m : Setting) → IsSetting m → (s : State) (history : List Entry) → Invariant m s → LawfulFrom m s history → Invariant m (state_after s history)
unfolding state_after
history_holds exact m ok s [] inv lawful = inv
history_holds exact m ok s (e ∷ es) inv lawful =
    history_holds exact m ok (after s e.worker e.event e.reply) es (keeps exact m s inv ok e.worker e.event e.reply lawful.0.0 lawful.0.1) lawful.1

-- After every history the invariant holds.
pub invariant_after : DeltasAreOne → (m : Setting) → IsSetting m → (history : List Entry) → IsHistory m history → Invariant m (state_of m history)
unfolding IsHistory
invariant_after exact m ok history lawful = history_holds exact m ok (fresh m.size) history (fresh_holds m) lawful

-- A HISTORY WITH ONE MORE ENTRY

pub state_after-push : (s : State) (es : List Entry) (e : Entry) → state_after s (es ++ e ∷ []) ≡ after (state_after s es) e.worker e.event e.reply
unfolding state_after
state_after-push s [] e = refl
state_after-push s (x ∷ es) e = state_after-push (after s x.worker x.event x.reply) es e

lawful-push : (m : Setting) (s : State) (es : List Entry) (e : Entry) → LawfulFrom m s es → IsLawful m (state_after s es) e → LawfulFrom m s (es ++ e ∷ [])
unfolding state_after
lawful-push m s [] e h l = (l, tt)
lawful-push m s (x ∷ es) e h l = (h.0, lawful-push m (after s x.worker x.event x.reply) es e h.1 l)

pub one_more : (m : Setting) (es : List Entry) (e : Entry) → IsHistory m es → IsLawful m (state_of m es) e → IsHistory m (es ++ e ∷ []) × (state_of m (es ++ e ∷ []) ≡ after (state_of m es) e.worker e.event e.reply)
unfolding IsHistory
one_more m es e h l = (lawful-push m (fresh m.size) es e h l, state_after-push (fresh m.size) es e)
