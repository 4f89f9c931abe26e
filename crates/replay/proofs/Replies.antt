-- Where a machine may reply one thing alone.
use Rattle.std.proofs.Common.{◌≡◌, ℕ, Bool, List, Option, Some, None, refl, sym, ap, ◌∙◌, subst}
use Rattle.std.specs.Prelude.{◌≢◌}
use Rattle.std.proofs.lemmas.Option.{same_Some}
use Rattle.reads.specs.Reads.{View, Read, Answer, says}
use Rattle.delta.specs.declared.finished.Finished.{Finished}
use Rattle.incarnations.specs.declared.state.Status.{Status}
use Rattle.incarnations.specs.declared.state.Status.TheVariants.{Ready, Executing, Executed, Committed as HasCommitted}
use Rattle.incarnations.specs.declared.state.Pass.{Pass}
use Rattle.incarnations.specs.declared.state.Event.{Event}
use Rattle.incarnations.specs.declared.state.Event.TheVariants as event
use Rattle.incarnations.specs.declared.state.Reply.{Reply}
use Rattle.incarnations.specs.declared.state.Reply.TheVariants.{Answered, Blocked, Published, Passed, Aborted, NotYet}
use Rattle.incarnations.specs.Slots.{Noted, transcript_of}
use Rattle.incarnations.specs.Statuses.{execution_refusal, executed_refusal}
use Rattle.validate.specs.Below.{slot_at, blocker, view_at}
use Rattle.slots.specs.Slots.{status_of}
use Rattle.block_machine.specs.Machine.{State, Unless, TakeReply, ReadReply, PublishReply, NoteReply, CheckReply, IsAllowed, wanted_reply}
use Rattle.journal.specs.declared.lines.Event as told_event
use Rattle.journal.specs.declared.lines.Event.TheVariants.{Take, Read as ReadOf, Publish, Begin, Check, Commit, GiveUp}
use Rattle.replay.specs.Lines.{line_reply}
use Rattle.replay.specs.Following.{whole_event, tells_pass}

unless_one : (o : Option Reply) (r r' : Reply) (P P' : Type 0) → (P → P' → r' ≡ r) → Unless o r P → Unless o r' P' → r' ≡ r
unless_one (Some x) r r' P P' f h h' = h' ∙ sym h
unless_one None r r' P P' f h h' = f h h'

take_one : (o : Option Status) (r r' : Reply) → TakeReply o r → TakeReply o r' → r' ≡ r
take_one (Some (Ready n)) r r' h h' = h' ∙ sym h
take_one (Some (Executing n by)) r r' h h' = h' ∙ sym h
take_one (Some (Executed n)) r r' h h' = h' ∙ sym h
take_one (Some (HasCommitted n)) r r' h h' = h' ∙ sym h
take_one None r r' h h' = h' ∙ sym h

module _ (base : View) (s : State) (w : ℕ) where
  abbrev OneAt : Event → Type 0
  OneAt e = (r r' : Reply) → IsAllowed base s w e r → IsAllowed base s w e r' → r' ≡ r

  -- an event that a line tells whole
  pub whole_one : (t : told_event.Event) (e : Event) → whole_event t ≡ Some e → OneAt e
  whole_one (Take i) e h = subst OneAt (same_Some _ _ h) (λ r r' a a'. take_one (status_of s.slots i) r r' a a')
  whole_one (ReadOf i n q) e h = absurd (cc)
  whole_one (Publish i n) e h = absurd (cc)
  whole_one (Begin i n) e h = subst OneAt (same_Some _ _ h) (λ r r' a a'. unless_one (executed_refusal (status_of s.slots i) n) r r' _ _ (λ x y. y ∙ sym x) a a')
  whole_one (Check i n) e h = absurd (cc)
  whole_one (Commit i) e h = subst OneAt (same_Some _ _ h) (λ r r' a a'. a' ∙ sym a)
  whole_one (GiveUp i n) e h = subst OneAt (same_Some _ _ h) (λ r r' a a'. unless_one (execution_refusal (status_of s.slots i) n w) r r' _ _ (λ x y. y ∙ sym x) a a')

  -- READS

  now : Option ℕ → Answer → Reply
  now None answer = Answered answer
  now (Some j) answer = Blocked j

  module _ (i : ℕ) (q : Read) where
    reply_is : (r : Reply) → ReadReply base s.slots i q r → r ≡ now (blocker s.slots i q) (says q (view_at base s.slots i))
    unfolding now
    reply_is (Blocked j) h = ap (λ o. now o (says q (view_at base s.slots i))) (sym h)
    reply_is (Answered answer) h = ap Answered h.1 ∙ ap (λ o. now o (says q (view_at base s.slots i))) (sym h.0)
    reply_is _ h = absurd h

    pub read_one : (n : ℕ) → OneAt (event.Read i n q)
    read_one n r r' a a' = unless_one (execution_refusal (status_of s.slots i) n w) r r' _ _ (λ x y. reply_is r' y ∙ sym (reply_is r x)) a a'

  -- PUBLICATIONS

  refused : (notes : List Noted) (f : Option Finished) (r r' : Reply) → r' ≢ Published → r ≡ NotYet → PublishReply notes f r' → r' ≡ r
  refused notes None r r' other h h' = h' ∙ sym h
  refused notes (Some f) r Published other h h' = absurd (other refl)
  refused notes (Some f) r NotYet other h h' = sym h
  refused notes (Some f) r _ other h h' = absurd h'

  pub refused_one : (i n : ℕ) (f : Option Finished) (r r' : Reply) → r' ≢ Published → IsAllowed base s w (event.Publish i n None) r → IsAllowed base s w (event.Publish i n f) r' → r' ≡ r
  refused_one i n f r r' other a a' =
      unless_one (execution_refusal (status_of s.slots i) n w) r r' _ _ (refused (slot_at s.slots i).notes f r r' other) a a'

  published : (notes : List Noted) (f : Finished) (r : Reply) → f.transcript ≡ transcript_of notes → PublishReply notes (Some f) r → r ≡ Published
  published notes f Published is h = refl
  published notes f NotYet is h = absurd (h is)
  published notes f _ is h = absurd h

  pub published_one : (i n : ℕ) (f : Finished) (o : Option Finished) (r r' : Reply) → f.transcript ≡ transcript_of (slot_at s.slots i).notes → r' ≡ Published
      → IsAllowed base s w (event.Publish i n (Some f)) r → IsAllowed base s w (event.Publish i n o) r' → r' ≡ r
  published_one i n f o r r' is told a a' =
      unless_one (execution_refusal (status_of s.slots i) n w) r r' _ _ (λ x y. told ∙ sym (published (slot_at s.slots i).notes f r is x)) a a'

  -- CHECKS

  blocked_one : (i : ℕ) (note : Noted) (r : Reply) (j : ℕ) → NoteReply base s.slots i (Some note) r → blocker s.slots i note.read ≡ Some j → r ≡ Blocked j
  blocked_one i note (Blocked k) j h b = ap Blocked (same_Some _ _ (sym h ∙ b))
  blocked_one i note Passed j h b = absurd (let both : None ≡ Some j = sym h.0 ∙ b in (cc))
  blocked_one i note Aborted j h b = absurd (let both : None ≡ Some j = sym h.0 ∙ b in (cc))
  blocked_one i note _ j h b = absurd h

  -- a reply that is no choice
  abbrev IsSettled : Reply → Type 0
  IsSettled Passed = ⊥
  IsSettled Aborted = ⊥
  IsSettled _ = Unit {0}

  note_one : (i : ℕ) (o : Option Noted) (r r' : Reply) → IsSettled r' → NoteReply base s.slots i o r → NoteReply base s.slots i o r' → r' ≡ r
  note_one i None r r' k h h' = absurd h
  note_one i (Some note) r (Blocked j) k h h' = sym (blocked_one i note r j h h')
  note_one i (Some note) r Passed k h h' = absurd k
  note_one i (Some note) r Aborted k h h' = absurd k
  note_one i (Some note) r _ k h h' = absurd h'

  pass_one : (i : ℕ) (o : Option Pass) (r r' : Reply) → IsSettled r' → CheckReply base s.slots i (slot_at s.slots i).notes o r → CheckReply base s.slots i (slot_at s.slots i).notes o r' → r' ≡ r
  pass_one i None r r' k h h' = h' ∙ sym h
  pass_one i (Some pass) r r' k h h' = note_one i _ r r' k h h'

  settled_one : (i n : ℕ) (r r' : Reply) → IsSettled r' → IsAllowed base s w (event.Check i n) r → IsAllowed base s w (event.Check i n) r' → r' ≡ r
  settled_one i n r r' k a a' = unless_one (executed_refusal (status_of s.slots i) n) r r' _ _ (pass_one i (slot_at s.slots i).pass r r' k) a a'

  abbrev Wanted : ℕ → ℕ → Reply → Bool → Type 0
  Wanted i n r passed = IsAllowed base s w (event.Check i n) (wanted_reply passed) → r ≡ wanted_reply passed

  pub check_one : (i n : ℕ) (passed : Bool) (r r' : Reply) → passed ≡ tells_pass (line_reply r') → Wanted i n r passed → IsAllowed base s w (event.Check i n) r → IsAllowed base s w (event.Check i n) r' → r' ≡ r
  check_one i n passed r Passed e wanted a a' = sym (subst (Wanted i n r) e wanted a')
  check_one i n passed r Aborted e wanted a a' = sym (subst (Wanted i n r) e wanted a')
  check_one i n passed r r' e wanted a a' = settled_one i n r r' tt a a'
