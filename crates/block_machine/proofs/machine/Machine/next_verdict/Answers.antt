use Rattle.std.proofs.Common.{◌≡◌, ap, sym, ◌∙◌, subst, slice_get, Some}
use Rattle.std.proofs.lemmas.Result.{IfOk-weaker}
use Rattle.incarnations.specs.Slots.{Noted}
use Rattle.validate.specs.Below.{slot_at}
use Rattle.validate.specs.Verdicts.{NoteVerdict, ListVerdict}
use Rattle.block_machine.specs.Machine.{State, NoteReply, wanted_reply}
use Rattle.block_machine.proofs.Wanted.{wanted_answers, wanted_lists, reply_answers, reply_lists, is_there}
use Rattle.block_machine.proofs.machine.Machine.next_verdict.Goals as goal

pub returns-then-passed-clause-wanted : goal.returns-then-passed-clause-wanted
returns-then-passed-clause-wanted c =
    IfOk-weaker c.verdict_by_answers.result _ _
    (λ v h may. wanted_answers c.args.base.now c.args.self.now.slots c.args.i (slice_get (slot_at c.args.self.now.slots c.args.i).notes c.args.stands.next) v (subst (λ (s : _). (note : Noted) → slice_get (slot_at s c.args.i).notes c.args.stands.next ≡ Some note → NoteVerdict c.args.base.now s c.args.i note v) (ap (λ (s : State). s.slots) c.self.view_is) h)
    (subst (λ w. NoteReply c.args.base.now c.args.self.now.slots c.args.i (slice_get (slot_at c.args.self.now.slots c.args.i).notes c.args.stands.next) (wanted_reply w)) c.if-passed.true may) ∙ ap wanted_reply (sym c.if-passed.true))
    c.verdict_by_answers.ensures

pub returns-then-passed-clause-reply : goal.returns-then-passed-clause-reply
returns-then-passed-clause-reply c =
    IfOk-weaker c.verdict_by_answers.result _ _
    (λ v h. reply_answers c.args.base.now c.args.self.now.slots c.args.i (slice_get (slot_at c.args.self.now.slots c.args.i).notes c.args.stands.next) (is_there (slot_at c.args.self.now.slots c.args.i).notes c.args.stands.next (c.requires.next c.args.stands c.requires.pass)) v (λ note e. c.requires.names c.args.stands note c.requires.pass e) (subst (λ (s : _). (note : Noted) → slice_get (slot_at s c.args.i).notes c.args.stands.next ≡ Some note → NoteVerdict c.args.base.now s c.args.i note v) (ap (λ (s : State). s.slots) c.self.view_is) h))
    c.verdict_by_answers.ensures

pub returns-else-passed-clause-wanted : goal.returns-else-passed-clause-wanted
returns-else-passed-clause-wanted c =
    IfOk-weaker c.verdict_by_lists.result _ _
    (λ v h may. wanted_lists c.args.base.now c.args.self.now.slots c.args.i (slice_get (slot_at c.args.self.now.slots c.args.i).notes c.args.stands.next) v (subst (λ (s : _). (note : Noted) → slice_get (slot_at s c.args.i).notes c.args.stands.next ≡ Some note → ListVerdict s c.args.i note.read note.touching v) (ap (λ (s : State). s.slots) c.self.view_is) h)
    (subst (λ w. NoteReply c.args.base.now c.args.self.now.slots c.args.i (slice_get (slot_at c.args.self.now.slots c.args.i).notes c.args.stands.next) (wanted_reply w)) c.if-passed.false may) ∙ ap wanted_reply (sym c.if-passed.false))
    c.verdict_by_lists.ensures

pub returns-else-passed-clause-reply : goal.returns-else-passed-clause-reply
returns-else-passed-clause-reply c =
    IfOk-weaker c.verdict_by_lists.result _ _
    (λ v h. reply_lists c.args.base.now c.args.self.now.slots c.args.i (λ note. c.lists_are_enough.ensures c.args.base.now c.args.self.now.slots c.args.i note) (slice_get (slot_at c.args.self.now.slots c.args.i).notes c.args.stands.next) (is_there (slot_at c.args.self.now.slots c.args.i).notes c.args.stands.next (c.requires.next c.args.stands c.requires.pass)) v (λ note e. c.requires.names c.args.stands note c.requires.pass e) (subst (λ (s : _). (note : Noted) → slice_get (slot_at s c.args.i).notes c.args.stands.next ≡ Some note → ListVerdict s c.args.i note.read note.touching v) (ap (λ (s : State). s.slots) c.self.view_is) h))
    c.verdict_by_lists.ensures
