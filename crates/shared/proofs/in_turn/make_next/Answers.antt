use Rattle.std.proofs.Common.{rules, ◌∙◌, ap, sym}
use Rattle.std.proofs.lemmas.Result.{err_from_is_err_and}
use Rattle.block_machine.specs.Scans.{questions_of}
use Rattle.block_machine.proofs.Asked.{has_scans}
use Rattle.shared.specs.declared.kept.Subject.{Subject}
use Rattle.shared.proofs.InTurn.{went_nowhere, went_one}
use Rattle.shared.proofs.in_turn.make_next.Goals as goal

pub step_scanned-requires-clause-scans : goal.step_scanned-requires-clause-scans
step_scanned-requires-clause-scans c =
    has_scans _ c.args.event.now c.args.scans.now (c.requires.scans ∙ ap (λ (s : Subject). questions_of s.base c.args.event.now) (sym c.requires.subject))

pub returns-in_err-reserve : goal.returns-in_err-reserve
returns-in_err-reserve c =
    let told = err_from_is_err_and c.from_residual.result c.from_residual.ensures.1 in
    went_nowhere _ _ c.requires.subject _ _ _ _ c.from_residual.result told.0 told.1 (search rules) (search rules)

pub returns-in_err-reply : goal.returns-in_err-reply
returns-in_err-reply c =
    let told = err_from_is_err_and c.from_residual-in_err-reply.result c.from_residual-in_err-reply.ensures.1 in
    went_nowhere _ _ c.requires.subject _ _ _ _ c.from_residual-in_err-reply.result told.0 told.1 (search rules) (search rules)

pub returns : goal.returns
returns c =
    went_one c.args.pass.now c.args.book.now c.requires.subject c.step_scanned.new.self c.worker.result c.args.event.now c.in_ok-reply.reply c.lets_go_on-goes_on.result c.args.replies.now.items c.push_reserved.new.self.items
    c.worker.ensures (search rules) (search rules) c.journal-journal.ensures.lawful c.lets_go_on-goes_on.ensures (search rules)
