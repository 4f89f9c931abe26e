use Rattle.replay.proofs.Steps.{both_ok, follows_published}
use Rattle.replay.proofs.following.publish.Goals as goal

pub returns : goal.returns
returns c =
    both_ok c.step.result _ _ _
    (λ r allowed is. follows_published c.args.book.now c.step.new.self c.args.line.now c.args.i c.args.n r c.in_ok-finished.finished c.requires.event c.requires.reply c.in_ok-finished.ensures.none
    c.in_ok-finished.ensures.sound c.in_ok-finished.ensures.notes allowed is)
    c.step.ensures.lawful c.step.ensures.entry
