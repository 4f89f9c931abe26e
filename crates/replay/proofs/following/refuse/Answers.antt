use Rattle.replay.proofs.Steps.{both_ok, follows_refused}
use Rattle.replay.proofs.following.refuse.Goals as goal

pub returns : goal.returns
returns c =
    both_ok c.step.result _ _ _ (λ r allowed is. follows_refused c.args.book.now c.step.new.self c.args.line.now c.args.i c.args.n r c.requires.event c.requires.reply allowed is)
    c.step.ensures.lawful c.step.ensures.entry
