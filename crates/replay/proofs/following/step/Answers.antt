use Rattle.replay.proofs.Steps.{both_ok, follows_whole}
use Rattle.replay.proofs.following.step.Goals as goal

pub returns : goal.returns
returns c =
    both_ok c.step.result _ _ _ (λ r allowed is. follows_whole c.args.book.now c.step.new.self c.args.line.now c.args.event r c.requires allowed is)
    c.step.ensures.lawful c.step.ensures.entry
