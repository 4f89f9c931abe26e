use Rattle.replay.proofs.Steps.{all_ok, follows_check}
use Rattle.replay.proofs.following.check.Goals as goal

pub returns : goal.returns
returns c =
    all_ok c.check_as.result _ _ _ _ (λ r wanted allowed is. follows_check c.args.book.now c.check_as.new.self c.args.line.now c.args.i c.args.n c.tells_pass-passed.result r c.requires c.tells_pass-passed.ensures wanted allowed is)
    c.check_as.ensures.wanted c.check_as.ensures.lawful c.check_as.ensures.entry
