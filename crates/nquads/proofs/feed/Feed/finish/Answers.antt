use Rattle.nquads.proofs.FedLaws.{told_all, fed_all}
use Rattle.nquads.proofs.feed.Feed.finish.Goals as goal

pub returns-in-Some : goal.returns-in-Some
returns-in-Some c = λ limit fed is. told_all limit fed c.args.self c.in-Some.fault c.in-Some.is is

pub returns : goal.returns
returns c = λ limit fed is. fed_all limit fed c.args.self c.answer.result c.in_default.is c.answer.ensures.answer is
