use Rattle.std.proofs.Common.{rules}
use Rattle.std.proofs.lemmas.Fn.{filter_same}
use Rattle.dict.specs.Dictionary.{is_known}
use Rattle.recount.specs.Counted.{counts}
use Rattle.recount.proofs.answers.those_that_count.Goals as goal

pub returns : goal.returns
returns c = filter_same _ (counts (is_known c.args.dict.now) c.args.pattern.now) _ (λ x b f' k. search rules) _ _ c.retain.ensures.filtered
