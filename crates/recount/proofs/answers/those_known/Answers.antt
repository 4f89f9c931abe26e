use Rattle.std.proofs.Common.{rules}
use Rattle.std.proofs.lemmas.Fn.{filter_same}
use Rattle.dict.specs.Dictionary.{is_known}
use Rattle.recount.proofs.answers.those_known.Goals as goal

pub returns : goal.returns
returns c = filter_same _ (λ name. is_known c.args.dict.now name) _ (λ x b f' k. search rules) _ _ c.retain.ensures.filtered
