use Rattle.std.proofs.Common.{rules}
use Rattle.std.proofs.lemmas.Fn.{filter_same}
use Rattle.update.specs.Graphs.{is_among}
use Rattle.update.proofs.targets.among.Goals as goal

pub returns : goal.returns
returns c = filter_same _ (λ q. is_among c.args.target.now q.graph) _ (λ x b f' k. search rules) _ _ c.retain.ensures.filtered
