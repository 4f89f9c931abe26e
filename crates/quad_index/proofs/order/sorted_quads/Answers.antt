use Rattle.std.proofs.Common.{rules}
use Rattle.std.proofs.lemmas.Fn.{always_returns_same}
use Rattle.datasets.specs.declared.id.Id.{Id}
use Rattle.datasets.specs.declared.quad.Quad.{Quad}
use Rattle.quad_lists.specs.Keys.{key_of}
use Rattle.quad_index.proofs.order.sorted_quads.Goals as goal

pub returns-clause-sorted : goal.returns-clause-sorted
returns-clause-sorted c = c.sort_unstable_by_key.ensures.sorted (λ (q : Quad Id). key_of c.args.arrangement q) (always_returns_same _ _ _ (λ a r f' k. search rules))
