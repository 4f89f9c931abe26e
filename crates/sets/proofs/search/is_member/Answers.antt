use Rattle.std.proofs.Common.{◌∙◌}
use Rattle.sets.proofs.Members.{placed_is}
use Rattle.sets.proofs.search.is_member.Goals as goal

pub returns : goal.returns
returns g c =
    c.is_some.ensures ∙ placed_is g.met.T.Ord.total c.args.set.now c.args.value.now c.place_of.result c.place_of.ensures.found c.place_of.ensures.none
