use Rattle.std.proofs.Common.{map, ap, sym, ◌∙◌}
use Rattle.datasets.specs.Id.{id_order}
use Rattle.datasets.specs.Dataset.{quad_order}
use Rattle.sets.specs.Sets.{has}
use Rattle.quad_lists.specs.Known.{quad_of}
use Rattle.quad_lists.proofs.Mapped.{sorted-unmap}
use Rattle.quad_sets.proofs.MappedSets.{has-map, lacks_others}
use Rattle.quad_sets.proofs.narrow.is_among_known.Goals as goal

pub is_member-requires : goal.is_member-requires
is_member-requires c = sorted-unmap quad_of (quad_order id_order) c.args.known.now c.requires

pub returns-in-Some : goal.returns-in-Some
returns-in-Some c =
    c.is_member.ensures ∙ sym (has-map quad_of (quad_order id_order) c.args.known.now c.in-Some.entry) ∙ ap (has (quad_order id_order) (map quad_of c.args.known.now)) c.in-Some.ensures.some

pub returns-in-None : goal.returns-in-None
returns-in-None c = sym (lacks_others quad_of (quad_order id_order) c.args.quad.now c.in-None.ensures.none c.args.known.now)
