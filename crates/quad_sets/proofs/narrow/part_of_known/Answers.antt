use Rattle.std.proofs.Common.{map, ap, sym, ◌∙◌}
use Rattle.datasets.specs.Id.{id_order}
use Rattle.datasets.specs.Dataset.{matches}
use Rattle.quad_lists.specs.declared.key.Arrangement.TheVariants.{Spog}
use Rattle.quad_lists.specs.Keys.{key_of, key_order}
use Rattle.quad_lists.specs.Known.{quad_of}
use Rattle.quad_lists.specs.declared.known.KnownQuad.{KnownQuad}
use Rattle.quad_lists.proofs.Mapped.{filter-map}
use Rattle.quad_index.proofs.Orders.{set_by_places, sorted_unmapped}
use Rattle.quad_sets.proofs.narrow.part_of_known.Goals as goal

pub part_for-requires : goal.part_for-requires
part_for-requires c = sorted_unmapped quad_of (key_of Spog) key_order c.args.known.now (set_by_places (map quad_of c.args.known.now) c.requires)

pub returns : goal.returns
returns c =
    let fits = matches id_order c.args.pattern.now in
    filter-map fits quad_of c.part_for.result.now
    ∙ ap (map quad_of) (c.part_for.ensures (λ (k : KnownQuad). fits (quad_of k)) (λ k h. h))
    ∙ sym (filter-map fits quad_of c.args.known.now)
