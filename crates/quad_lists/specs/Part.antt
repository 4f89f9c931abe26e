-- Parts of the entries of an order.
use Rattle.std.specs.Prelude.{List, map}
use Rattle.datasets.specs.declared.id.Id.{Id}
use Rattle.datasets.specs.declared.quad.Quad.{Quad}
use Rattle.quad_lists.specs.Known.{quad_of}
use Rattle.quad_lists.specs.declared.part.Part.{Part}
use Rattle.quad_lists.specs.declared.part.Part.TheVariants.{Narrow, Wide}

-- the quads that the entries are
abbrev pub quads_of_part : Part → List (Quad Id)
quads_of_part (Narrow known) = map quad_of known.now
quads_of_part (Wide quads) = quads.now
