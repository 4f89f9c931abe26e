-- Lists of quads, in little memory where that is possible.
use Rattle.std.specs.Prelude.{List, map}
use Rattle.datasets.specs.declared.id.Id.{Id}
use Rattle.datasets.specs.declared.quad.Quad.{Quad}
use Rattle.quad_lists.specs.Known.{quad_of}
use Rattle.quad_lists.specs.declared.quad_list.Entries.{Entries}
use Rattle.quad_lists.specs.declared.quad_list.Entries.TheVariants.{Narrow, Wide}

-- the quads that the entries are
abbrev pub quads_in : Entries → List (Quad Id)
quads_in (Narrow known) = map quad_of known.items
quads_in (Wide quads) = quads.items
