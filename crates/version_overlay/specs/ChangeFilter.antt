-- Which reads a filter of changes lets through.
use Rattle.std.specs.Prelude.{Bool, true}
use Rattle.datasets.specs.declared.read.Read.TheVariants.{Scan, GraphIs, Graphs}
use Rattle.reads.specs.Reads.{Read}
use Rattle.version_overlay.specs.declared.change_filter.ChangeFilter.{ChangeFilter}
use Rattle.version_overlay.specs.Seen.{may_match, is_seen}

-- whether a filter lets a read through; it tells nothing of the question for all names
abbrev pub may_cover : ChangeFilter → Read → Bool
may_cover filter (Scan p) = may_match filter.quads p
may_cover filter (GraphIs name) = is_seen filter.names name
may_cover filter Graphs = true
