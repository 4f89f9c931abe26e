-- Filters: slots of the terms that a place has had. Many terms share a slot, so a filter may let
-- through what the place never had.
use Rattle.std.specs.Prelude.{ℕ, ◌%◌, Bool, false, true, List, Option, Some, None, ◌&&◌}
use Rattle.std.proofs.Common.{get_or}
use Rattle.std.specs.Option.{is_none}
use Rattle.datasets.specs.declared.id.Id.{Id}
use Rattle.datasets.specs.declared.id.Id.TheVariants.{Known, Made}
use Rattle.datasets.specs.declared.read.GraphPlace.{GraphPlace}
use Rattle.datasets.specs.declared.read.GraphPlace.TheVariants.{Any, Only}
use Rattle.datasets.specs.declared.read.QuadPattern.{QuadPattern}
use Rattle.version_overlay.specs.declared.seen.SeenQuads.{SeenQuads}

-- a term's slot
abbrev pub slot_of : Id → ℕ
slot_of (Known number) = number % 262144
slot_of (Made request op label rank) = rank % 262144

abbrev pub is_seen : List Bool → Id → Bool
is_seen slots term = get_or slots (slot_of term) false

-- the default graph is always let through
abbrev pub is_graph_seen : List Bool → Option Id → Bool
is_graph_seen slots None = true
is_graph_seen slots (Some term) = is_seen slots term

-- whether a filter lets a pattern's place through
abbrev pub lets : List Bool → Option Id → Bool
lets slots None = true
lets slots (Some term) = is_seen slots term

abbrev pub lets_graph : List Bool → GraphPlace Id → Bool
lets_graph slots Any = true
lets_graph slots (Only graph) = is_graph_seen slots graph

-- whether slots of each place let a pattern through
abbrev pub passes : (subjects predicates objects graphs : List Bool) → QuadPattern Id → Bool
passes subjects predicates objects graphs p = lets subjects p.subject && (lets predicates p.predicate && (lets objects p.object && lets_graph graphs p.graph))

-- whether a filter lets a pattern through
abbrev pub may_match : SeenQuads → QuadPattern Id → Bool
may_match seen p = passes seen.subjects seen.predicates seen.objects seen.graphs p

abbrev pub names_no_term : GraphPlace Id → Bool
names_no_term Any = true
names_no_term (Only None) = true
names_no_term (Only (Some term)) = false

-- whether a pattern binds no place to a term
abbrev pub binds_no_term : QuadPattern Id → Bool
binds_no_term p = is_none p.subject && (is_none p.predicate && (is_none p.object && names_no_term p.graph))
