-- How a group goes on, at its solutions.
use Rattle.std.specs.Prelude.{ℕ, Bool, List, Some, map, filter_map}
use Rattle.std.specs.List.{flat_map}
use Rattle.algebra.specs.Expressions.{Expression, expression_of}
use Rattle.algebra.specs.Plans.{Plan}
use Rattle.algebra.specs.declared.pattern.Place.TheVariants as place
use Rattle.algebra.specs.declared.plan.Link.{Link}
use Rattle.algebra.specs.declared.plan.Link.TheVariants as link
use Rattle.datasets.specs.declared.id.Id.{Id}
use Rattle.datasets.specs.Id.{id_order}
use Rattle.meaning.specs.Mapping.{Mapping, fitted}
use Rattle.meaning.specs.Operators.{join, minus, left_join}
use Rattle.meaning.specs.Solutions.{passes_all, solutions}
use Rattle.reads.specs.Reads.{View}

-- the solutions before, and those of the pattern that a group goes on with
abbrev pub combined : (Expression Id → Mapping Id → Bool) → Link Id → List (Mapping Id) → List (Mapping Id) → List (Mapping Id)
combined passes link.Join xs ys = join id_order xs ys
combined passes (link.LeftJoin es) xs ys = left_join id_order (passes_all passes (map expression_of es.items)) xs ys
combined passes link.Minus xs ys = minus id_order xs ys

-- the solutions of a pattern in each of these graphs, with a variable bound to the graph's name
abbrev pub in_graphs : (Expression Id → Mapping Id → Bool) → (width variable : ℕ) → Plan Id → View → List Id → List (Mapping Id)
in_graphs passes width variable plan d names =
    flat_map (λ name. filter_map (fitted id_order (place.Variable variable) name) (solutions id_order passes width plan d (Some name))) names
