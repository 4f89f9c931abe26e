use Rattle.std.specs.HashSet.{contains}
use Rattle.std.specs.Prelude.{not, nat_eq}
use Rattle.std.proofs.Common.{◌≡◌, ◌++◌, map, filter, take}
use Rattle.canonical_nquads.specs.Placed.{graph_line_at}
use Rattle.canonical_nquads.proofs.canonical.push_graph_lines.Given as goal

abbrev pub invariant-loop-name : goal.invariant-loop-name
invariant-loop-name l = l.lines.items ≡ l.fn.lines.items ++ map (graph_line_at l.texts) (filter (λ name. not (contains nat_eq l.full name)) (take l.name-index l.names))
