use Rattle.std.specs.HashSet.{contains}
use Rattle.std.specs.Prelude.{nat_eq, slice_index_or, true, false}
use Rattle.std.specs.List.{list_any}
use Rattle.std.proofs.Common.{◌≡◌, ℕ, take}
use Rattle.canonical_nquads.specs.Placed.{is_in_at}
use Rattle.canonical_nquads.proofs.canonical.full_graphs.Given as goal

abbrev pub invariant-loop-quad : goal.invariant-loop-quad
invariant-loop-quad l =
    ((name : ℕ) → contains nat_eq l.graphs name ≡ list_any (is_in_at name) (take l.quad-index l.quads))
    × ((k : ℕ) → slice_index_or l.known.items k false ≡ true → contains nat_eq l.graphs k ≡ true)
