-- The first request of a list for which something is to be done.
use Rattle.std.specs.Prelude.{◌≡◌, ℕ, List, Some, take}
use Rattle.stamp_tree.specs.declared.standing.Standing.{Standing}
use Rattle.stamp_tree.specs.Standings.{first_due, latest_after}

-- its place, and the last change of those before it
abbrev pub Leads : ℕ → List Standing → ℕ → ℕ → Type 0
Leads start list place latest = (first_due start list ≡ Some place) × (latest_after start (take place list) ≡ latest)
