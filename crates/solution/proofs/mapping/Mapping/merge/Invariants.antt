use Rattle.std.proofs.Common.{◌≡◌, ◌++◌}
use Rattle.meaning.specs.Mapping.{merge}
use Rattle.solution.proofs.mapping.Mapping.merge.Given as goal

-- the merges of the places so far and those of what is left are all merges
abbrev pub invariant-loop-x : goal.invariant-loop-x
invariant-loop-x l =
    l.places.items ++ merge l.x-iterator.a.rest.now l.x-iterator.b.rest.now
    ≡ merge l.initial.x-iterator.a.rest.now l.initial.x-iterator.b.rest.now
