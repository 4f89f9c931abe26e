use Rattle.std.proofs.Common.{◌≡◌, ◌++◌, drop}
use Rattle.std.specs.Prelude.{map}
use Rattle.datasets.specs.declared.read.Read.TheVariants.{GraphIs}
use Rattle.update.proofs.lot.push_questions.Given as goal

-- the questions so far, with those for the names that are left, are those before and those for all
abbrev pub invariant-loop-name : goal.invariant-loop-name
invariant-loop-name l = l.reads.items ++ map (λ g. GraphIs g) (drop l.name-index l.names) ≡ l.fn.reads.items ++ map (λ g. GraphIs g) l.names
