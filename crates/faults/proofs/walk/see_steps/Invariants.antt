use Rattle.std.proofs.Common.{◌≡◌, ◌++◌, List, drop}
use Rattle.syntax_trees.specs.declared.tree.Step.{Step}
use Rattle.faults.specs.Walk.{kinds_with}
use Rattle.faults.proofs.walk.see_steps.Given as goal

abbrev pub invariant-loop-step : goal.invariant-loop-step
invariant-loop-step l = (rest : List Step) → kinds_with l.walk (drop l.step-index l.steps ++ rest) ≡ kinds_with l.fn.walk (l.steps ++ rest)
