use Rattle.std.proofs.Common.{◌≡◌, ◌++◌, drop}
use Rattle.translation.specs.Translation.{translated_after, translated}
use Rattle.faults.specs.Kinds.{AreKindsIn}
use Rattle.faults.specs.Walk.{kinds_with}
use Rattle.rules.proofs.VerdictLaws.{IsFree}
use Rattle.rules.proofs.request.check.Given as goal

abbrev pub invariant-loop-step : goal.invariant-loop-step
invariant-loop-step l = record {
  found : AreKindsIn l.fn.syntax (kinds_with l.walk (drop l.step-index l.fn.syntax.steps));
  made : IsFree l.walk → l.update ++ translated_after l.walk.prefixes (drop l.step-index l.fn.syntax.steps) ≡ translated l.fn.syntax.steps;
}
