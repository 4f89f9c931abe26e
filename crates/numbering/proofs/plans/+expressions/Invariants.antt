use Rattle.std.proofs.Common.{◌≡◌, true, drop}
use Rattle.std.specs.List.{list_all}
use Rattle.algebra.specs.Expressions.{Expression, chained, steps_of}
use Rattle.datasets.specs.declared.id.Id.{Id}
use Rattle.dict.specs.Dictionary.{term_of, is_known}
use Rattle.meaning_laws.specs.Renaming.{renamed_expression, expression_known}
use Rattle.store.specs.Held.{is_held}
use Rattle.numbering.proofs.plans.+expressions.Given as goal

abbrev pub invariant-number_steps-loop-step : goal.invariant-number_steps-loop-step
invariant-number_steps-loop-step l = record {
  is : (first : Expression Id) → chained (renamed_expression (term_of l.numbers) (chained first (steps_of l.list.items))) (steps_of (drop l.step-index l.steps)) ≡ chained (renamed_expression (term_of l.numbers) first) (steps_of l.steps);
  known : list_all (λ s. expression_known (is_known l.numbers) s.1) (steps_of l.list.items) ≡ true;
  held : list_all (λ s. expression_known (is_held l.numbers) s.1) (steps_of (drop l.step-index l.steps)) ≡ true;
}
