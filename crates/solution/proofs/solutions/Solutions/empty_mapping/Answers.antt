use Rattle.std.proofs.Common.{ap, ◌∙◌, ◌++◌, ◌∷◌, []}
use Rattle.solution.proofs.Rising.{rises-one}
use Rattle.solution.proofs.solutions.Solutions.empty_mapping.Goals as goal

pub invariant_of-result : goal.invariant_of-result
invariant_of-result c = rises-one _ c.in_ok-empty.field-0 (c.in_ok-push.ensures.items ∙ ap (λ xs. xs ++ c.in_ok-empty.field-0 ∷ []) c.new-mappings.ensures.items)
