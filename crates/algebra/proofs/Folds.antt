-- What patterns and expressions of lists are seen as.
use Rattle.std.proofs.Common.{◌≡◌, List, [], ◌∷◌, map, refl, sym, ap, ◌∙◌}
use Rattle.std.specs.Global.{Vec}
use Rattle.algebra.specs.declared.expression.TwoOperator.{TwoOperator}
use Rattle.algebra.specs.declared.expression.Expression.{Expression as KeptExpression, fold-roll-Expression}
use Rattle.algebra.specs.declared.expression.Expression.TheOpen.{Expression-F}
use Rattle.algebra.specs.declared.plan.Link.{Link}
use Rattle.algebra.specs.declared.plan.Plan.{Plan as Kept, fold-roll-Plan}
use Rattle.algebra.specs.declared.plan.Plan.TheOpen.{Plan-F}
use Rattle.algebra.specs.declared.plan.Plan.TheVariants as kept
use Rattle.algebra.specs.declared.plan.Plan.TheVariants.{rolls-Group, rolls-Union}
use Rattle.algebra.specs.declared.expression.Expression.TheVariants as kept_expression
use Rattle.algebra.specs.declared.expression.Expression.TheVariants.{rolls-Chain}
use Rattle.std.specs.Global.{Box}
use Rattle.algebra.specs.Expressions.{Expression, chained, expression_of, expression_step, steps_of}
use Rattle.algebra.specs.Plans.{Plan, nothing, linked_all, filtered, united, plan_of, plan_step, parts_of}

module _ {K : Type 0} where
  pub group_is : (parts : Vec (Link K × Kept K)) (es : Vec (KeptExpression K)) → plan_of (kept.Group parts es) ≡ filtered (map expression_of es.items) (linked_all nothing (parts_of parts.items))
  group_is parts es =
      ap plan_of (sym (rolls-Group parts es)) ∙ fold-roll-Plan K (Plan K) plan_step (Plan-F.Group parts es)

  pub union_is : (ps : Vec (Kept K)) → plan_of (kept.Union ps) ≡ united (map plan_of ps.items)
  union_is ps = ap plan_of (sym (rolls-Union ps)) ∙ fold-roll-Plan K (Plan K) plan_step (Plan-F.Union ps)

  pub chain_is : (e : Box (KeptExpression K)) (steps : Vec (TwoOperator × KeptExpression K)) → expression_of (kept_expression.Chain e steps) ≡ chained (expression_of e.value) (steps_of steps.items)
  chain_is e steps = ap expression_of (sym (rolls-Chain e steps)) ∙ fold-roll-Expression K (Expression K) expression_step (Expression-F.Chain e steps)
