use Rattle.std.proofs.Common.{List, ap, ◌∙◌}
use Rattle.terms.specs.declared.term.Term.{Term}
use Rattle.algebra.specs.Expressions.{expression_of}
use Rattle.values.specs.Values.{effective_of, is_true}
use Rattle.expr.proofs.OutcomeLaws.{is_true_or}
use Rattle.expr.proofs.ValueLaws.{value_at}
use Rattle.expr.proofs.filtering.FilteringFilters.is_passed.Goals as goal

pub returns : goal.returns
returns c =
    c.unwrap_or.ensures ∙ is_true_or c.effective.result
    ∙ ap is_true (c.effective.ensures ∙ ap effective_of (c.in_ok-value.ensures ∙ ap (λ (terms : List Term). value_at terms c.args.mapping.now (expression_of c.args.filter.now)) c.self.view_is))
