use Rattle.std.proofs.Common.{◌≡◌, length, sym, ap, ◌∙◌}
use Rattle.std.specs.Prelude.{map}
use Rattle.std.proofs.lemmas.Result.{IfOk-weaker}
use Rattle.std.proofs.lemmas.Bool.{eqb-true}
use Rattle.algebra.specs.Expressions.{expression_of}
use Rattle.datasets.specs.Id.{id_order}
use Rattle.meaning.specs.Operators.{left_join}
use Rattle.meaning.specs.Solutions.{passes_all}
use Rattle.solution.specs.Limits.{up_to}
use Rattle.eval.specs.Groups.{combined}
use Rattle.eval.proofs.Folds.{unfiltered}
use Rattle.eval.proofs.limited.combined_up_to.Goals as goal

pub returns-then-is_empty-clause-value : goal.returns-then-is_empty-clause-value
returns-then-is_empty-clause-value g c =
    let passes = g.F.Filters.passes c.args.query.now.filters.now in
    let few : length c.args.filters.now ≡ 0 = eqb-true _ _ (sym c.is_empty.ensures ∙ c.if-is_empty.true) in
    IfOk-weaker c.left_join_up_to.result _ _
    (λ found h. h
    ∙ ap (λ xs. up_to c.args.limit (left_join id_order (passes_all passes (map expression_of xs)) c.args.before c.args.next)) c.deref.ensures.value
    ∙ ap (λ l. up_to c.args.limit (combined passes l c.args.before c.args.next)) (sym c.in-LeftJoin.is)
    ∙ ap (up_to c.args.limit) (sym (unfiltered passes expression_of c.args.filters.now (combined passes c.args.link.now c.args.before c.args.next) few)))
    c.left_join_up_to.ensures
