use Rattle.std.proofs.Common.{◌++◌, ◌+◌, drop, sym, ap, subst, arith, ◌∙◌}
use Rattle.datasets.specs.Dataset.{quads_in}
use Rattle.datasets.specs.Id.{id_order}
use Rattle.meaning.specs.Operators.{join}
use Rattle.meaning.specs.Solutions.{joined_with}
use Rattle.reads.specs.Reads.{applied}
use Rattle.eval.specs.Scans.{TellScans}
use Rattle.eval.proofs.Lots.{next_of, none_left}
use Rattle.eval.proofs.basic.told_joined.Goals as goal

pub loop-pattern-preserved : goal.loop-pattern-preserved
loop-pattern-preserved g c d later told =
    let width = c.args.query.now.width in
    let triples = quads_in id_order c.args.graph (applied c.args.query.now.changes.now d).quads in
    let next = drop (c.loop-pattern.pattern-index + 1) c.args.patterns.now in
    let split = next_of c.args.patterns.now c.loop-pattern.pattern-index _ c.loop-pattern-test.true in
    let before = c.loop-pattern.invariant d later told in
    let step = c.in_ok-next.ensures d (next ++ later) (subst (λ ts. TellScans (ts ++ later) c.args.graph c.loop-pattern.left.now d) split before.0) in (
      step.1,
      ap (λ xs. joined_with id_order width xs next triples) (c.in_ok-found-2.ensures ∙ ap (join id_order c.loop-pattern.found) step.0)
          ∙ ap (λ ts. joined_with id_order width c.loop-pattern.found ts triples) (sym split) ∙ before.1,
    )

pub returns : goal.returns
returns g c d later told =
    let width = c.args.query.now.width in
    let triples = quads_in id_order c.args.graph (applied c.args.query.now.changes.now d).quads in
    let none = none_left c.args.patterns.now c.loop-pattern.pattern-index (omega (arith, c.loop-pattern-test.false)) in
    let all = c.loop-pattern.invariant d later told in
    (ap (λ ts. joined_with id_order width c.loop-pattern.found ts triples) (sym none) ∙ all.1, subst (λ ts. TellScans (ts ++ later) c.args.graph c.loop-pattern.left.now d) none all.0)
