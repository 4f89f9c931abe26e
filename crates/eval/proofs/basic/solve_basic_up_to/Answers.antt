use Rattle.std.specs.Prelude.{[], map, filter}
use Rattle.std.proofs.Common.{List, drop, ap, arith, ◌∙◌}
use Rattle.std.proofs.lemmas.List.{take_rest}
use Rattle.algebra.specs.Expressions.{expression_of}
use Rattle.datasets.specs.Dataset.{quads_in}
use Rattle.datasets.specs.declared.id.Id.{Id}
use Rattle.datasets.specs.Id.{id_order}
use Rattle.meaning.specs.Mapping.{Mapping}
use Rattle.meaning.specs.Solutions.{passes_all}
use Rattle.reads.specs.Reads.{applied}
use Rattle.solution.specs.Limits.{up_to}
use Rattle.asking.proofs.Notes.{goes_short}
use Rattle.eval.proofs.Lasts.{basic_ends, ends}
use Rattle.eval.proofs.Lots.{lot_told, told_as}
use Rattle.eval.proofs.basic.solve_basic_up_to.Goals as goal

pub returns-in_err-joined-clause-goes : goal.returns-in_err-joined-clause-goes
returns-in_err-joined-clause-goes g c allowed h = goes_short _ c.from_residual-in_err-joined.ensures.1 (c.in_ok-ask_for.ensures.goes allowed h)

pub returns-in_err-next-clause-goes : goal.returns-in_err-next-clause-goes
returns-in_err-next-clause-goes g c allowed h = goes_short _ c.from_residual-in_err-next.ensures.1 (c.in_ok-ask_for.ensures.goes allowed h)

pub returns-in_err-found-clause-goes : goal.returns-in_err-found-clause-goes
returns-in_err-found-clause-goes g c allowed h = goes_short _ c.from_residual-in_err-found.ensures.1 (c.in_ok-ask_for.ensures.goes allowed h)

pub returns-clause-solved : goal.returns-clause-solved
returns-clause-solved g c d a =
    let triples = quads_in id_order c.args.graph (applied c.args.query.now.changes.now d).quads in
    let tail = take_rest c.deref.result.now c.len-before.result ∙ ap (drop c.len-before.result) c.deref.ensures.value in
    let told = lot_told c.args.patterns.now c.args.graph c.args.notes.now.items c.ask_for.new.notes.items _ c.len-before.result d c.in_ok-ask_for.ensures.noted (omega (arith, c.len-before.ensures, c.args.notes.now.ok.0)) tail a in
    let first = c.in_ok-joined.ensures d _ (told_as _ _ _ _ d (ends c.args.patterns.now _ c.in-len1-up.len_at_least) told) in
    let last = c.in_ok-next.ensures d [] first.1 in
    c.in_ok-found.ensures
    ∙ ap (λ (xs : List (Mapping Id)). up_to c.args.limit (filter (passes_all (g.F.Filters.passes c.args.query.now.filters.now) (map expression_of c.args.filters.now)) xs))
    (basic_ends c.args.query.now.width c.args.patterns.now _ triples c.in_ok-joined.joined c.in_ok-next.next c.in-len1-up.len_at_least first.0 last.0)
