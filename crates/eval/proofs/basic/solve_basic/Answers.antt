use Rattle.std.proofs.Common.{[], drop, sym, ap, arith, ◌∙◌}
use Rattle.std.proofs.lemmas.List.{append-nil, take_rest}
use Rattle.asking.proofs.Notes.{goes_short}
use Rattle.eval.proofs.Lots.{lot_told, told_as}
use Rattle.eval.proofs.basic.solve_basic.Goals as goal

pub returns-in_err-found-clause-goes : goal.returns-in_err-found-clause-goes
returns-in_err-found-clause-goes g c allowed h = goes_short _ c.from_residual-in_err-found.ensures.1 (c.in_ok-ask_for.ensures.goes allowed h)

pub returns-clause-solved : goal.returns-clause-solved
returns-clause-solved g c d a =
    let tail = take_rest c.deref.result.now c.len-before.result ∙ ap (drop c.len-before.result) c.deref.ensures.value in
    let told = lot_told c.args.patterns.now c.args.graph c.args.notes.now.items c.ask_for.new.notes.items _ c.len-before.result d c.in_ok-ask_for.ensures.noted (omega (arith, c.len-before.ensures, c.args.notes.now.ok.0)) tail a in
    (c.in_ok-found.ensures d [] (told_as _ _ _ _ d (sym (append-nil c.args.patterns.now)) told)).0
