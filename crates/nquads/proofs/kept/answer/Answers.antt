use Rattle.std.proofs.Common.{refl, subst}
use Rattle.nquads.specs.Portions.{IsReadText}
use Rattle.nquads.proofs.PortionLaws.{moved_behind}
use Rattle.nquads.proofs.KeptLaws.{all_answered, all_stopped}
use Rattle.nquads.proofs.kept.answer.Goals as goal

pub returns-in-Err-clause-answer : goal.returns-in-Err-clause-answer
returns-in-Err-clause-answer c = λ limit bytes is few.
    all_stopped limit bytes c.args.kept c.in-Err.fault
    (moved_behind c.args.kept.read.ends c.args.kept.read.ends c.as_slice.result.now c.args.kept.rest.items c.in-Err.fault refl c.as_slice.ensures.value c.in-Err.ensures.err) is few

pub returns-clause-answer : goal.returns-clause-answer
returns-clause-answer c = λ limit bytes is few.
    all_answered c.lines_are_read.ensures c.lists_unite.ensures limit bytes c.args.kept c.in-Ok.last c.unite.new.self
    (subst (λ t. IsReadText t c.in-Ok.last) c.as_slice.ensures.value c.in-Ok.ensures.ok) c.in_ok-unite.ensures.ok is few
