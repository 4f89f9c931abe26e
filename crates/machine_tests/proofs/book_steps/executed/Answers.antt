use Rattle.std.proofs.Common.{◌∙◌, ℕ, sym, subst}
use Rattle.datasets.specs.declared.id.Id.{Id}
use Rattle.dict.specs.Dictionary.{is_known, numbers}
use Rattle.meaning.specs.Run.{Request, answer_of}
use Rattle.delta.specs.Sound.{IsSoundFor}
use Rattle.reads.specs.Asking.{Asked}
use Rattle.book.specs.Run.{Run}
use Rattle.machine_tests.specs.Seeing.{Follows}
use Rattle.machine_tests.proofs.RunLaws.{sound_there}
use Rattle.machine_tests.proofs.book_steps.executed.Goals as goal

pub returns-in-Ok : goal.returns-in-Ok
returns-in-Ok c r there =
    let e = c.in-Ok.execution in
    let of = c.in-Ok.ensures.request in
    let run = c.into_finished.result in
    let asked = subst (λ (q : Run). Asked (λ before r told after. Follows before after) c.args.book e.finished.transcript q) (sym c.into_book-book.ensures) c.in-Ok.ensures.asked in
    let sound = subst (λ (x : Request Id). IsSoundFor (is_known e.terms) (answer_of (numbers e.terms) e.place x) run) of.2 c.into_finished.ensures.sound in
    let placed = subst (λ (n : ℕ). IsSoundFor (is_known e.terms) (answer_of (numbers e.terms) n c.args.request.now) run) of.1 sound in
    sound_there c.args.book c.into_book-book.result e.finished.transcript c.args.turn.place c.args.request.now e.terms run
    asked (of.0 ∙ c.terms-terms.ensures) c.requires.is placed r there
