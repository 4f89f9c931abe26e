use Rattle.std.proofs.Common.{◌∙◌, ℕ, ap, sym, subst}
use Rattle.std.specs.Prelude.{slice_get}
use Rattle.datasets.specs.declared.id.Id.{Id}
use Rattle.dict.specs.Dictionary.{is_known, numbers}
use Rattle.meaning.specs.Run.{Request, answer_of}
use Rattle.delta.specs.Sound.{IsSoundFor}
use Rattle.steps_again.proofs.RunLaws.{sound_there}
use Rattle.steps_again.proofs.player.Player.execute.Goals as goal

pub reply-requires : goal.reply-requires
reply-requires g c r there =
    let e = c.in-Ok.execution in
    let of = c.in-Ok.ensures.request in
    let run = c.into_finished-run.result in
    let sound = subst (λ (x : Request Id). IsSoundFor (is_known e.terms) (answer_of (numbers e.terms) e.place x) run) of.2 c.into_finished-run.ensures.sound in
    let placed = subst (λ (n : ℕ). IsSoundFor (is_known e.terms) (answer_of (numbers e.terms) n c.in-Some.request.now) run) of.1 sound in
    let is = ap (λ b. slice_get b c.args.place) (c.self.invariant.block ∙ sym c.as_slice.ensures.value) ∙ c.in-Some.ensures.is in
    sound_there (g.M.Makes.run c.self.inside.makes) c.execute.new.source e.finished.transcript c.args.place c.in-Some.request.now e.terms run
    c.in-Ok.ensures.asked (of.0 ∙ c.terms.ensures ∙ sym c.self.invariant.terms) is placed r there
