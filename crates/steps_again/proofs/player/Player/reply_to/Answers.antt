use Rattle.std.proofs.Common.{ap, ◌∙◌}
use Rattle.book.specs.Run.{Run}
use Rattle.steps_again.proofs.SoundLaws.{still_sound}
use Rattle.steps_again.proofs.player.Player.reply_to.Goals as goal

pub make-requires-2 : goal.make-requires-2
make-requires-2 g c =
    still_sound c.args.self.now (g.M.Makes.run c.make.new.self) c.args.event.now
    (ap (λ (z : Run). z.terms) c.make.ensures ∙ ap (λ (z : Run). z.terms) c.self.view_is)
    (ap (λ (z : Run). z.block) c.make.ensures ∙ ap (λ (z : Run). z.block) c.self.view_is) c.requires
