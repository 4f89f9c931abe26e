use Rattle.std.proofs.Common.{◌≡◌, ◌∙◌, ap, subst, IfOk}
use Rattle.reads.specs.Reads.{View}
use Rattle.block_machine.specs.Scans.{questions_of}
use Rattle.shared.specs.Calls.{Viewed}
use Rattle.shared.proofs.pass.Pass.scans.Goals as goal

pub returns : goal.returns
returns c =
    subst (λ (b : View). IfOk c.scans_of.result (λ scans. scans.items ≡ questions_of b c.args.event.now)) (c.self.invariant ∙ ap (λ (p : Viewed). p.subject.base) c.self.view_is) c.scans_of.ensures.scans
