use Rattle.std.proofs.Common.{◌∙◌, subst}
use Rattle.blocklock.specs.Passes.{Takes}
use Rattle.shared.specs.Calls.{Viewed, owner, history_of}
use Rattle.shared.proofs.shared_block.SharedBlock.hold.Goals as goal

pub returns : goal.returns
returns g c = (
  c.hold.ensures.0 ∙ c.self.view_is,
  subst (λ (p : Viewed). Takes owner p (history_of c.hold.result.book.value.book) c.hold.new.pass) c.pass.view_is c.hold.ensures.1,
)
