use Rattle.std.proofs.Common.{◌≡◌, ◌≤◌, ◌∙◌, ap, length, arith}
use Rattle.std.proofs.lemmas.Result.{IfOk-weaker}
use Rattle.block_machine.specs.Serial.{FrontIsSerial}
use Rattle.book.specs.Run.{Run, setting, front_run}
use Rattle.book.proofs.Replay.{said_of_book, front_view}
use Rattle.book.proofs.book.Book.into_outcome.Goals as goal

pub ended-requires : goal.ended-requires
unfolding setting
ended-requires g c =
    let front = said_of_book _ _ _ c.self.invariant (λ m history s. s.front ≤ m.size) c.front_is_within.ensures.front in
    let slots = said_of_book _ _ _ c.self.invariant (λ m history s. length s.slots ≡ m.size) c.front_is_within.ensures.slots in
    (c.type_bounds.sync-T, omega (arith, front, slots))

pub returns-in-Ok : goal.returns-in-Ok
unfolding setting
returns-in-Ok g c =
    let serial = said_of_book _ _ _ c.self.invariant (λ m history s. FrontIsSerial m s) c.front_is_serial.ensures in
    let front = said_of_book _ _ _ c.self.invariant (λ m history s. s.front ≤ m.size) c.front_is_within.ensures.front in
    let is = front_view _ _ c.self.inside.machine c.self.invariant serial front in
    IfOk-weaker c.ended.result _ _
    (λ outcome e t. ((e.0 ∙ is ∙ ap (λ (run : Run). (front_run run).0) c.self.view_is) t, (e.1 ∙ c.in-Ok.ensures) t))
    c.ended.ensures
