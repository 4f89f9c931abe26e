use Rattle.std.proofs.Common.{◌≡◌, ◌≤◌, length, IfOk, arith, subst}
use Rattle.reads.specs.Reads.{View}
use Rattle.block_machine.specs.Serial.{FrontIsSerial}
use Rattle.book.specs.Run.{Run, setting, front_run}
use Rattle.book.proofs.Replay.{said_of_book, front_view}
use Rattle.book.proofs.book.Book.front_dataset.Goals as goal

pub front_view-requires : goal.front_view-requires
unfolding setting
front_view-requires c =
    let front = said_of_book _ _ _ c.self.invariant (λ m history s. s.front ≤ m.size) c.front_is_within.ensures.front in
    let slots = said_of_book _ _ _ c.self.invariant (λ m history s. length s.slots ≡ m.size) c.front_is_within.ensures.slots in
    omega (arith, front, slots)

pub returns : goal.returns
unfolding setting
returns c =
    let serial = said_of_book _ _ _ c.self.invariant (λ m history s. FrontIsSerial m s) c.front_is_serial.ensures in
    let front = said_of_book _ _ _ c.self.invariant (λ m history s. s.front ≤ m.size) c.front_is_within.ensures.front in
    let is = front_view _ _ c.self.inside.machine c.self.invariant serial front in
    subst (λ (run : Run). IfOk c.front_view.result (λ d. d ≡ (front_run run).0)) c.self.view_is
    (subst (λ (v : View). IfOk c.front_view.result (λ d. d ≡ v)) is c.front_view.ensures)
