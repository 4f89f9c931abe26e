use Rattle.std.proofs.Common.{◌≡◌, ◌≤◌, List, length, IfOk, arith, subst}
use Rattle.meaning.specs.declared.reply.Reply.{Reply}
use Rattle.block_machine.specs.Serial.{FrontIsSerial}
use Rattle.book.specs.Run.{Run, setting, front_run}
use Rattle.book.proofs.Replay.{said_of_book, front_replies}
use Rattle.book.proofs.book.Book.committed_replies.Goals as goal

pub front_replies-requires : goal.front_replies-requires
unfolding setting
front_replies-requires c =
    let front = said_of_book _ _ _ c.self.invariant (λ m history s. s.front ≤ m.size) c.front_is_within.ensures.front in
    let slots = said_of_book _ _ _ c.self.invariant (λ m history s. length s.slots ≡ m.size) c.front_is_within.ensures.slots in
    omega (arith, front, slots)

pub returns : goal.returns
unfolding setting
returns c =
    let serial = said_of_book _ _ _ c.self.invariant (λ m history s. FrontIsSerial m s) c.front_is_serial.ensures in
    let front = said_of_book _ _ _ c.self.invariant (λ m history s. s.front ≤ m.size) c.front_is_within.ensures.front in
    let is = front_replies _ _ c.self.inside.machine c.self.invariant serial front in
    subst (λ (run : Run). IfOk c.front_replies.result (λ d. d.items ≡ (front_run run).1)) c.self.view_is
    (subst (λ (v : List Reply). IfOk c.front_replies.result (λ d. d.items ≡ v)) is c.front_replies.ensures)
