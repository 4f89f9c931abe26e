-- The hints of a seat may go to another thread.
use denote.Param.Send.{IsSend, sendable}
use Rattle.scheduler.specs.contracts.hints.Hints as Hints
use Rattle.scheduler.proofs.hints.Hints.TheSendSync as of_hints

pub hints : IsSend Hints.the_row
hints = let h = of_hints.the_field_send in search sendable depth 20
