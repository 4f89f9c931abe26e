use Rattle.std.proofs.Common.{◌≡◌, take}
use Rattle.std.specs.List.{fold}
use Rattle.numbering.specs.Wanted.{none_wanted, with_request}
use Rattle.numbering.proofs.orders.wanted_by.Given as goal

abbrev pub invariant-loop-request : goal.invariant-loop-request
invariant-loop-request l = l.wanted ≡ fold with_request none_wanted (take l.request-index l.requests)
