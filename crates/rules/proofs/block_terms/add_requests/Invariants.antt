use Rattle.std.proofs.Common.{◌≡◌, ◌++◌, take}
use Rattle.std.specs.List.{flat_map}
use Rattle.rules.specs.Terms.{terms_of_request}
use Rattle.rules.proofs.block_terms.add_requests.Given as goal

abbrev pub invariant-loop-request : goal.invariant-loop-request
invariant-loop-request l = l.found.items ≡ l.fn.found.items ++ flat_map terms_of_request (take l.request-index l.requests)
