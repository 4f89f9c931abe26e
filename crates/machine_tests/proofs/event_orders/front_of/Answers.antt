use Rattle.std.proofs.Common.{◌∙◌, ap, take}
use Rattle.std.specs.List.{list_all}
use Rattle.store.proofs.Both.{both_all}
use Rattle.machine_tests.proofs.event_orders.front_of.Goals as goal

pub run-requires-clause-block : goal.run-requires-clause-block
run-requires-clause-block c = ap (list_all _) (ap (take c.args.count) c.as_slice-block.ensures.value) ∙ (both_all _ c.args.count _ c.requires.requests).0
