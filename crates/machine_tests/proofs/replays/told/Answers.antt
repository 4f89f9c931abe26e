use Rattle.machine_tests.proofs.replays.told.Goals as goal

pub told_of-told-requires : goal.told_of-told-requires
told_of-told-requires g c = c.requires _ _ c.in_ok-numbered.ensures.requests
