use Rattle.block_machine.proofs.machine.Machine.check_as.Goals as goal

pub check-requires-clause-room : goal.check-requires-clause-room
check-requires-clause-room c = λ h. c.requires.room.slots c.args.i _ h
