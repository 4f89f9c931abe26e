-- What operations come to, as the code tells of it.
use Rattle.std.specs.Prelude.{Result, Ok, Err}
use Rattle.meaning.specs.Run.{Failure}
use Rattle.reads.specs.Reads.{View, Delta, applied}
use Rattle.update.specs.declared.operations.Failed.{Failed}

-- the dataset after the change, or the failing operation
abbrev pub performed_so : View → Result Delta Failed → Result View Failure
performed_so d (Ok c) = Ok (applied c d)
performed_so d (Err f) = Err (record { operation = f.operation; cause = f.cause })
