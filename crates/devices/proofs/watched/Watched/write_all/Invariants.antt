use Rattle.std.proofs.Common.{◌≡◌, length, false}
use Rattle.devices.proofs.WrittenLaws.{IsWritten}
use Rattle.devices.proofs.watched.Watched.write_all.Given as goal

abbrev pub invariant-loop-rest : goal.invariant-loop-rest
invariant-loop-rest g l =
    let contents = g.W.Write.contents in
    record {
      written : IsWritten (contents l.fn.self.inner) (contents l.self.inner) l.text l.rest;
      count : l.self.failures ≡ l.fn.self.failures;
      flushed : l.self.is_flushed ≡ false;
    }

abbrev pub decreases-loop-rest : goal.decreases-loop-rest
decreases-loop-rest g l = length l.rest
