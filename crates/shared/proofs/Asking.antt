-- A pass that answers the reads of a run.
use Rattle.std.proofs.Common.{◌≡◌, Result, inl, inr}
use Rattle.reads.specs.Reads.{Read, Answer}
use Rattle.reads.specs.declared.source.Stop.{Stop}
use Rattle.shared.specs.Asks.{Asker, Asks}

-- asking changes of the pass only what it has seen
pub asks_sees : (a a' : Asker) (r : Read) (told : Result Answer Stop) → Asks a r told a' → a'.pass ≡ record a.pass { seen = a'.pass.seen }
asks_sees a a' r told (same, inl (reply, answers, is)) = answers.sees
asks_sees a a' r told (same, inr (is, unmade)) = unmade.watches.sees
