use Rattle.std.proofs.Common.{◌≡◌, None, ◌<◌, ◌^◌, length, drop}
use Rattle.datasets.specs.Id.{id_order}
use Rattle.dict.specs.Dictionary.{numbers}
use Rattle.asking.specs.Near.{is_near_request}
use Rattle.meaning.specs.Run.{performed}
use Rattle.reads.specs.Reads.{View, IsDataset, applied}
use Rattle.reads.specs.Runs.{Agrees}
use Rattle.asking.specs.Goes.{Goes}
use Rattle.update.specs.Asked.{IsWithin}
use Rattle.update.specs.Known.{or_told}
use Rattle.update.proofs.operations.perform.Given as goal

-- what is left to do, where the changes so far lead, comes to what all operations come to
abbrev pub invariant-loop-operation : goal.invariant-loop-operation
invariant-loop-operation g l = record {
  counted : l.op ≡ l.operation-index;
  short : length l.operations < 2 ^ 32;
  goes : Goes g.S.Source.asks (is_near_request id_order l.operations) l.fn.source l.source l.fn.notes.items l.notes.items None;
  effect : (d : View) → IsDataset d → Agrees l.notes.items d →
      performed (numbers l.dict) l.place l.op (drop l.operation-index l.operations) (applied l.changes d) ≡ performed (numbers l.dict) l.place 0 l.operations d;
  within : IsWithin (or_told (is_near_request id_order l.operations) l.notes.items) l.changes;
}
