-- How a run stops whose reads a pass answers.
use Rattle.std.specs.Prelude.{◌≢◌, ℕ}
use Rattle.datasets.specs.declared.id.Id.{Id}
use Rattle.datasets.specs.Id.{id_order}
use Rattle.meaning.specs.Run.{Request}
use Rattle.reads.specs.declared.source.Stop.{Stop}
use Rattle.reads.specs.declared.source.Stop.TheVariants.{Memory}
use Rattle.asking.specs.Goes.{Stops}
use Rattle.asking.specs.Near.{is_near_request}
use Rattle.update.specs.Asked.{operations_of}
use Rattle.shared.specs.Calls.{Viewed}
use Rattle.shared.specs.Asks.{Asks}

-- this incarnation of the request at this place stopped so
abbrev pub HasStopped : Request Id → ℕ → ℕ → Viewed → Viewed → Stop → Type 0
HasStopped request i n old new stop =
    Stops Asks (is_near_request id_order (operations_of request)) (record { pass = old; place = i; incarnation = n }) (record { pass = new; place = i; incarnation = n }) stop

-- it stopped since a read was not answered
pub record IsUnanswered (request : Request Id) (i n : ℕ) (old new : Viewed) : Type 0 where
  pub stop : Stop
  pub other : stop ≢ Memory
  pub stopped : HasStopped request i n old new stop
