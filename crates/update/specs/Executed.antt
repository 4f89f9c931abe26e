-- What an execution of a request keeps.
use Rattle.std.specs.Prelude.{◌≡◌, ℕ, List}
use Rattle.datasets.specs.declared.id.Id.{Id}
use Rattle.datasets.specs.Id.{id_order}
use Rattle.dict.specs.Dictionary.{is_known, numbers}
use Rattle.asking.specs.Near.{is_near_request}
use Rattle.meaning.specs.Run.{Request, answer_of}
use Rattle.meaning.specs.declared.reply.Reply.{Reply}
use Rattle.reads.specs.Reads.{View, Delta, IsDataset}
use Rattle.reads.specs.Runs.{Agrees}
use Rattle.delta.specs.Sound.{IsSoundFor}
use Rattle.delta.specs.declared.finished.Finished.{Finished}
use Rattle.reads.specs.declared.note.Note.{Note}
use Rattle.asking.specs.Goes.{AllAllowed}
use Rattle.recount.specs.Counted.{counted_notes}
use Rattle.terms.specs.declared.term.Term.{Term}
use Rattle.update.specs.Asked.{operations_of}
use Rattle.update.specs.Changed.{difference}

-- the terms that are numbered, a request with its place in the block, and its finished run
pub record Executed : Type 0 where
  pub terms : List Term
  pub place : ℕ
  pub request : Request Id
  pub finished : Finished

-- for every dataset that the notes agree with, the change is what the answer changes and nothing
-- else
abbrev pub IsLeastFor : (View → View × Reply) → List Note → Delta → Type 0
IsLeastFor answer notes delta = (d : View) → IsDataset d → Agrees notes d → delta ≡ difference d (answer d).0

-- for every dataset that the notes agree with, the reply is the answer's
abbrev pub IsReplyFor : (View → View × Reply) → List Note → Reply → Type 0
IsReplyFor answer notes reply = (d : View) → IsDataset d → Agrees notes d → reply ≡ (answer d).1

-- the run is sound for its request, its change is the least and its reply the answer's, by what its
-- notes count as, and each of its reads is near the request
pub record IsExecuted (e : Executed) : Type 0 where
  pub sound : IsSoundFor (is_known e.terms) (answer_of (numbers e.terms) e.place e.request) e.finished
  pub least : IsLeastFor (answer_of (numbers e.terms) e.place e.request) (counted_notes (is_known e.terms) e.finished.transcript) e.finished.delta
  pub reply : IsReplyFor (answer_of (numbers e.terms) e.place e.request) (counted_notes (is_known e.terms) e.finished.transcript) e.finished.reply
  pub near : AllAllowed (is_near_request id_order (operations_of e.request)) e.finished.transcript
