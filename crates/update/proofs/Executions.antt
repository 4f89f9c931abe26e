-- What is told of a request makes an execution of it.
use Rattle.std.proofs.Common.{ℕ, List, ap, ◌∙◌}
use Rattle.datasets.specs.declared.id.Id.{Id}
use Rattle.datasets.specs.Id.{id_order, id_total, id_exact}
use Rattle.dict.specs.Dictionary.{is_known, numbers}
use Rattle.terms.specs.declared.term.Term.{Term}
use Rattle.asking.specs.Near.{is_near_request}
use Rattle.meaning.specs.Run.{Request, answer_of}
use Rattle.meaning.specs.declared.reply.Reply.{Reply}
use Rattle.meaning_laws.specs.Answers.{IsExactOrder}
use Rattle.meaning_laws.proofs.Answers.{answers_with_datasets}
use Rattle.reads.specs.Reads.{Delta, applied}
use Rattle.delta.specs.Sound.{IsSoundFor}
use Rattle.reads.specs.declared.note.Note.{Note}
use Rattle.asking.specs.Goes.{AllAllowed}
use Rattle.update.specs.Asked.{operations_of}
use Rattle.recount.specs.Counted.{counted_notes}
use Rattle.recount.proofs.CountedLaws.{agrees_counted}
use Rattle.update.specs.Executed.{IsExecuted, IsLeastFor, IsReplyFor}
use Rattle.update.proofs.Differences.{difference_leads}

-- the order of numbers is exact
exact : (terms : List Term) → IsExactOrder (numbers terms)
exact terms = record { total = id_total; exact = id_exact }

pub executed : (terms : List Term) (place : ℕ) (request : Request Id) (notes : List Note) (delta : Delta) (reply : Reply)
    → IsLeastFor (answer_of (numbers terms) place request) (counted_notes (is_known terms) notes) delta
    → IsReplyFor (answer_of (numbers terms) place request) (counted_notes (is_known terms) notes) reply
    → AllAllowed (is_near_request id_order (operations_of request)) notes
    → IsExecuted (record { terms = terms; place = place; request = request; finished = record { transcript = notes; delta = delta; reply = reply } })
unfolding IsSoundFor
executed terms place request notes delta reply least replied near = record {
  sound = λ d h a.
      let counted = agrees_counted (is_known terms) d h.set h.known notes a in
      (ap (λ (z : Delta). applied z d) (least d h.set counted) ∙ difference_leads d (answer_of (numbers terms) place request d).0 (answers_with_datasets (numbers terms) place request d (exact terms) h.set), replied d h.set counted);
  least = least;
  reply = replied;
  near = near;
}
