-- A pass that answered the reads of a run is for the same duty.
use Rattle.std.proofs.Common.{Bool, List, Some, inl, inr, ap, subst, ◌∙◌}
use Rattle.reads.specs.Reads.{Read}
use Rattle.reads.specs.declared.note.Note.{Note}
use Rattle.reads.specs.declared.source.Stop.{Stop}
use Rattle.reads.specs.Asking.{Asked}
use Rattle.asking.specs.Goes.{Ends, Stops}
use Rattle.asking.proofs.Notes.{asked_all}
use Rattle.shared.specs.Calls.{Viewed}
use Rattle.shared.specs.Duty.{Duty, IsPassFor}
use Rattle.machine_tests.specs.Seeing.{Sees}

still_for : (d : Duty) (p q : Viewed) → IsPassFor d p → Sees p q → IsPassFor d q
still_for d p q h sees = record {
  table = ap (λ (z : Viewed). z.table) sees ∙ h.table;
  subject = ap (λ (z : Viewed). z.subject) sees ∙ h.subject;
  holds = ap (λ (z : Viewed). z.holds) sees ∙ h.holds;
}

pub ran_for : (d : Duty) (notes : List Note) (p q : Viewed) → IsPassFor d p → Asked (λ before r told after. Sees before after) p notes q → IsPassFor d q
ran_for d notes p q h asked =
    (asked_all (λ before r told after. Sees before after) (IsPassFor d) (λ r x. Unit {0}) (λ s s' r x k sees. (still_for d s s' k sees, tt)) notes p q h asked).0

pub stopped_for : (d : Duty) (allowed : Read → Bool) (stop : Stop) (p q : Viewed) → IsPassFor d p → Stops (λ before r told after. Sees before after) allowed p q stop → IsPassFor d q
stopped_for d allowed stop p q h stops =
    let went = stops.1 in
    ended went.last (ran_for d went.more p went.last h went.asked) went.ends
  where
    ended : (b : Viewed) → IsPassFor d b → Ends (λ before r told after. Sees before after) allowed b (Some stop) q → IsPassFor d q
    ended b k (inl (short, same)) = subst (IsPassFor d) same k
    ended b k (inr (r, near, sees)) = still_for d b q k sees
