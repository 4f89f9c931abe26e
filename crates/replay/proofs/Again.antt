-- What notes that answer a run again say of it.
use Rattle.std.proofs.Common.{◌≡◌, Bool, List, [], ◌∷◌, ◌++◌, Some, inl, inr, ap, ◌∙◌, subst}
use Rattle.datasets.specs.declared.id.Id.{Id}
use Rattle.datasets.specs.Id.{id_order}
use Rattle.asking.specs.Goes.{AllAllowed, Ends, Stops}
use Rattle.asking.specs.Near.{is_near_request}
use Rattle.meaning.specs.Run.{Request}
use Rattle.reads.specs.Reads.{Read}
use Rattle.reads.specs.Asking.{Asked}
use Rattle.reads.specs.declared.note.Note.{Note}
use Rattle.reads.specs.declared.source.Stop.{Stop}
use Rattle.reads.specs.declared.source.Stop.TheVariants.{Stale}
use Rattle.update.specs.Asked.{operations_of}
use Rattle.replay.specs.Noted.{Answerer, AsksNext, AsksForOther, BeginsWith}

-- what was answered are the first notes
answered : (a a' : Answerer) (notes : List Note) → Asked AsksNext a notes a' → a.left ≡ notes ++ a'.left
answered a a' [] asked = ap (λ (b : Answerer). b.left) asked
answered a a' (n ∷ ns) (next, asks, asked) = asks.0 ∙ ap (λ (ms : List Note). n ∷ ms) (answered next a' ns asked)

pub first_notes : (a a' : Answerer) (notes : List Note) → Asked AsksNext a notes a' → BeginsWith a.left notes
first_notes a a' notes asked = (a'.left, answered a a' notes asked)

module _ (request : Request Id) where
  abbrev near : Read → Bool
  near = is_near_request id_order (operations_of request)

  other_ends : (a a' last : Answerer) (more : List Note) → Asked AsksNext a more last → AllAllowed near more → Ends AsksNext near last (Some Stale) a' → AsksForOther request a.left
  other_ends a a' last more asked all (inl (short, same)) = absurd (cc)
  other_ends a a' last more asked all (inr (r, allowed, asks)) = record {
    answered = more;
    left = last.left;
    are = answered a last more asked;
    near = all;
    read = r;
    near_too = allowed;
    other = asks.0;
  }

  -- a run that was out of date
  pub asks_other : (a a' : Answerer) (stop : Stop) → stop ≡ Stale → Stops AsksNext near a a' stop → AsksForOther request a.left
  asks_other a a' stop is stops =
      let went = (subst (Stops AsksNext near a a') is stops).1 in
      other_ends a a' went.last went.more went.asked went.near went.ends
