-- From what was read and written to what the engine of a run with a journal says.
use Rattle.std.proofs.Common.{◌≡◌, ℕ, List, Option, Some, None, Result, Ok, Err, OnErr, IfSome, subst}
use Rattle.std.specs.Prelude.{OnOk, IsErrOf}
use Rattle.datasets.specs.Dataset.{Dataset}
use Rattle.terms.specs.declared.term.Term.{Term}
use Rattle.meaning.specs.Run.{Request}
use Rattle.engines.specs.Inputs.{IsBaseAnswer, IsBlockAnswer}
use Rattle.engines.specs.Outputs.{Taken, Grew, GrewInPart, IfBoth}
use Rattle.cli.specs.Journals.{IsRecord, WroteJournal, WroteJournalInPart}

module _ (b k : Option (List ℕ)) (d : Dataset Term) (r : List (Request Term)) (dataset replies journal text : List ℕ)
    (hb : IfSome b (λ t. IsBaseAnswer t (Ok d))) (hk : IfSome k (λ t. IsBlockAnswer t (Ok r))) (h : IsRecord d r dataset replies journal) (same : text ≡ journal)
    (u v w : Taken) (grew_dataset : Grew u dataset) (grew_replies : Grew v replies) where
  pub wrote : {T E : Type 0} (result : Result T E) → OnOk result (Grew w text) → OnOk result (IfBoth b k (λ b k. WroteJournal b k u v w))
  wrote (Err e) p = tt
  wrote (Ok t) p = go b k hb hk
    where
      go : (b k : Option (List ℕ)) → IfSome b (λ t. IsBaseAnswer t (Ok d)) → IfSome k (λ t. IsBlockAnswer t (Ok r)) → IfBoth b k (λ b k. WroteJournal b k u v w)
      go None k hb hk = tt
      go (Some b) None hb hk = tt
      go (Some b) (Some k) hb hk = (d, r, dataset, replies, journal, (hb, hk), h, grew_dataset, grew_replies, subst (λ (y : List ℕ). Grew w y) same p)

  pub wrote_in_part : {T E : Type 0} (result : Result T E) (e : E) → OnErr result (GrewInPart w text) → IsErrOf result e → IfBoth b k (λ b k. WroteJournalInPart b k u v w)
  wrote_in_part (Ok t) e p is = absurd (let no : Ok t ≡ Err e = is in cc)
  wrote_in_part (Err f) e p is = go b k hb hk
    where
      go : (b k : Option (List ℕ)) → IfSome b (λ t. IsBaseAnswer t (Ok d)) → IfSome k (λ t. IsBlockAnswer t (Ok r)) → IfBoth b k (λ b k. WroteJournalInPart b k u v w)
      go None k hb hk = tt
      go (Some b) None hb hk = tt
      go (Some b) (Some k) hb hk = (d, r, dataset, replies, journal, (hb, hk), h, grew_dataset, grew_replies, subst (λ (y : List ℕ). GrewInPart w y) same p)
