-- From what was read and written to what the engine of `replay` says.
use Rattle.std.proofs.Common.{◌≡◌, ℕ, List, Option, Some, None, Result, Ok, Err, OnErr, IfSome, subst}
use Rattle.std.specs.Prelude.{IsErrOf}
use Rattle.datasets.specs.Dataset.{Dataset}
use Rattle.terms.specs.declared.term.Term.{Term}
use Rattle.meaning.specs.Run.{Request}
use Rattle.command_line.specs.declared.fault.Fault.{Fault}
use Rattle.command_line.specs.declared.fault.Fault.TheVariants as told
use Rattle.command_line.specs.declared.fault.File.TheVariants as file
use Rattle.engines.specs.Inputs.{IsBaseAnswer, IsBlockAnswer}
use Rattle.engines.specs.Journals.{IsFaultOfReplay, IsReplay, IsReplayFault, WroteReplayInPart}
use Rattle.engines.specs.Outputs.{Taken, IsPart}

-- a fault of the journal
journal_fault : (b k j : List ℕ) (d : Dataset Term) (r : List (Request Term)) (f : Fault) → IsBaseAnswer b (Ok d) → IsBlockAnswer k (Ok r) → IsReplayFault d r j f → IsFaultOfReplay b k j f
journal_fault b k j d r (told.BadEntry n) hb hk h = (d, r, (hb, hk), h)
journal_fault b k j d r (told.Illegal n) hb hk h = (d, r, (hb, hk), h)
journal_fault b k j d r told.Memory hb hk h = tt
journal_fault b k j d r (told.Line l) hb hk h = absurd h
journal_fault b k j d r (told.BadLine n) hb hk h = absurd h
journal_fault b k j d r told.BaseTooLong hb hk h = absurd h
journal_fault b k j d r told.BlockTooLong hb hk h = absurd h
journal_fault b k j d r told.TooManyRequests hb hk h = absurd h
journal_fault b k j d r told.BadUtf8 hb hk h = absurd h
journal_fault b k j d r (told.CannotRead f) hb hk h = absurd h
journal_fault b k j d r (told.CannotWrite f) hb hk h = absurd h

pub fault_of_journal : (b k j : Option (List ℕ)) (d : Dataset Term) (r : List (Request Term)) (bytes : List ℕ) (f : Fault)
    → IfSome b (λ t. IsBaseAnswer t (Ok d)) → IfSome k (λ t. IsBlockAnswer t (Ok r)) → IfSome j (λ t. bytes ≡ t) → IsReplayFault d r bytes f
    → IfSome b (λ b. IfSome k (λ k. IfSome j (λ j. IsFaultOfReplay b k j f)))
fault_of_journal None k j d r bytes f hb hk hj h = tt
fault_of_journal (Some b) None j d r bytes f hb hk hj h = tt
fault_of_journal (Some b) (Some k) None d r bytes f hb hk hj h = tt
fault_of_journal (Some b) (Some k) (Some j) d r bytes f hb hk hj h = journal_fault b k j d r f hb hk (subst (λ (x : List ℕ). IsReplayFault d r x f) hj h)

-- a fault of the block
block_fault : (b k j : List ℕ) (d : Dataset Term) (f : Fault) → IsBaseAnswer b (Ok d) → IsBlockAnswer k (Err f) → IsFaultOfReplay b k j f
block_fault b k j d told.BlockTooLong hb hk = ((d, hb), hk)
block_fault b k j d told.TooManyRequests hb hk = ((d, hb), hk)
block_fault b k j d told.BadUtf8 hb hk = ((d, hb), hk)
block_fault b k j d told.Memory hb hk = tt
block_fault b k j d (told.CannotRead file.Block) hb hk = (d, hb)
block_fault b k j d (told.CannotRead file.Base) hb hk = absurd hk
block_fault b k j d (told.CannotRead file.Journal) hb hk = absurd hk
block_fault b k j d (told.CannotRead file.Answer) hb hk = absurd hk
block_fault b k j d (told.Line l) hb hk = absurd hk
block_fault b k j d (told.BadLine n) hb hk = absurd hk
block_fault b k j d told.BaseTooLong hb hk = absurd hk
block_fault b k j d (told.BadEntry n) hb hk = absurd hk
block_fault b k j d (told.Illegal n) hb hk = absurd hk
block_fault b k j d (told.CannotWrite f) hb hk = absurd hk

pub fault_of_block : (b k j : Option (List ℕ)) (d : Dataset Term) (f : Fault)
    → IfSome b (λ t. IsBaseAnswer t (Ok d)) → IfSome k (λ t. IsBlockAnswer t (Err f))
    → IfSome b (λ b. IfSome k (λ k. IfSome j (λ j. IsFaultOfReplay b k j f)))
fault_of_block None k j d f hb hk = tt
fault_of_block (Some b) None j d f hb hk = tt
fault_of_block (Some b) (Some k) None d f hb hk = tt
fault_of_block (Some b) (Some k) (Some j) d f hb hk = block_fault b k j d f hb hk

module _ (b k j : Option (List ℕ)) (d : Dataset Term) (r : List (Request Term)) (bytes dataset replies : List ℕ)
    (hb : IfSome b (λ t. IsBaseAnswer t (Ok d))) (hk : IfSome k (λ t. IsBlockAnswer t (Ok r))) (hj : IfSome j (λ t. bytes ≡ t)) (h : IsReplay d r bytes dataset replies) where
  pub wrote_in_part : {T E : Type 0} (result : Result T E) (e : E) (written told : Taken)
      → OnErr result (IsPart written told dataset replies) → IsErrOf result e
      → IfSome b (λ b. IfSome k (λ k. IfSome j (λ j. WroteReplayInPart b k j written told)))
  wrote_in_part (Ok t) e u w p is = absurd (let no : Ok t ≡ Err e = is in cc)
  wrote_in_part (Err f) e u w p is = go b k j hb hk hj
    where
      go : (b k j : Option (List ℕ)) → IfSome b (λ t. IsBaseAnswer t (Ok d)) → IfSome k (λ t. IsBlockAnswer t (Ok r)) → IfSome j (λ t. bytes ≡ t)
          → IfSome b (λ b. IfSome k (λ k. IfSome j (λ j. WroteReplayInPart b k j u w)))
      go None k j hb hk hj = tt
      go (Some b) None j hb hk hj = tt
      go (Some b) (Some k) None hb hk hj = tt
      go (Some b) (Some k) (Some j) hb hk hj = (d, r, dataset, replies, (hb, hk), subst (λ (y : List ℕ). IsReplay d r y dataset replies) hj h, p)
