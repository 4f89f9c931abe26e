-- What the program writes.
use Rattle.std.specs.Prelude.{◌≡◌, ◌⊎◌, ℕ, List, length, ◌≤◌, Option, Ok, IfSome, take}
use Rattle.std.specs.Io.KnownBytes.{Appends, Keeps}
use Rattle.datasets.specs.Dataset.{Dataset}
use Rattle.terms.specs.declared.term.Term.{Term}
use Rattle.datasets.specs.declared.id.Id.{Id}
use Rattle.dict.specs.Dictionary.{written, numbers}
use Rattle.meaning.specs.Run.{Request, run, run_of_first}
use Rattle.meaning.specs.declared.reply.Reply.{Reply}
use Rattle.canonical_nquads.specs.Canonical.{canonical}
use Rattle.canonical_nquads.specs.Tag.{IsTagOf}
use Rattle.command_line.specs.Replies.{reply_lines}
use Rattle.engines.specs.Inputs.{IsBaseAnswer, IsBlockAnswer}

-- the answer to a dataset and a block: the canonical text of the dataset after the sequential run,
-- with the tag of the dataset before it, and the reply lines
pub record IsAnswerTo (before : Dataset Term) (requests : List (Request Term)) (dataset replies : List ℕ) : Type 0 where
  pub tag : ℕ
  pub tagged : IsTagOf before tag
  pub dataset_is : dataset ≡ canonical (run written requests before).0 tag
  pub replies_are : replies ≡ reply_lines (run written requests before).1

-- the output for the bytes of a base and of a block: the answer to the dataset that the base spells
-- and the block's requests
pub record IsOutput (base block dataset replies : List ℕ) : Type 0 where
  pub before : Dataset Term
  pub requests : List (Request Term)
  pub base_is : IsBaseAnswer base (Ok before)
  pub block_is : IsBlockAnswer block (Ok requests)
  pub answer : IsAnswerTo before requests dataset replies

-- what a writer has taken before a call and after it, where that is known
pub record Taken : Type 0 where
  pub before : Option (List ℕ)
  pub after : Option (List ℕ)

-- the same, by what a writer has taken
abbrev pub taken : {W : Type 0} → (W → Option (List ℕ)) → W → W → Taken
taken contents old new = record { before = contents old; after = contents new }

-- the writer took a text
abbrev pub Grew : Taken → List ℕ → Type 0
Grew writer text = Appends writer.before writer.after text

-- the writer took a beginning of a text
abbrev pub GrewInPart : Taken → List ℕ → Type 0
GrewInPart writer text = (n : ℕ) × Appends writer.before writer.after (take n text)

-- one of two writers failed: of the first text a beginning was written and of the second nothing,
-- or the first is whole and of the second a beginning was written
abbrev pub IsPart : (first second : Taken) → (text later : List ℕ) → Type 0
IsPart first second text later =
    (GrewInPart first text × Keeps second.before second.after) ⊎ (Grew first text × GrewInPart second later)

-- what holds where a writer isn't as it was
abbrev pub IfTouched : {W : Type 0} → (old new : W) → Type 0 → Type 0
IfTouched old new P = (new ≡ old) ⊎ P

-- what is said of a base and a block where what is left to read of both is known
abbrev pub IfBoth : Option (List ℕ) → Option (List ℕ) → (List ℕ → List ℕ → Type 0) → Type 0
IfBoth base block P = IfSome base (λ b. IfSome block (λ k. P b k))

-- both writers have the output of a base and a block
abbrev pub Wrote : (base block : List ℕ) → (written told : Taken) → Type 0
Wrote base block written told =
    (dataset replies : List ℕ) × IsOutput base block dataset replies × Grew written dataset × Grew told replies

-- the writers have the output up to where one of them failed
abbrev pub WroteInPart : (base block : List ℕ) → (written told : Taken) → Type 0
WroteInPart base block written told =
    (dataset replies : List ℕ) × IsOutput base block dataset replies × IsPart written told dataset replies

-- at numbers of terms, the dataset and the replies of the sequential run of the whole block
abbrev pub IsWhole : List Term → Dataset Id → List (Request Id) → Dataset Id → List Reply → Type 0
IsWhole terms base block dataset replies = (n : ℕ) × (length block ≤ n) × ((dataset, replies) ≡ run_of_first (numbers terms) n block base)
