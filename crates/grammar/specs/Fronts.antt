-- The first steps of a text, and the text that follows them.
use Rattle.std.specs.Borrow.{Bor}
use Rattle.std.specs.Prelude.{ℕ, ◌≡◌, ◌<◌, List, ◌++◌, length, Result, Ok, Err}
use Rattle.lexer.specs.Cut.{Cuts}
use Rattle.lexer.specs.declared.token.Token.{Token}
use Rattle.lexer.specs.declared.stop.Stop.{Stop}
use Rattle.lexer.specs.declared.stop.Stop.TheVariants as stop
use Rattle.syntax_trees.specs.declared.tree.Step.{Step}
use Rattle.grammar.specs.Reads.{ReadsRequest}

-- the text is cut into tokens, and they are read as these steps
pub record ReadsText (text : List ℕ) (steps : List Step) : Type 0 where
  pub tokens : List Token
  pub cut : Cuts text tokens
  pub request : ReadsRequest tokens steps

-- the text is read as these steps and those of rest, and in no other way
pub record IsFront (text : List ℕ) (front : List Step) (rest : List ℕ) : Type 0 where
  pub more : (later : List Step) → ReadsText rest later → ReadsText text (front ++ later)
  pub only : (all : List Step) → ReadsText text all → (later : List Step) × (all ≡ front ++ later) × ReadsText rest later
  pub shorter : 0 < length text → length rest < length text

-- the first steps of a text; or it has no reading; or memory ran out
abbrev pub IsFrontRead : List ℕ → Result (List Step × Bor (List ℕ)) Stop → Type 0
IsFrontRead text (Ok x) = IsFront text x.0 x.1.now
IsFrontRead text (Err stop.NoReading) = (all : List Step) → ReadsText text all → ⊥
IsFrontRead text (Err stop.Memory) = Unit {0}
