-- What is known of a long text once its steps were seen.
use Rattle.std.specs.Borrow.{Bor}
use Rattle.std.specs.Prelude.{ℕ, ◌≡◌, List, ◌++◌, Some, None, Result, Ok, Err}
use Rattle.lexer.specs.declared.stop.Stop.{Stop}
use Rattle.lexer.specs.declared.stop.Stop.TheVariants as stop
use Rattle.syntax_trees.specs.declared.tree.Step.{Step}
use Rattle.syntax_trees.specs.declared.tree.Syntax.{Syntax}
use Rattle.grammar.specs.Reads.{IsParsed}
use Rattle.grammar.specs.Fronts.{ReadsText, IsFront}
use Rattle.faults.specs.declared.kinds.Kinds.{Kinds}
use Rattle.faults.specs.declared.walk.Walk.{Walk}
use Rattle.faults.specs.Kinds.{AreKindsIn}
use Rattle.faults.specs.Walk.{kinds_with}

-- a walk went over the first steps of a text; or it has no reading; or memory ran out
abbrev pub IsFrontSeen : List ℕ → Walk → Walk → Result (Bor (List ℕ)) Stop → Type 0
IsFrontSeen text before after (Ok rest) = (front : List Step) × IsFront text front rest.now × ((later : List Step) → kinds_with after later ≡ kinds_with before (front ++ later))
IsFrontSeen text before after (Err stop.NoReading) = (all : List Step) → ReadsText text all → ⊥
IsFrontSeen text before after (Err stop.Memory) = Unit {0}

-- what the text's reading is refused for; or it has none; or memory ran out
abbrev pub IsSeen : List ℕ → Result Kinds Stop → Type 0
IsSeen text (Ok kinds) = (s : Syntax) × IsParsed text (Some s) × AreKindsIn s kinds
IsSeen text (Err stop.NoReading) = IsParsed text None
IsSeen text (Err stop.Memory) = Unit {0}
