-- Why a request is refused: the first of the kinds that holds anywhere in it.
use Rattle.std.specs.Prelude.{ℕ, ◌≡◌, ◌<◌, Bool, true, false, List, Option, Some, None, Result, Ok, Err}
use Rattle.terms.specs.declared.term.Term.{Term}
use Rattle.algebra.specs.declared.update.Operation.{Operation}
use Rattle.meaning.specs.declared.reply.Refusal.{Refusal}
use Rattle.meaning.specs.declared.reply.Refusal.TheVariants as refusal
use Rattle.syntax_trees.specs.declared.tree.Syntax.{Syntax}
use Rattle.translation.specs.Translation.{translated}
use Rattle.faults.specs.Faults.{has_fault}
use Rattle.grammar.specs.Reads.{Reads}

-- the order of the kinds
abbrev pub place_of : Refusal → ℕ
place_of refusal.Syntax = 0
place_of refusal.Prefix = 1
place_of refusal.VariableInData = 2
place_of refusal.BlankInDelete = 3
place_of refusal.LabelReused = 4
place_of refusal.Limit = 5

-- the kind holds of the text
pub data Holds : Refusal → List ℕ → Type 0 where
  no_reading : {text : List ℕ} → ((s : Syntax) → Reads text s → ⊥) → Holds refusal.Syntax text
  fault : {k : Refusal} {text : List ℕ} {s : Syntax} → Reads text s → has_fault k s ≡ true → Holds k text

-- the first kind that holds
pub record IsRefusal (text : List ℕ) (k : Refusal) : Type 0 where
  pub holds : Holds k text
  pub first : (j : Refusal) → place_of j < place_of k → Holds j text → ⊥

-- the text has a reading that is refused for nothing, and this is its update
pub record IsAccepted (text : List ℕ) (update : List (Operation Term)) : Type 0 where
  pub syntax : Syntax
  pub reads : Reads text syntax
  pub free : (k : Refusal) → has_fault k syntax ≡ false
  pub is : update ≡ translated syntax.steps

-- the update that a text is, or why it is refused
abbrev pub IsChecked : List ℕ → Result (List (Operation Term)) Refusal → Type 0
IsChecked text (Ok update) = IsAccepted text update
IsChecked text (Err kind) = IsRefusal text kind

-- nothing where the text is an update, or why it is refused
abbrev pub IsJudged : List ℕ → Option Refusal → Type 0
IsJudged text None = (update : List (Operation Term)) × IsAccepted text update
IsJudged text (Some kind) = IsRefusal text kind

-- the first of the kinds that hold, if one does
abbrev pub IsFirst : (Refusal → Bool) → Option Refusal → Type 0
IsFirst holds None = (k : Refusal) → holds k ≡ false
IsFirst holds (Some kind) = (holds kind ≡ true) × ((j : Refusal) → place_of j < place_of kind → holds j ≡ false)

-- what a reading is refused for
abbrev pub IsFirstFault : Syntax → Option Refusal → Type 0
IsFirstFault s kind = IsFirst (λ k. has_fault k s) kind

-- the update that a reading is, or why it is refused
abbrev pub IsVerdict : Syntax → Result (List (Operation Term)) Refusal → Type 0
IsVerdict s (Ok update) = ((k : Refusal) → has_fault k s ≡ false) × (update ≡ translated s.steps)
IsVerdict s (Err kind) = (has_fault kind s ≡ true) × ((j : Refusal) → place_of j < place_of kind → has_fault j s ≡ false)
