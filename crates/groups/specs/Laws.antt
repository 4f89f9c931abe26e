-- The laws of this reading: it gives the group that stands at the front.
use Rattle.std.specs.Prelude.{ℕ, ◌≡◌, ◌<◌, List, length, Some}
use Rattle.lexer.specs.declared.token.Token.{Token}
use Rattle.syntax_trees.specs.Groups.{Part}
use Rattle.productions.specs.Steps.{Reader, Found, Takes, Again}
use Rattle.groups.specs.Reads.{ReadsGroup}
use Rattle.groups.specs.Reading.{item_with, group_at}

abbrev pub GroupsAreFound : Type 0
GroupsAreFound = (n : ℕ) → Found (group_at n) (ReadsGroup n)

abbrev pub GroupsTake : Type 0
GroupsTake = (n : ℕ) → Takes (ReadsGroup n)

abbrev pub GroupsAreReadAgain : Type 0
GroupsAreReadAgain = (n : ℕ) → Again (group_at n) (ReadsGroup n)

-- what is read is a token or more
abbrev pub Shrinks : Reader (List Part) → Type 0
Shrinks item = (ts : List Token) (x : List Part × List Token) → item ts ≡ Some x → length x.1 < length ts

abbrev pub GroupsShrink : Type 0
GroupsShrink = (n : ℕ) → Shrinks (group_at n)

abbrev pub ItemsShrink : Type 0
ItemsShrink = (n : ℕ) → Shrinks (item_with n (group_at n))
