-- What an operation with templates asks for: its pattern first, and then nothing that was asked for
-- before.
use Rattle.std.specs.Prelude.{◌≡◌, ◌≤◌, nat_lt, length, Bool, false, List, [], ◌∷◌, ◌++◌, Option, Some, None}
use Rattle.std.specs.List.{list_any}
use Rattle.std.specs.Option.{option_map}
use Rattle.datasets.specs.declared.id.Id.{Id}
use Rattle.datasets.specs.Id.{id_order}
use Rattle.meaning.specs.Mapping.{Mapping}
use Rattle.meaning.specs.Solutions.{solutions}
use Rattle.meaning.specs.Vocabulary.{Vocabulary}
use Rattle.algebra.specs.declared.template.Slot.TheVariants as slot
use Rattle.algebra.specs.declared.update.Modify.{Modify}
use Rattle.asking.specs.Near.{is_for_plan}
use Rattle.asking.specs.Goes.{AllAllowed}
use Rattle.reads.specs.Reads.{View, Delta, Read, applied}
use Rattle.reads.specs.Runs.{Agrees}
use Rattle.reads.specs.Same.{read_eq}
use Rattle.reads.specs.declared.note.Note.{Note}

-- whether one of the notes is of this read
abbrev pub is_noted : List Note → Read → Bool
is_noted notes r = list_any (λ n. read_eq n.read r) notes

-- each of some notes, which follow on others, is of a read that no note before it is of
abbrev pub AreNew : List Note → List Note → Type 0
AreNew notes [] = Unit {0}
AreNew notes (n ∷ more) = (is_noted notes n.read ≡ false) × AreNew (notes ++ n ∷ []) more

-- notes go on by such notes
abbrev pub AddsNew : List Note → List Note → Type 0
AddsNew notes notes' = (more : List Note) × (notes' ≡ notes ++ more) × AreNew notes more

-- whether there are very many solutions
abbrev pub is_many : Option (List (Mapping Id)) → Bool
is_many None = false
is_many (Some found) = nat_lt 100000 (length found)

-- the pattern has no more than 100,000 solutions in a dataset that agrees with the notes, as these
-- changes leave it
abbrev pub HasFew : Vocabulary Id → Modify Id → Delta → List Note → Type 0
HasFew V m c notes = (d : View) × Agrees notes d × (length (solutions id_order V.passes m.width m.pattern (applied c d) m.active) ≤ 100000)

-- Notes go on by those of reads for the operation's pattern, and then by others, each of a read
-- that no note before it is of; by none, where the pattern has few solutions.
pub record AsksOnce (V : Vocabulary Id) (m : Modify Id) (c : Delta) (notes notes' : List Note) : Type 0 where
  pub pattern : List Note
  pub others : List Note
  pub noted : notes' ≡ (notes ++ pattern) ++ others
  pub near : AllAllowed (is_for_plan id_order (option_map slot.Term m.active) m.pattern) pattern
  pub new : AreNew (notes ++ pattern) others
  pub few : HasFew V m c notes' → others ≡ []
