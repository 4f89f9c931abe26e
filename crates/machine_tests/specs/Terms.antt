-- Whose terms a dictionary has.
use Rattle.std.specs.Prelude.{◌≡◌, true, List}
use Rattle.std.specs.List.{list_all}
use Rattle.terms.specs.declared.term.Term.{Term}
use Rattle.datasets.specs.declared.id.Id.{Id}
use Rattle.dict.specs.Dictionary.{is_known}
use Rattle.meaning.specs.Run.{Request}
use Rattle.meaning_laws.specs.Renaming.{request_known}
use Rattle.reads.specs.Reads.{View}
use Rattle.numbering.specs.declared.numbered.Numbered.{Numbered}
use Rattle.book.specs.Run.{HasAllTerms}

-- the dictionary of a base has all terms of it and of the block
abbrev pub KnowsAll : Numbered → Type 0
KnowsAll n = HasAllTerms n.base.terms n.base.dataset n.block.items

-- every dictionary has the terms of the base
abbrev pub IsKnownToAll : View → Type 0
IsKnownToAll base =
    (terms : List Term) (block : List (Request Id)) → list_all (request_known (is_known terms)) block ≡ true → HasAllTerms terms base block
