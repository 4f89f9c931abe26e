-- Each term of a dictionary has one place.
use Rattle.std.proofs.Common.{List}
use Rattle.std.proofs.lemmas.Map.Keys.{IsDistinct-from_sorted}
use Rattle.terms.specs.declared.term.Term.{Term}
use Rattle.terms.specs.Term.{term_order}
use Rattle.terms.specs.Placed.{AreApart}
use Rattle.terms.proofs.PlacedLaws.{apart}
use Rattle.dict.specs.Dictionary.{IsDictionary}

pub dictionary_apart : (terms : List Term) → IsDictionary terms → AreApart terms
dictionary_apart terms dictionary = apart terms (IsDistinct-from_sorted term_order terms dictionary.rises)
