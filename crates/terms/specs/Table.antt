-- The list of a table's terms.
use Rattle.std.specs.Prelude.{List}
use Rattle.terms.specs.declared.term.Term.{Term}
use Rattle.terms.specs.declared.table.TableForm.{TableForm}
use Rattle.terms.specs.declared.table.TableForm.TheVariants.{Hashed, Listed}
use Rattle.terms.specs.Placed.{AreApart}

abbrev pub listed : TableForm → List Term
listed (Hashed set) = set.keys
listed (Listed list) = list.items

-- a set has each term once, and so has a list
abbrev pub IsApart : TableForm → Type 0
IsApart (Hashed set) = Unit {0}
IsApart (Listed list) = AreApart list.items
