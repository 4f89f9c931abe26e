-- IRIs of names that are kept once they are made.
use Rattle.std.specs.Prelude.{ℕ, ◌≡◌, List, Some, IfSome}
use Rattle.std.specs.BTreeMap.{BTreeMap, get}
use Rattle.std.specs.Ordering.{ordering_then}
use Rattle.std.specs.declared.cmp.Ordering.{Ordering}
use Rattle.terms.specs.Term.{text_cmp}
use Rattle.syntax_trees.specs.declared.tree.Name.TheVariants as name
use Rattle.names.specs.Names.{Prefixes, iri_of}

-- each is kept by its own text
abbrev pub AreThemselves : BTreeMap (List ℕ) (List ℕ) → Type 0
AreThemselves made = (text : List ℕ) → IfSome (get text_cmp made text) (λ iri. iri ≡ text)

-- by prefix, then by local part
abbrev pub name_cmp : List ℕ × List ℕ → List ℕ × List ℕ → Ordering
name_cmp a b = ordering_then (text_cmp a.0 b.0) (text_cmp a.1 b.1)

-- each is kept by the prefix and the local part of a name, and is that name's
abbrev pub AreOfNames : Prefixes → BTreeMap (List ℕ × List ℕ) (List ℕ) → Type 0
AreOfNames ds made = (n : List ℕ × List ℕ) → IfSome (get name_cmp made n) (λ iri. iri_of ds (name.Prefixed n.0 n.1) ≡ Some iri)
