-- The tag in the labels of made nodes.
use Rattle.std.specs.Prelude.{ℕ, ◌≡◌, ◌≤◌, ◌||◌, Bool, false, List, ◌++◌, codes, nat_eq}
use Rattle.std.specs.List.{starts_with, list_any}
use Rattle.std.specs.Fmt.{decimal}
use Rattle.datasets.specs.declared.quad.Quad.{Quad}
use Rattle.datasets.specs.Dataset.{Dataset}
use Rattle.terms.specs.declared.term.Term.{Term}
use Rattle.terms.specs.declared.term.Term.TheVariants as term

-- how the label of a made node begins
abbrev pub mark_of : ℕ → List ℕ
mark_of n = codes "m" ++ decimal n ++ codes "r"

-- a blank label that begins so
abbrev pub has_mark : List ℕ → Term → Bool
has_mark mark (term.Iri i) = false
has_mark mark (term.Literal l) = false
has_mark mark (term.Blank b) = starts_with nat_eq b mark
has_mark mark (term.Made r o l s) = false

abbrev pub is_marked : List ℕ → Quad Term → Bool
is_marked mark q = has_mark mark q.subject || has_mark mark q.object

abbrev pub is_taken : List (Quad Term) → ℕ → Bool
is_taken quads n = list_any (is_marked (mark_of n)) quads

-- the least number from 1 with which no blank label of the dataset begins as a made node's does
pub record IsTagOf (d : Dataset Term) (tag : ℕ) : Type 0 where
  pub positive : 1 ≤ tag
  pub free : is_taken d.quads tag ≡ false
  pub least : (n : ℕ) → 1 ≤ n → is_taken d.quads n ≡ false → tag ≤ n
