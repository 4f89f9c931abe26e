-- The beginning of a label up to its first `r`, in which the label of a made node has its tag.
use Rattle.std.specs.Prelude.{ℕ, ◌+◌, ◌==◌, ◌||◌, not, Bool, false, List, take}
use Rattle.std.specs.List.{prefix_len}
use Rattle.std.specs.Ordering.{eq_by_cmp}
use Rattle.datasets.specs.declared.quad.Quad.{Quad}
use Rattle.terms.specs.Term.{text_cmp}
use Rattle.terms.specs.declared.term.Term.{Term}
use Rattle.terms.specs.declared.term.Term.TheVariants as term

abbrev pub is_not_r : ℕ → Bool
is_not_r b = not (b == 114)

abbrev pub beginning : List ℕ → List ℕ
beginning label = take (prefix_len is_not_r label + 1) label

-- a blank node whose label has this beginning
abbrev pub begins_as : List ℕ → Term → Bool
begins_as text (term.Iri i) = false
begins_as text (term.Literal l) = false
begins_as text (term.Blank b) = eq_by_cmp text_cmp text (beginning b)
begins_as text (term.Made r o l s) = false

abbrev pub is_begun_in : List ℕ → Quad Term → Bool
is_begun_in text q = begins_as text q.subject || begins_as text q.object
