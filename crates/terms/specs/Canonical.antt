-- The one text of a term (RDF 1.1 N-Quads, section 4, canonical form, with labels for made nodes).
use Rattle.std.specs.Prelude.{ℕ, ◌==◌, List, [], ◌∷◌, ◌++◌, Option, Some, None, codes, nat_eq, if◌then◌else◌}
use Rattle.std.specs.List.{flat_map}
use Rattle.std.specs.Cmp.Lexicographic.{pointwise}
use Rattle.std.specs.Fmt.{decimal}
use Rattle.terms.specs.Literal.{LiteralValue}
use Rattle.terms.specs.Vocabulary.{xsd_string}
use Rattle.terms.specs.declared.term.Term.{Term}
use Rattle.terms.specs.declared.term.Term.TheVariants.{Iri, Literal, Blank, Made}

-- `"`, `\`, LF and CR alone are escaped
abbrev pub escape : ℕ → List ℕ
escape b = if b == 34 then 92 ∷ 34 ∷ [] else if b == 92 then 92 ∷ 92 ∷ [] else if b == 10 then 92 ∷ 110 ∷ [] else if b == 13 then 92 ∷ 114 ∷ [] else b ∷ []

abbrev pub iri_text : List ℕ → List ℕ
iri_text i = (60 ∷ i) ++ 62 ∷ []

-- a language tag, or the datatype, where xsd:string is not written
abbrev pub suffix : List ℕ → Option (List ℕ) → List ℕ
suffix d None = if pointwise nat_eq d xsd_string then [] else 94 ∷ 94 ∷ iri_text d
suffix d (Some t) = 64 ∷ t

abbrev pub made_label : ℕ → ℕ → ℕ → ℕ → ℕ → List ℕ
made_label tag r o l s = codes "m" ++ decimal tag ++ codes "r" ++ decimal r ++ codes "o" ++ decimal o ++ codes "l" ++ decimal l ++ codes "s" ++ decimal s

abbrev pub literal_text : LiteralValue → List ℕ
literal_text l = (34 ∷ flat_map escape l.lexical) ++ 34 ∷ suffix l.datatype l.tag

abbrev pub term_text : ℕ → Term → List ℕ
term_text tag (Iri i) = iri_text i
term_text tag (Literal l) = literal_text l
term_text tag (Blank b) = codes "_:" ++ b
term_text tag (Made r o l s) = codes "_:" ++ made_label tag r o l s
