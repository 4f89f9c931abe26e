-- The terms of a statement (RDF 1.1 N-Quads, productions 3 to 7, with the labels and IRIs of this
-- profile). `XAt text x rest`: x stands at the front of the text, and rest follows.
use Rattle.std.specs.Prelude.{ℕ, ◌≡◌, ◌≢◌, ◌==◌, ◌||◌, Bool, true, List, ◌∷◌, ◌++◌, map, Option, Some, None}
use Rattle.std.specs.Char.{to_ascii_lowercase}
use Rattle.iris.specs.Iri.{is_letter, is_digit}
use Rattle.iris.specs.Runs.{Stops}
use Rattle.iris.specs.Forms.{is_tag, is_label_byte, is_label}
use Rattle.terms.specs.Vocabulary.{xsd_string, lang_string}
use Rattle.terms.specs.declared.term.Term.{Term}
use Rattle.terms.specs.declared.term.Term.TheVariants as term
use Rattle.nquads_lines.specs.Escapes.{StringAt, IriAt}

-- a letter, a digit or `-`
abbrev pub is_tag_byte : ℕ → Bool
is_tag_byte b = is_letter b || is_digit b || (b == 45)

-- the longest label
pub data BlankAt : List ℕ → List ℕ → List ℕ → Type 0 where
  blank : {label rest : List ℕ} → is_label label ≡ true → Stops is_label_byte rest → BlankAt (95 ∷ 58 ∷ (label ++ rest)) label rest

abbrev pub literal : List ℕ → List ℕ → Option (List ℕ) → Term
literal l d t = term.Literal (record { lexical = l; datatype = d; tag = t })

-- `@` and `^`
abbrev pub begins_suffix : ℕ → Bool
begins_suffix b = (b == 64) || (b == 94)

-- a string alone, with a datatype, or with a language tag, which is put in lower case.
-- rdf:langString isn't written.
pub data LiteralAt : List ℕ → Term → List ℕ → Type 0 where
  simple : {text l rest : List ℕ} → StringAt text l rest → Stops begins_suffix rest → LiteralAt (34 ∷ text) (literal l xsd_string None) rest
  typed : {text l after d rest : List ℕ} → StringAt text l (94 ∷ 94 ∷ after) → IriAt after d rest → d ≢ lang_string → LiteralAt (34 ∷ text) (literal l d None) rest
  tagged : (tag : List ℕ) {text l rest : List ℕ} → StringAt text l (64 ∷ (tag ++ rest)) → is_tag (map to_ascii_lowercase tag) ≡ true → Stops is_tag_byte rest
      → LiteralAt (34 ∷ text) (literal l lang_string (Some (map to_ascii_lowercase tag))) rest

pub data SubjectAt : List ℕ → Term → List ℕ → Type 0 where
  iri : {text i rest : List ℕ} → IriAt text i rest → SubjectAt text (term.Iri i) rest
  blank : {text b rest : List ℕ} → BlankAt text b rest → SubjectAt text (term.Blank b) rest

pub data ObjectAt : List ℕ → Term → List ℕ → Type 0 where
  subject : {text rest : List ℕ} {x : Term} → SubjectAt text x rest → ObjectAt text x rest
  value : {text rest : List ℕ} {x : Term} → LiteralAt text x rest → ObjectAt text x rest
