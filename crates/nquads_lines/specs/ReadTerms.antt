-- Reading the terms of a statement from left to right.
use Rattle.std.specs.Prelude.{ℕ, ◌==◌, nat_eq, Bool, false, List, [], ◌∷◌, map, Option, Some, None, if◌then◌else◌}
use Rattle.std.specs.Char.{to_ascii_lowercase}
use Rattle.std.specs.Option.{option_map_or}
use Rattle.std.specs.Cmp.Lexicographic.{pointwise}
use Rattle.iris.specs.Runs.{run_of, rest_of}
use Rattle.iris.specs.Forms.{is_tag, is_label_byte, is_label}
use Rattle.iris.specs.Bracketed.{◌>>=◌}
use Rattle.terms.specs.Vocabulary.{xsd_string, lang_string}
use Rattle.terms.specs.declared.term.Term.{Term}
use Rattle.terms.specs.declared.term.Term.TheVariants as term
use Rattle.nquads_lines.specs.Forms.{is_tag_byte, literal}
use Rattle.nquads_lines.specs.Undone.{after, quoted_at, iri_at}
use Rattle.nquads_lines.specs.declared.escapes.Quote.TheVariants.{String}

abbrev pub label_of : List ℕ → Option (List ℕ)
label_of label = if is_label label then Some label else None

unfoldable pub blank_at : List ℕ → Option (List ℕ × List ℕ)
blank_at text = do
  t ← after 95 text
  t ← after 58 t
  label ← label_of (run_of is_label_byte t)
  Some (label, rest_of is_label_byte t)

-- a string with this tag
abbrev pub tagged : List ℕ → List ℕ → Option Term
tagged l tag = if is_tag tag then Some (literal l lang_string (Some tag)) else None

-- a string with this datatype
abbrev pub typed : List ℕ → List ℕ → Option Term
typed l d = if pointwise nat_eq d lang_string then None else Some (literal l d None)

-- the literal of a string, by what follows it
abbrev pub with_tag : List ℕ → List ℕ → Option (Term × List ℕ)
with_tag l text = do
  x ← tagged l (map to_ascii_lowercase (run_of is_tag_byte text))
  Some (x, rest_of is_tag_byte text)

abbrev pub with_type : List ℕ → List ℕ → Option (Term × List ℕ)
with_type l text = do
  t ← after 94 text
  d ← iri_at t
  x ← typed l d.0
  Some (x, d.1)

unfoldable pub suffix_at : List ℕ → List ℕ → Option (Term × List ℕ)
suffix_at l text = option_map_or (with_tag l) (after 64 text) (option_map_or (with_type l) (after 94 text) (Some (literal l xsd_string None, text)))

unfoldable pub literal_at : List ℕ → Option (Term × List ℕ)
literal_at text = do
  t ← after 34 text
  s ← quoted_at String t
  suffix_at s.0 s.1

abbrev pub begins_with : ℕ → List ℕ → Bool
begins_with c [] = false
begins_with c (b ∷ bs) = b == c

unfoldable pub subject_at : List ℕ → Option (Term × List ℕ)
subject_at text =
    if begins_with 60 text then (iri_at text >>= λ i. Some (term.Iri i.0, i.1))
    else (blank_at text >>= λ b. Some (term.Blank b.0, b.1))

unfoldable pub object_at : List ℕ → Option (Term × List ℕ)
object_at text = if begins_with 34 text then literal_at text else subject_at text
