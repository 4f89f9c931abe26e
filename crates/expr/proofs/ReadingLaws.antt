-- What terms are read as.
use Rattle.std.proofs.Common.{◌≡◌, Bool, true, false, List, ℕ, refl, sym, ap, ◌∙◌}
use Rattle.std.specs.Prelude.{if◌then◌else◌}
use Rattle.terms.specs.Vocabulary.{xsd_string, xsd_integer, xsd_boolean}
use Rattle.values.specs.Readings.{Reading, Text, Other, is_text, integer_read, boolean_read, typed_read}

abbrev pub typed_by : (string integer boolean : Bool) → List ℕ → Reading
typed_by string integer boolean lexical =
    if string then Text lexical else if integer then integer_read lexical else if boolean then boolean_read lexical else Other

pub typed_told : (lexical datatype : List ℕ) (string integer boolean : Bool) → is_text datatype xsd_string ≡ string → is_text datatype xsd_integer ≡ integer → is_text datatype xsd_boolean ≡ boolean → typed_by string integer boolean lexical ≡ typed_read lexical datatype
typed_told lexical datatype string integer boolean s i b =
    sym (ap (λ x. typed_by x (is_text datatype xsd_integer) (is_text datatype xsd_boolean) lexical) s
    ∙ ap (λ x. typed_by string x (is_text datatype xsd_boolean) lexical) i ∙ ap (λ x. typed_by string integer x lexical) b)
