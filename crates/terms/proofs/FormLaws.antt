-- What tags and literals are, as code tests it.
use Rattle.std.specs.Prelude.{ℕ, Bool, ◌&&◌, ◌||◌, not, nat_eq, Option, IsSome, String, IsUtf8}
use Rattle.std.specs.declared.alloc.Global.{Global}
use Rattle.std.proofs.Common.{◌≡◌, true, false, cond, eqb, List, [], ◌∷◌, Some, None, refl, sym, ap, ◌∙◌, subst}
use Rattle.std.proofs.lemmas.Bool.{eqb-true, and_parts, false≢true}
use Rattle.std.proofs.lemmas.Str.{IsUtf8-string_bytes}
use Rattle.std.specs.Option.{option_map_or}
use Rattle.std.specs.Cmp.Lexicographic.{pointwise, same_text, other_text}
use Rattle.std.proofs.lemmas.Option.{same_Some}
use Rattle.std.proofs.Math.Bool.{or-false}
use Rattle.iris.specs.Iri.{is_digit, IsIri}
use Rattle.iris.specs.Forms.{InTag, start, first, dash, later, is_small_letter, is_tag_from, is_tag}
use Rattle.terms.specs.Literal.{LiteralValue, IsLiteral}
use Rattle.terms.specs.Vocabulary.{lang_string}
use Rattle.terms.specs.Parts.{parts_value, tag_bytes, is_tagged_alike}
use Rattle.terms.specs.Tag.{next_place, is_last}

-- ---- tags

-- a byte that passes a test that `-` doesn't pass
no_dash : (p : ℕ → Bool) (b : ℕ) → p 45 ≡ false → p b ≡ true → eqb b 45 ≡ false
no_dash p b not_dash passes = elim (eqb b 45) as (λ t. eqb b 45 ≡ t → t ≡ false) [ true ↦ λ e. absurd (let f : p 45 ≡ true = subst (λ y. p y ≡ true) (eqb-true b 45 e) passes in cc) | false ↦ λ e. refl ] refl

either : (p : ℕ → Bool) (b : ℕ) (x y : Bool) → p 45 ≡ false → p b ≡ true → (x || (eqb b 45 && y)) ≡ x
either p b x y not_dash passes = rw (no_dash p b not_dash passes) (or-false x)

in_part : (p : ℕ → Bool) (at next : InTag) (b : ℕ) (bs : List ℕ) → p 45 ≡ false
    → ((p b && is_tag_from next bs) || (eqb b 45 && is_tag_from dash bs)) ≡ option_map_or (λ t. is_tag_from t bs) (cond (p b) (Some next) (cond (eqb b 45) (Some dash) None)) false
in_part p at next b bs not_dash =
    elim (p b) as (λ t. p b ≡ t → ((t && is_tag_from next bs) || (eqb b 45 && is_tag_from dash bs)) ≡ option_map_or (λ t. is_tag_from t bs) (cond t (Some next) (cond (eqb b 45) (Some dash) None)) false) [
      | true ↦ λ e. either p b (is_tag_from next bs) (is_tag_from dash bs) not_dash e
      | false ↦ λ e. elim (eqb b 45) as (λ d. (d && is_tag_from dash bs) ≡ option_map_or (λ t. is_tag_from t bs) (cond d (Some dash) None) false) [ true ↦ refl | false ↦ refl ]
    ] refl

after_part : (p : Bool) (next : InTag) (bs : List ℕ) → (p && is_tag_from next bs) ≡ option_map_or (λ t. is_tag_from t bs) (cond p (Some next) None) false
after_part true next bs = refl
after_part false next bs = refl

-- a tag goes on from where it is after a byte
pub tag_step : (at : InTag) (b : ℕ) (bs : List ℕ) → is_tag_from at (b ∷ bs) ≡ option_map_or (λ t. is_tag_from t bs) (next_place at b) false
tag_step start b bs = after_part (is_small_letter b) first bs
tag_step first b bs = in_part is_small_letter first first b bs refl
tag_step dash b bs = after_part (is_small_letter b || is_digit b) later bs
tag_step later b bs = in_part (λ b. is_small_letter b || is_digit b) later later b bs refl

pub tag_end : (at : InTag) → is_tag_from at [] ≡ is_last at
tag_end start = refl
tag_end first = refl
tag_end dash = refl
tag_end later = refl

pub tag_goes_on : (at next : InTag) (b : ℕ) (bs : List ℕ) → next_place at b ≡ Some next → is_tag_from at (b ∷ bs) ≡ is_tag_from next bs
tag_goes_on at next b bs e = tag_step at b bs ∙ ap (λ o. option_map_or (λ t. is_tag_from t bs) o false) e

pub tag_stops : (at : InTag) (b : ℕ) (bs : List ℕ) → next_place at b ≡ None → is_tag_from at (b ∷ bs) ≡ false
tag_stops at b bs e = tag_step at b bs ∙ ap (λ o. option_map_or (λ t. is_tag_from t bs) o false) e

pub ruleset tag_steps = (tag_goes_on, tag_stops, tag_end)

-- ---- literals

other : (d : List ℕ) → not (pointwise nat_eq d lang_string) ≡ true → pointwise nat_eq d lang_string ≡ false
other d = elim (pointwise nat_eq d lang_string) as (λ b. not b ≡ true → b ≡ false) [ true ↦ λ h. absurd (false≢true h) | false ↦ λ h. refl ]

same : (d : List ℕ) → d ≡ lang_string → pointwise nat_eq d lang_string ≡ true
same d e = elim (pointwise nat_eq d lang_string) as (λ b. pointwise nat_eq d lang_string ≡ b → b ≡ true) [ true ↦ λ h. refl | false ↦ λ h. absurd (other_text d lang_string (sym h) e) ] refl

fits_then : (l : LiteralValue) (t : Option (List ℕ)) → l.tag ≡ t → IsUtf8 l.lexical → IsIri l.datatype → is_tagged_alike l.datatype t ≡ true → IsLiteral l
fits_then l None e text iri fits =
    record {
      lexical = text;
      datatype = iri;
      tag = rw e (λ t none. absurd cc);
      tagged = rw e ((λ none. absurd cc), λ same. absurd (other_text l.datatype lang_string (sym (other l.datatype fits)) same));
    }
fits_then l (Some tag) e text iri fits =
    let h = and_parts (pointwise nat_eq l.datatype lang_string) (is_tag tag) fits in
    record {
      lexical = text;
      datatype = iri;
      tag = rw e (λ t same. subst (λ t. is_tag t ≡ true) (same_Some tag t same) h.1);
      tagged = rw e ((λ some. same_text l.datatype lang_string (sym h.0)), λ same. refl);
    }

pub IsLiteral-of : (lexical : String Global) (datatype : List ℕ) (tag : Option (String Global)) → IsIri datatype → is_tagged_alike datatype (tag_bytes tag) ≡ true → IsLiteral (parts_value lexical datatype tag)
IsLiteral-of lexical datatype tag iri fits = fits_then (parts_value lexical datatype tag) (tag_bytes tag) refl (IsUtf8-string_bytes lexical) iri fits

fits_again : (l : LiteralValue) (t : Option (List ℕ)) → l.tag ≡ t → IsLiteral l → is_tagged_alike l.datatype t ≡ true
fits_again l None e is = elim (pointwise nat_eq l.datatype lang_string) as (λ b. pointwise nat_eq l.datatype lang_string ≡ b → not b ≡ true) [
  | true ↦ λ h. absurd (let f : IsSome l.tag = is.tagged.1 (same_text l.datatype lang_string (sym h)) in false≢true (ap (λ o. Rattle.std.specs.Option.is_some o) (sym e) ∙ f))
  | false ↦ λ h. refl
] refl
fits_again l (Some tag) e is = rw (same l.datatype (is.tagged.0 (rw e refl)), is.tag tag e) refl

pub no_literal : (lexical : String Global) (datatype : List ℕ) (tag : Option (String Global)) → is_tagged_alike datatype (tag_bytes tag) ≡ false → IsLiteral (parts_value lexical datatype tag) → ⊥
no_literal lexical datatype tag e is = false≢true (sym e ∙ fits_again (parts_value lexical datatype tag) (tag_bytes tag) refl is)

pub ruleset literals = (IsLiteral-of, no_literal)
