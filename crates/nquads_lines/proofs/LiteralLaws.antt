-- A string with a tag that is none is no literal.
use Rattle.std.specs.Prelude.{ℕ, String, string_bytes}
use Rattle.std.specs.declared.alloc.Global.{Global}
use Rattle.std.proofs.Common.{◌≡◌, true, false, cond, List, Some, None, refl, sym, ◌∙◌, subst}
use Rattle.std.proofs.lemmas.Str.{IsUtf8-string_bytes}
use Rattle.std.proofs.lemmas.Option.{same_Some}
use Rattle.iris.specs.Iri.{IsIri}
use Rattle.iris.specs.Forms.{is_tag}
use Rattle.terms.specs.Literal.{IsLiteral}
use Rattle.terms.specs.Vocabulary.{lang_string}
use Rattle.terms.specs.Parts.{parts_value}
use Rattle.nquads_lines.specs.Forms.{literal}
use Rattle.nquads_lines.specs.ReadTerms.{tagged}

pub none_tagged : (lexical : String Global) (datatype : List ℕ) (lower : String Global) (tag : List ℕ) → (IsLiteral (parts_value lexical datatype (Some lower)) → ⊥)
    → datatype ≡ lang_string → IsIri lang_string → string_bytes lower ≡ tag → tagged (string_bytes lexical) tag ≡ None
none_tagged lexical datatype lower tag none d iri same =
    elim (is_tag tag) as (λ b. is_tag tag ≡ b → cond b (Some (literal (string_bytes lexical) lang_string (Some tag))) None ≡ None) [
      | true ↦ λ h. absurd (none (record {
        lexical = IsUtf8-string_bytes lexical;
        datatype = subst IsIri (sym d) iri;
        tag = λ x e. subst (λ t. is_tag t ≡ true) (sym same ∙ same_Some (string_bytes lower) x e) h;
        tagged = (λ some. d, λ of. refl);
      }))
      | false ↦ λ h. refl
    ] refl
