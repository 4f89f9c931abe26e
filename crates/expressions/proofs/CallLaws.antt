-- The functions that words name.
use Rattle.std.proofs.Common.{◌≡◌, ℕ, true, false, cond, List, [], ◌∷◌, map, Some, None, refl, ap, ◌∙◌, subst}
use Rattle.std.specs.Prelude.{codes, bytes_eq}
use Rattle.std.specs.Char.{to_ascii_lowercase}
use Rattle.std.specs.Cmp.Lexicographic.{bytes_decides}
use Rattle.std.proofs.lemmas.Option.{same_Some}
use Rattle.iris.proofs.Options.{bind_some}
use Rattle.lexer.specs.declared.token.Token.{Token}
use Rattle.lexer.specs.declared.token.Token.TheVariants as token
use Rattle.syntax_trees.specs.declared.expression.One.TheVariants as one
use Rattle.syntax_trees.specs.declared.expression.Two.TheVariants as two
use Rattle.productions.specs.Keywords.{is_keyword}
use Rattle.expressions.specs.declared.calls.Called.{Called}
use Rattle.expressions.specs.declared.calls.Called.TheVariants as called
use Rattle.expressions.specs.Calls.{called_name, first_called, all_called, called_of, called_at}

first_found : (cs : List Called) (w : List ℕ) (c : Called) → first_called cs w ≡ Some c → bytes_eq w (map to_ascii_lowercase (called_name c)) ≡ true
first_found [] w c e = absurd cc
first_found (d ∷ cs) w c e =
    elim (bytes_eq w (map to_ascii_lowercase (called_name d))) as (λ b. bytes_eq w (map to_ascii_lowercase (called_name d)) ≡ b → cond b (Some d) (first_called cs w) ≡ Some c → bytes_eq w (map to_ascii_lowercase (called_name c)) ≡ true) [
      | true ↦ λ q e. subst (λ (f : Called). bytes_eq w (map to_ascii_lowercase (called_name f)) ≡ true) (same_Some d c e) q
      | false ↦ λ q e. first_found cs w c e
    ] refl e

pub called_found : (w : List ℕ) (c : Called) → called_of w ≡ Some c → is_keyword w (called_name c) ≡ true
called_found w c e = first_found all_called (map to_ascii_lowercase w) c e

name_again : (c : Called) → called_of (called_name c) ≡ Some c
name_again called.Bound = refl
name_again (called.One one.IsIri) = refl
name_again (called.One one.IsBlank) = refl
name_again (called.One one.IsLiteral) = refl
name_again (called.One one.Str) = refl
name_again (called.One one.Lang) = refl
name_again (called.One one.Datatype) = refl
name_again (called.One one.StrLen) = refl
name_again (called.Two two.SameTerm) = refl
name_again (called.Two two.StrStarts) = refl
name_again (called.Two two.StrEnds) = refl
name_again (called.Two two.Contains) = refl

-- what a word names, its lower case names
same_called : (w k : List ℕ) → is_keyword w k ≡ true → called_of w ≡ called_of k
same_called w k is = ap (first_called all_called) ((bytes_decides (map to_ascii_lowercase w) (map to_ascii_lowercase k)).0 is)

pub called_again : (w : List ℕ) (c : Called) → is_keyword w (called_name c) ≡ true → called_of w ≡ Some c
called_again w c is = same_called w (called_name c) is ∙ name_again c

pub true_is_not_called : (w : List ℕ) → is_keyword w (codes "true") ≡ true → called_of w ≡ None
true_is_not_called w is = same_called w (codes "true") is

pub false_is_not_called : (w : List ℕ) → is_keyword w (codes "false") ≡ true → called_of w ≡ None
false_is_not_called w is = same_called w (codes "false") is

pub record CalledFound (ts : List Token) (x : Called × List Token) : Type 0 where
  pub w : List ℕ
  pub cut : ts ≡ token.Word w ∷ x.1
  pub is : is_keyword w (called_name x.0) ≡ true

pub called_is : (ts : List Token) (x : Called × List Token) → called_at ts ≡ Some x → CalledFound ts x
called_is (token.Word w ∷ ts) x e =
    let c = bind_some (called_of w) (λ c. Some (c, ts)) x e in
    subst (λ (y : Called × List Token). CalledFound (token.Word w ∷ ts) y) (same_Some (c.0, ts) x c.2) (record { w = w; cut = refl; is = called_found w c.0 c.1 })
called_is ts x e = absurd cc
