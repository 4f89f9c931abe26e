-- Variables, names and literals: what is read is in the grammar, and what is in it is read.
use Rattle.std.proofs.Common.{◌≡◌, ℕ, Bool, true, false, cond, List, [], ◌∷◌, Some, None, refl, sym, ap, subst, arith}
use Rattle.std.specs.Prelude.{codes}
use Rattle.std.specs.Option.{option_map_or}
use Rattle.std.proofs.lemmas.Option.{same_Some}
use Rattle.iris.proofs.Options.{bind_some, chosen}
use Rattle.lexer.specs.declared.token.Token.{Token}
use Rattle.lexer.specs.declared.token.Token.TheVariants as token
use Rattle.lexer.specs.declared.token.Sign.TheVariants as signs
use Rattle.syntax_trees.specs.declared.tree.Name.{Name}
use Rattle.syntax_trees.specs.declared.tree.Name.TheVariants as name
use Rattle.syntax_trees.specs.declared.tree.Literal.{Literal}
use Rattle.syntax_trees.specs.declared.tree.Literal.TheVariants as literal
use Rattle.productions.specs.Steps.{Found, Takes, Again}
use Rattle.productions.specs.Signs.{sign_at}
use Rattle.productions.specs.Keywords.{is_keyword}
use Rattle.productions.specs.Names.{ReadsName, iri, prefixed, NoSuffix, ReadsLiteral, plain, tagged, typed, integer, is_true, is_false}
use Rattle.productions.specs.Reading.{variable_at, name_at, tag_at, typed_at, text_at, literal_at}
use Rattle.productions.proofs.SignLaws.{sign_found}
use Rattle.productions.proofs.KeywordLaws.{other_keyword}

pub variable_found : (ts : List Token) (x : List ℕ × List Token) → variable_at ts ≡ Some x → ts ≡ token.Variable x.0 ∷ x.1
variable_found (token.Variable v ∷ ts) x e = ap (λ (y : List ℕ × List Token). token.Variable y.0 ∷ y.1) (same_Some (v, ts) x e)
variable_found ts x e = absurd cc

-- ---- names

pub name_found : Found name_at ReadsName
name_found (token.Iri i ∷ ts) x e = subst (λ (y : Name × List Token). ReadsName (token.Iri i ∷ ts) y.0 y.1) (same_Some (name.Iri i, ts) x e) iri
name_found (token.Name p l ∷ ts) x e = subst (λ (y : Name × List Token). ReadsName (token.Name p l ∷ ts) y.0 y.1) (same_Some (name.Prefixed p l, ts) x e) prefixed
name_found ts x e = absurd cc

pub name_takes : Takes ReadsName
name_takes _ _ _ iri = omega arith
name_takes _ _ _ prefixed = omega arith

pub name_again : Again name_at ReadsName
name_again _ _ _ iri = refl
name_again _ _ _ prefixed = refl

-- ---- literals

tag_found : (ts : List Token) (x : List ℕ × List Token) → tag_at ts ≡ Some x → ts ≡ token.Tag x.0 ∷ x.1
tag_found (token.Tag t ∷ ts) x e = ap (λ (y : List ℕ × List Token). token.Tag y.0 ∷ y.1) (same_Some (t, ts) x e)
tag_found ts x e = absurd cc

no_suffix : (ts : List Token) → tag_at ts ≡ None → sign_at signs.Carets ts ≡ None → NoSuffix ts
no_suffix (token.Tag t ∷ ts) no_tag no_carets = absurd cc
no_suffix (token.Sign signs.Carets ∷ ts) no_tag no_carets = absurd cc
no_suffix ts no_tag no_carets = tt

no_tag_follows : (ts : List Token) → NoSuffix ts → tag_at ts ≡ None
no_tag_follows (token.Tag t ∷ ts) none = absurd none
no_tag_follows ts none = refl

no_carets_follow : (ts : List Token) → NoSuffix ts → sign_at signs.Carets ts ≡ None
no_carets_follow [] none = refl
no_carets_follow (token.Sign signs.Carets ∷ ts) none = absurd none
no_carets_follow ts none = refl

typed_found : (s : List ℕ) (ts : List Token) (x : Literal × List Token) → typed_at s ts ≡ Some x → ReadsLiteral (token.Text s ∷ token.Sign signs.Carets ∷ ts) x.0 x.1
unfolding typed_at
typed_found s ts x e =
    let d = bind_some (name_at ts) (λ d. Some (literal.Typed s d.0, d.1)) x e in
    subst (λ (y : Literal × List Token). ReadsLiteral (token.Text s ∷ token.Sign signs.Carets ∷ ts) y.0 y.1) (same_Some (literal.Typed s d.0.0, d.0.1) x d.2) (typed (name_found ts d.0 d.1))

untagged_found : (s : List ℕ) (ts : List Token) (x : Literal × List Token) → tag_at ts ≡ None → option_map_or (typed_at s) (sign_at signs.Carets ts) (Some (literal.Plain s, ts)) ≡ Some x → ReadsLiteral (token.Text s ∷ ts) x.0 x.1
untagged_found s ts x no_tag e =
    elim (sign_at signs.Carets ts) as (λ o. sign_at signs.Carets ts ≡ o → option_map_or (typed_at s) o (Some (literal.Plain s, ts)) ≡ Some x → ReadsLiteral (token.Text s ∷ ts) x.0 x.1) [
      | None ↦ λ q e. subst (λ (y : Literal × List Token). ReadsLiteral (token.Text s ∷ ts) y.0 y.1) (same_Some (literal.Plain s, ts) x e) (plain (no_suffix ts no_tag q))
      | Some r ↦ λ q e. subst (λ (us : List Token). ReadsLiteral (token.Text s ∷ us) x.0 x.1) (sym (sign_found signs.Carets ts r q)) (typed_found s r x e)
    ] refl e

text_found : (s : List ℕ) (ts : List Token) (x : Literal × List Token) → text_at s ts ≡ Some x → ReadsLiteral (token.Text s ∷ ts) x.0 x.1
unfolding text_at
text_found s ts x e =
    elim (tag_at ts) as (λ o. tag_at ts ≡ o → option_map_or (λ t. Some (literal.Tagged s t.0, t.1)) o (option_map_or (typed_at s) (sign_at signs.Carets ts) (Some (literal.Plain s, ts))) ≡ Some x → ReadsLiteral (token.Text s ∷ ts) x.0 x.1) [
      | None ↦ λ q e. untagged_found s ts x q e
      | Some t ↦ λ q e.
          subst (λ (us : List Token). ReadsLiteral (token.Text s ∷ us) x.0 x.1) (sym (tag_found ts t q))
          (subst (λ (y : Literal × List Token). ReadsLiteral (token.Text s ∷ token.Tag t.0 ∷ t.1) y.0 y.1) (same_Some (literal.Tagged s t.0, t.1) x e) tagged)
    ] refl e

word_found : (w : List ℕ) (ts : List Token) (x : Literal × List Token) (b : Bool) → is_keyword w (codes "true") ≡ b
    → cond b (Some (literal.Boolean true, ts)) (cond (is_keyword w (codes "false")) (Some (literal.Boolean false, ts)) None) ≡ Some x → ReadsLiteral (token.Word w ∷ ts) x.0 x.1
word_found w ts x true k e = subst (λ (y : Literal × List Token). ReadsLiteral (token.Word w ∷ ts) y.0 y.1) (same_Some (literal.Boolean true, ts) x e) (is_true k)
word_found w ts x false k e =
    let g = chosen (is_keyword w (codes "false")) (Some (literal.Boolean false, ts)) x e in
    subst (λ (y : Literal × List Token). ReadsLiteral (token.Word w ∷ ts) y.0 y.1) (same_Some (literal.Boolean false, ts) x g.1) (is_false g.0)

pub literal_found : Found literal_at ReadsLiteral
literal_found (token.Text s ∷ ts) x e = text_found s ts x e
literal_found (token.Integer n ∷ ts) x e = subst (λ (y : Literal × List Token). ReadsLiteral (token.Integer n ∷ ts) y.0 y.1) (same_Some (literal.Integer n, ts) x e) integer
literal_found (token.Word w ∷ ts) x e = word_found w ts x (is_keyword w (codes "true")) refl e
literal_found ts x e = absurd cc

pub literal_takes : Takes ReadsLiteral
literal_takes _ _ _ (plain none) = omega arith
literal_takes _ _ _ tagged = omega arith
literal_takes _ _ _ (typed {s} {ts} {rest} {d} n) = let a = name_takes ts d rest n in omega arith
literal_takes _ _ _ integer = omega arith
literal_takes _ _ _ (is_true k) = omega arith
literal_takes _ _ _ (is_false k) = omega arith

pub literal_again : Again literal_at ReadsLiteral
unfolding text_at typed_at
literal_again _ _ _ (plain {s} {rest} none) = rw (no_tag_follows rest none, no_carets_follow rest none) refl
literal_again _ _ _ tagged = refl
literal_again _ _ _ (typed {s} {ts} {rest} {d} n) = rw (name_again ts d rest n) refl
literal_again _ _ _ integer = refl
literal_again _ _ _ (is_true k) = rw k refl
literal_again _ _ _ (is_false {w} k) = rw (other_keyword w (codes "false") (codes "true") k refl, k) refl
