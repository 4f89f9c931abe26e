-- Steps of a request: what is read is in the grammar, and what is in it is read.
use Rattle.std.proofs.Common.{◌≡◌, ℕ, ◌<◌, true, List, [], ◌∷◌, length, Some, None, refl, sym, ap, ◌∙◌, subst, arith, ◌⊎◌, inl, inr}
use Rattle.std.specs.Prelude.{codes}
use Rattle.std.specs.Option.{option_map_or}
use Rattle.std.proofs.lemmas.Option.{same_Some}
use Rattle.iris.specs.Bracketed.{◌>>=◌}
use Rattle.iris.proofs.Options.{bind_some}
use Rattle.lexer.specs.declared.token.Token.{Token}
use Rattle.lexer.specs.declared.token.Token.TheVariants as token
use Rattle.lexer.specs.declared.token.Sign.TheVariants as signs
use Rattle.syntax_trees.specs.declared.tree.Operation.{Operation}
use Rattle.syntax_trees.specs.declared.tree.Step.{Step}
use Rattle.syntax_trees.specs.declared.tree.Step.TheVariants as step
use Rattle.productions.specs.Steps.{Found}
use Rattle.productions.specs.Keywords.{keyword_at, ReadsKeyword}
use Rattle.productions.proofs.KeywordLaws.{keyword_again, keyword_takes}
use Rattle.grammar.specs.Reads.{ReadsOperation}
use Rattle.grammar.specs.Reading.{operation_at, namespace_at, reference_at, declared_at, ended_at, done_at, step_at}
use Rattle.grammar.proofs.Words.{moved, by_word}
use Rattle.grammar.specs.Below.{Below}
use Rattle.grammar.proofs.OperationLaws.{operation_found, operation_again, operation_takes, no_prefix}

-- a declaration, or an operation and what ends it
pub data StepAt : List Token → Step → List Token → Type 0 where
  declares : {ts rest : List Token} {p i : List ℕ} → ReadsKeyword (codes "PREFIX") ts (token.Name p [] ∷ token.Iri i ∷ rest) → StepAt ts (step.Declare p i) rest
  ends : {ts : List Token} {x : Operation} → ReadsOperation ts x [] → StepAt ts (step.Do x) []
  goes_on : {ts rest : List Token} {x : Operation} → ReadsOperation ts x (token.Sign signs.Semicolon ∷ rest) → StepAt ts (step.Do x) rest

namespace_found : (ts : List Token) (x : List ℕ × List Token) → namespace_at ts ≡ Some x → ts ≡ token.Name x.0 [] ∷ x.1
namespace_found (token.Name p [] ∷ ts) x e = ap (λ (y : List ℕ × List Token). token.Name y.0 [] ∷ y.1) (same_Some (p, ts) x e)
namespace_found ts x e = absurd cc

reference_found : (ts : List Token) (x : List ℕ × List Token) → reference_at ts ≡ Some x → ts ≡ token.Iri x.0 ∷ x.1
reference_found (token.Iri i ∷ ts) x e = ap (λ (y : List ℕ × List Token). token.Iri y.0 ∷ y.1) (same_Some (i, ts) x e)
reference_found ts x e = absurd cc

declared_found : (ts r : List Token) (x : Step × List Token) → ReadsKeyword (codes "PREFIX") ts r → declared_at r ≡ Some x → StepAt ts x.0 x.1
unfolding declared_at
declared_found ts r x word e =
    let p = bind_some (namespace_at r) (λ p. reference_at p.1 >>= λ i. Some (step.Declare p.0 i.0, i.1)) x e in
    let i = bind_some (reference_at p.0.1) (λ i. Some (step.Declare p.0.0 i.0, i.1)) x p.2 in
    let cut : r ≡ token.Name p.0.0 [] ∷ token.Iri i.0.0 ∷ i.0.1 = namespace_found r p.0 p.1 ∙ ap (λ (us : List Token). token.Name p.0.0 [] ∷ us) (reference_found p.0.1 i.0 i.1) in
    moved StepAt ts (step.Declare p.0.0 i.0.0, i.0.1) x i.2 (declares (subst (λ (us : List Token). ReadsKeyword (codes "PREFIX") ts us) cut word))

ended_found : (ts rest : List Token) → ended_at ts ≡ Some rest → ((ts ≡ []) × (rest ≡ [])) ⊎ (ts ≡ token.Sign signs.Semicolon ∷ rest)
ended_found [] rest e = inl (refl, sym (same_Some [] rest e))
ended_found (token.Sign signs.Semicolon ∷ ts) rest e = inr (ap (λ (r : List Token). token.Sign signs.Semicolon ∷ r) (same_Some ts rest e))
ended_found ts rest e = absurd cc

module _ (below : Below) where
  done_found : Found done_at StepAt
  unfolding done_at
  done_found ts x e =
      let o = bind_some (operation_at ts) (λ o. ended_at o.1 >>= λ r. Some (step.Do o.0, r)) x e in
      let r = bind_some (ended_at o.0.1) (λ r. Some (step.Do o.0.0, r)) x o.2 in
      let is = operation_found below ts o.0 o.1 in
      moved StepAt ts (step.Do o.0.0, r.0) x r.2
      (elim (ended_found o.0.1 r.0 r.1) [
        | inl h ↦ subst (λ (r : List Token). StepAt ts (step.Do o.0.0) r) (sym h.1) (ends (subst (λ (r : List Token). ReadsOperation ts o.0.0 r) h.0 is))
        | inr h ↦ goes_on (subst (λ (r : List Token). ReadsOperation ts o.0.0 r) h is)
      ])

  pub step_found : Found step_at StepAt
  unfolding step_at
  step_found ts x e = by_word StepAt (codes "PREFIX") ts declared_at _ x e (λ r word e. declared_found ts r x word e) (λ e. done_found ts x e)

  pub step_again : {ts rest : List Token} {s : Step} → StepAt ts s rest → step_at ts ≡ Some (s, rest)
  unfolding step_at done_at declared_at
  step_again (declares word) = rw (keyword_again word) refl
  step_again (ends {ts} {x} is) = rw (no_prefix is, operation_again below ts x [] is) refl
  step_again (goes_on {ts} {rest} {x} is) = rw (no_prefix is, operation_again below ts x (token.Sign signs.Semicolon ∷ rest) is) refl

  pub step_shorter : {ts rest : List Token} {s : Step} → StepAt ts s rest → length rest < length ts
  step_shorter (declares word) = let taken = keyword_takes word in omega arith
  step_shorter (ends {ts} {x} is) = operation_takes below ts x [] is
  step_shorter (goes_on {ts} {rest} {x} is) = let taken = operation_takes below ts x (token.Sign signs.Semicolon ∷ rest) is in omega arith
