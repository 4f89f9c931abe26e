-- Values at numbers of terms, and chains of operators.
use Rattle.std.proofs.Common.{◌≡◌, ℕ, Bool, List, [], ◌∷◌, map, length, get_or, drop, ◌+◌, ◌<◌, refl, sym, ap, ◌∙◌}
use Rattle.std.proofs.lemmas.List.{at_drop_more}
use Rattle.std.specs.Prelude.{Option, Some, None, is_some}
use Rattle.std.specs.Option.{option_map}
use Rattle.std.specs.Global.{Box, Vec}
use Rattle.std.proofs.Math.ListN.{get_or-map}
use Rattle.std.proofs.lemmas.Simd.{map-map}
use Rattle.terms.specs.declared.term.Term.{Term}
use Rattle.datasets.specs.declared.id.Id.{Id}
use Rattle.algebra.specs.declared.expression.TwoOperator.{TwoOperator}
use Rattle.algebra.specs.declared.expression.Expression.{Expression as Kept, fold-roll-Expression}
use Rattle.algebra.specs.declared.expression.Expression.TheOpen.{Expression-F}
use Rattle.algebra.specs.declared.expression.Expression.TheVariants as kept
use Rattle.algebra.specs.declared.expression.Expression.TheVariants.{rolls-Variable, rolls-Bound, rolls-Chain}
use Rattle.algebra.specs.Expressions.{Expression, Variable, Bound, Two, expression_of, expression_step, chained}
use Rattle.meaning.specs.Mapping.{Mapping, term_for}
use Rattle.meaning_laws.specs.Renaming.{renamed_expression, renamed_mapping}
use Rattle.values.specs.Values.{value_of, two_value, truth}
use Rattle.dict.specs.Dictionary.{term_of}

is_some-option_map : {A B : Type 0} (f : A → B) (o : Option A) → is_some (option_map f o) ≡ is_some o
is_some-option_map f None = refl
is_some-option_map f (Some x) = refl

pub variable_told : (e : Kept Id) (v : ℕ) → e ≡ kept.Variable v → expression_of e ≡ Variable v
variable_told e v is =
    ap (λ (x : Kept Id). expression_of x) is ∙ ap (λ (x : Kept Id). expression_of x) (sym (rolls-Variable v))
    ∙ fold-roll-Expression Id (Expression Id) expression_step (Expression-F.Variable v)

pub bound_told : (e : Kept Id) (v : ℕ) → e ≡ kept.Bound v → expression_of e ≡ Bound v
bound_told e v is =
    ap (λ (x : Kept Id). expression_of x) is ∙ ap (λ (x : Kept Id). expression_of x) (sym (rolls-Bound v))
    ∙ fold-roll-Expression Id (Expression Id) expression_step (Expression-F.Bound v)

-- operators with the values of their right operands, from left to right
abbrev pub chain_value : Option Term → List (TwoOperator × Option Term) → Option Term
chain_value v [] = v
chain_value v (s ∷ ss) = chain_value (two_value s.0 v s.1) ss

-- a chain, with its operands as trees
abbrev pub step_of : {K : Type 0} → TwoOperator × Kept K → TwoOperator × Expression K
step_of s = (s.0, expression_of s.1)

chain_is : {K : Type 0} (first : Box (Kept K)) (steps : Vec (TwoOperator × Kept K)) → expression_of (kept.Chain first steps) ≡ chained (expression_of first.value) (map step_of steps.items)
chain_is {K} first steps =
    ap expression_of (sym (rolls-Chain first steps)) ∙ fold-roll-Expression K (Expression K) expression_step (Expression-F.Chain first steps)

module _ (terms : List Term) (m : Mapping Id) where
  pub term_renamed : (v : ℕ) → option_map (term_of terms) (term_for m v) ≡ term_for (renamed_mapping (term_of terms) m) v
  term_renamed v = sym (get_or-map (option_map (term_of terms)) m v None)

  pub bound_renamed : (v : ℕ) → Some (truth (is_some (term_for m v))) ≡ Some (truth (is_some (term_for (renamed_mapping (term_of terms) m) v)))
  bound_renamed v = ap (λ b. Some (truth b)) (sym (is_some-option_map (term_of terms) (term_for m v)) ∙ ap is_some (term_renamed v))

  -- the value of an expression at numbers
  abbrev pub value_at : Expression Id → Option Term
  value_at e = value_of (renamed_expression (term_of terms) e) (renamed_mapping (term_of terms) m)

  abbrev pub step_value : TwoOperator × Kept Id → TwoOperator × Option Term
  step_value s = (s.0, value_at (expression_of s.1))

module _ (terms : List Term) (m : Mapping Id) where
  chain_values : (e : Expression Id) (ss : List (TwoOperator × Expression Id)) → chain_value (value_at terms m e) (map (λ (s : TwoOperator × Expression Id). (s.0, value_at terms m s.1)) ss) ≡ value_at terms m (chained e ss)
  chain_values e [] = refl
  chain_values e (s ∷ ss) = chain_values (Two s.0 e s.1) ss

  pub chain_told : (first : Box (Kept Id)) (steps : Vec (TwoOperator × Kept Id)) → chain_value (value_at terms m (expression_of first.value)) (map (step_value terms m) steps.items) ≡ value_at terms m (expression_of (kept.Chain first steps))
  chain_told first steps =
      ap (chain_value (value_at terms m (expression_of first.value))) (sym (map-map (λ (s : TwoOperator × Expression Id). (s.0, value_at terms m s.1)) step_of steps.items))
      ∙ chain_values (expression_of first.value) (map step_of steps.items) ∙ ap (value_at terms m) (sym (chain_is first steps))

  -- one operator more
  pub chain_step : (ss : List (TwoOperator × Kept Id)) (i : ℕ) (s : TwoOperator × Kept Id) (v w r all : Option Term) → i < length ss → s ≡ get_or ss i s → w ≡ two_value s.0 v r → r ≡ value_at terms m (expression_of s.1) → chain_value v (map (step_value terms m) (drop i ss)) ≡ all → chain_value w (map (step_value terms m) (drop (i + 1) ss)) ≡ all
  chain_step ss i s v w r all lt is next right before =
      ap (λ x. chain_value x (map (step_value terms m) (drop (i + 1) ss))) (next ∙ ap (two_value s.0 v) right)
      ∙ ap (λ (x : TwoOperator × Kept Id). chain_value v (map (step_value terms m) (x ∷ drop (i + 1) ss))) is
      ∙ sym (at_drop_more (λ (xs : List (TwoOperator × Kept Id)). chain_value v (map (step_value terms m) xs)) ss i s lt) ∙ before
