-- What may follow FILTER: what is read is in the grammar, and what is in it is read.
use Rattle.std.proofs.Common.{◌≡◌, ℕ, List, ◌∷◌, Some, None, refl, sym, subst, arith}
use Rattle.std.specs.Option.{option_map_or}
use Rattle.lexer.specs.declared.token.Token.{Token}
use Rattle.lexer.specs.declared.token.Token.TheVariants as token
use Rattle.lexer.specs.declared.token.Sign.TheVariants as signs
use Rattle.productions.specs.Steps.{Found, Takes}
use Rattle.productions.specs.Signs.{sign_at}
use Rattle.productions.proofs.SignLaws.{sign_found}
use Rattle.expressions.specs.Calls.{called_at}
use Rattle.expressions.specs.Grammar.{ReadsCall, ReadsExpression, ReadsConstraint, bracketed, call}
use Rattle.expressions.specs.Reading.{closed_with, arguments_with, expression_at, call_at, constraint_at, ConstraintsAreFound, ConstraintsAreRead}
use Rattle.expressions.proofs.Primaries.{closed_is, closed_made, call_found, call_takes, call_again, call_no_paren}
use Rattle.expressions.proofs.Levels.{expression_found, expression_takes, expression_again}

call_is : (n : ℕ) → Found (call_at n) (ReadsCall n (ReadsExpression n))
unfolding call_at
call_is n ts x e =
    elim (called_at ts) as (λ o. called_at ts ≡ o → option_map_or (λ c. arguments_with n (expression_at n) c.0 c.1) o None ≡ Some x → ReadsCall n (ReadsExpression n) ts x.0 x.1) [
      | None ↦ λ q e. absurd cc
      | Some c ↦ λ q e. call_found n (expression_at n) (ReadsExpression n) (expression_found n) ts c q x e
    ] refl e

pub constraint_found : ConstraintsAreFound
unfolding constraint_at
constraint_found n ts x e =
    elim (sign_at signs.OpenParen ts) as (λ o. sign_at signs.OpenParen ts ≡ o → option_map_or (closed_with (expression_at n)) o (call_at n ts) ≡ Some x → ReadsConstraint n ts x.0 x.1) [
      | None ↦ λ q e. call (call_is n ts x e)
      | Some r ↦ λ q e. subst (λ (us : List Token). ReadsConstraint n us x.0 x.1) (sym (sign_found signs.OpenParen ts r q)) (bracketed (closed_is (expression_at n) (ReadsExpression n) (expression_found n) r x e))
    ] refl e

pub constraint_takes : (n : ℕ) → Takes (ReadsConstraint n)
constraint_takes n _ _ _ (bracketed {ts} {rest} {e} i) = let a = expression_takes n ts e (token.Sign signs.CloseParen ∷ rest) i in omega arith
constraint_takes n _ _ _ (call {ts} {rest} {e} c) = call_takes n (expression_at n) (ReadsExpression n) (expression_takes n) ts e rest c

pub constraint_again : ConstraintsAreRead
unfolding constraint_at call_at
constraint_again n _ _ _ (bracketed {ts} {rest} {e} i) = closed_made n (expression_at n) (ReadsExpression n) (expression_again n) ts e rest i
constraint_again n _ _ _ (call {ts} {rest} {e} c) = rw (call_no_paren n (expression_at n) (ReadsExpression n) c) (call_again n (expression_at n) (ReadsExpression n) (expression_again n) None ts e rest c)
