-- The effect of an operation, and of one operation more.
use Rattle.std.specs.Prelude.{Bool, true, false, ℕ, nat_lt, if◌then◌else◌, filter}
use Rattle.std.proofs.Common.{◌≡◌, ◌+◌, ◌≤◌, ◌<◌, List, [], ◌∷◌, length, drop, get_or, Result, Ok, Err, Some, None, refl, sym, ap, ◌∙◌, arith}
use Rattle.std.proofs.lemmas.List.{drop_more}
use borrow.Author.Tests.{ltb-true}
use Rattle.datasets.specs.Dataset.{Dataset}
use Rattle.meaning.specs.Vocabulary.{Vocabulary}
use Rattle.meaning.specs.Mapping.{Mapping}
use Rattle.meaning.specs.Effect.{modified, replaced, effect_of}
use Rattle.meaning.specs.Solutions.{passes_all}
use Rattle.meaning.specs.Template.{instances}
use Rattle.meaning.specs.Run.{Failure, then_next, performed}
use Rattle.meaning.specs.declared.reply.Cause.{Cause}
use Rattle.meaning.specs.declared.reply.Cause.TheVariants.{TooManySolutions}
use Rattle.solution.specs.Limits.{up_to}
use Rattle.algebra.specs.Expressions.{Expression}
use Rattle.algebra.specs.declared.update.Operation.{Operation}
use Rattle.algebra.specs.declared.template.QuadTemplate.{QuadTemplate}

not_above : (n m : ℕ) (b : Bool) → nat_lt m n ≡ b → n ≤ m → b ≡ false
not_above n m true e h = absurd (let lt : m < n = ltb-true m n e in omega arith)
not_above n m false e h = refl

-- no filters let all pass
pub unfiltered : {K : Type 0} (passes : Expression K → Mapping K → Bool) (xs : List (Mapping K)) → filter (passes_all passes []) xs ≡ xs
unfiltered passes [] = refl
unfiltered passes (x ∷ xs) = ap (λ ys. x ∷ ys) (unfiltered passes xs)

module _ {K : Type 0} (V : Vocabulary K) (request : ℕ) where
  some_of : (b : Bool) (xs ys : List (Mapping K)) → Some xs ≡ (if b then None else Some ys) → xs ≡ ys
  some_of true xs ys e = absurd (cc)
  some_of false xs ys e = cc

  pub few_are : (found ms : List (Mapping K)) → Some found ≡ up_to 1000000 ms → found ≡ ms
  few_are found ms e = some_of (nat_lt 1000000 (length ms)) found ms e

  -- few solutions, and the dataset that they give
  pub modified_is : (op : ℕ) (delete insert : List (QuadTemplate K)) (found ms : List (Mapping K)) (d e : Dataset K) → found ≡ ms → length found ≤ 1000000
      → e ≡ replaced V d (instances V request op delete found) (instances V request op insert found)
      → Ok e ≡ modified V request op delete insert ms d
  modified_is op delete insert found ms d e same few is =
      ap Ok is
      ∙ ap (λ b. if b then Err TooManySolutions else Ok (replaced V d (instances V request op delete found) (instances V request op insert found))) (sym (not_above (length found) 1000000 (nat_lt 1000000 (length found)) refl few))
      ∙ ap (λ z. modified V request op delete insert z d) same

  -- too many solutions
  pub modified_fails : (op : ℕ) (delete insert : List (QuadTemplate K)) (ms : List (Mapping K)) (d : Dataset K) → None ≡ up_to 1000000 ms
      → Err TooManySolutions ≡ modified V request op delete insert ms d
  modified_fails op delete insert ms d none =
      sym (ap (λ b. if b then Err TooManySolutions else Ok (replaced V d (instances V request op delete ms) (instances V request op insert ms))) (above (nat_lt 1000000 (length ms)) ms none))
    where
      above : (b : Bool) (xs : List (Mapping K)) → None ≡ (if b then None else Some xs) → b ≡ true
      above true xs e = refl
      above false xs e = absurd (cc)

  -- one operation more
  pub performed_more : (ops : List (Operation K)) (i place : ℕ) (op : Operation K) (now next : Dataset K) (all : Result (Dataset K) Failure) → i < length ops → op ≡ get_or ops i op
      → Ok next ≡ effect_of V request place op now
      → performed V request place (drop i ops) now ≡ all
      → performed V request (place + 1) (drop (i + 1) ops) next ≡ all
  performed_more ops i place op now next all h is effect before =
      let rest = performed V request (place + 1) (drop (i + 1) ops) in
      ap (λ e. then_next V place e rest) (effect ∙ ap (λ o. effect_of V request place o now) is)
      ∙ ap (λ os. performed V request place os now) (sym (drop_more ops i op h))
      ∙ before

  -- the failing operation
  pub performed_fails : (ops : List (Operation K)) (i place : ℕ) (op : Operation K) (now : Dataset K) (cause : Cause) (all : Result (Dataset K) Failure) → i < length ops → op ≡ get_or ops i op
      → Err cause ≡ effect_of V request place op now
      → performed V request place (drop i ops) now ≡ all
      → Err (record { operation = place + 1; cause = cause }) ≡ all
  performed_fails ops i place op now cause all h is effect before =
      let rest = performed V request (place + 1) (drop (i + 1) ops) in
      ap (λ e. then_next V place e rest) (effect ∙ ap (λ o. effect_of V request place o now) is)
      ∙ ap (λ os. performed V request place os now) (sym (drop_more ops i op h))
      ∙ before
