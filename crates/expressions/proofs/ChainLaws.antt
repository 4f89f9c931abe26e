-- Operands with operators between them, whichever the operand is.
use Rattle.std.proofs.Common.{◌≡◌, ℕ, zero, suc, ◌≤◌, ◌<◌, true, false, cond, eqb, List, [], ◌∷◌, length, Option, Some, None, Result, Err, refl, sym, ap, ◌∙◌, subst, arith}
use Rattle.std.specs.Option.{option_map_or}
use Rattle.std.proofs.lemmas.Bool.{eqb-true, eqb-false}
use Rattle.std.proofs.lemmas.Option.{same_Some, cond_some}
use Rattle.iris.specs.Bracketed.{◌>>=◌}
use Rattle.iris.proofs.Options.{bind_some}
use Rattle.lexer.specs.declared.token.Token.{Token}
use Rattle.syntax_trees.specs.declared.expression.Operator.{Operator}
use Rattle.syntax_trees.specs.Expressions.{Tree, Binary}
use Rattle.syntax_trees.specs.Operators.{rank, level_of}
use Rattle.lexer.specs.declared.stop.Stop.{Stop}
use Rattle.lexer.specs.declared.stop.Stop.TheVariants as stop
use Rattle.productions.specs.Steps.{Production, Reader, Found, Takes, Fails, Gives}
use Rattle.expressions.specs.Operators.{operator_of, operator_at}
use Rattle.expressions.specs.Grammar.{IsOperator, ReadsMore, done, more, ReadsChain, chain, ReadsOnce, alone, pair}
use Rattle.expressions.specs.Reading.{more_with, chain_with, once_with}
use Rattle.expressions.proofs.Words.{front_rank, binding, AgainBelow, Shrinks}

-- ---- operators

same_number : (n : ℕ) → eqb n n ≡ true
same_number n = elim (eqb n n) as (λ b. eqb n n ≡ b → b ≡ true) [ true ↦ λ e. refl | false ↦ λ e. absurd (eqb-false n n e refl) ] refl

pub record OperatorFound (n : ℕ) (ts : List Token) (x : Operator × List Token) : Type 0 where
  pub t : Token
  pub cut : ts ≡ t ∷ x.1
  pub is : IsOperator n t x.0

pub operator_found : (n : ℕ) (ts : List Token) (x : Operator × List Token) → operator_at n ts ≡ Some x → OperatorFound n ts x
operator_found n [] x e = absurd cc
operator_found n (t ∷ ts) x e =
    let o = bind_some (operator_of t) (λ o. cond (eqb (rank (level_of o)) n) (Some (o, ts)) None) x e in
    let g = cond_some (eqb (rank (level_of o.0)) n) (o.0, ts) x o.2 in
    subst (λ (y : Operator × List Token). OperatorFound n (t ∷ ts) y) g.1 (record { t = t; cut = refl; is = record { is = o.1; binds = eqb-true (rank (level_of o.0)) n g.0 } })

pub operator_again : (n : ℕ) (t : Token) (ts : List Token) (o : Operator) → IsOperator n t o → operator_at n (t ∷ ts) ≡ Some (o, ts)
operator_again n t ts o is = rw (is.is, is.binds, same_number n) refl

abbrev as_operator : ℕ → List Token → Operator → Option (Operator × List Token)
as_operator n ts o = cond (eqb (rank (level_of o)) n) (Some (o, ts)) None

pub no_operator : (m n : ℕ) (ts : List Token) → front_rank ts ≤ m → m < n → operator_at n ts ≡ None
no_operator m n [] h k = refl
no_operator m n (t ∷ ts) h k =
    elim (operator_of t) as (λ o. binding o ≤ m → (o >>= as_operator n ts) ≡ None) [
      | None ↦ λ h. refl
      | Some o ↦ λ h. elim (eqb (rank (level_of o)) n) as (λ b. eqb (rank (level_of o)) n ≡ b → cond b (let r : Option (Operator × List Token) = Some (o, ts) in r) None ≡ None) [
        | true ↦ λ e. absurd (let same = eqb-true (rank (level_of o)) n e in omega arith)
        | false ↦ λ e. refl
      ] refl
    ] h

front_is : (n : ℕ) (t : Token) (ts : List Token) (o : Operator) → IsOperator n t o → front_rank (t ∷ ts) ≡ n
front_is n t ts o is = ap binding is.is ∙ is.binds

-- ---- chains

more_found : (item : Reader Tree) (P : Production Tree) (n : ℕ) → Found item P → (k : ℕ) (e : Tree) (ts : List Token) (x : Tree × List Token) → more_with item n k e ts ≡ Some x → ReadsMore P n ts e x.0 x.1
more_found item P n found zero e ts x h = subst (λ (y : Tree × List Token). ReadsMore P n ts e y.0 y.1) (same_Some (e, ts) x h) done
more_found item P n found (suc k) e ts x h =
    elim (operator_at n ts) as (λ o. operator_at n ts ≡ o → option_map_or (λ o. item o.1 >>= λ x. more_with item n k (Binary o.0 e x.0) x.1) o (Some (e, ts)) ≡ Some x → ReadsMore P n ts e x.0 x.1) [
      | None ↦ λ q h. subst (λ (y : Tree × List Token). ReadsMore P n ts e y.0 y.1) (same_Some (e, ts) x h) done
      | Some o ↦ λ q h.
          let f = operator_found n ts o q in
          let y = bind_some (item o.1) (λ x. more_with item n k (Binary o.0 e x.0) x.1) x h in
          subst (λ (us : List Token). ReadsMore P n us e x.0 x.1) (sym f.cut) (more f.is (found o.1 y.0 y.1) (more_found item P n found k (Binary o.0 e y.0.0) y.0.1 x y.2))
    ] refl h

pub chain_found : (item : Reader Tree) (P : Production Tree) (n : ℕ) → Found item P → Found (chain_with item n) (ReadsChain P n)
unfolding chain_with
chain_found item P n found ts x h =
    let y = bind_some (item ts) (λ x. more_with item n (length x.1) x.0 x.1) x h in
    chain (found ts y.0 y.1) (more_found item P n found (length y.0.1) y.0.0 y.0.1 x y.2)

pub once_found : (item : Reader Tree) (P : Production Tree) (n : ℕ) → Found item P → Found (once_with item n) (ReadsOnce P n)
unfolding once_with
once_found item P n found ts x h =
    let y = bind_some (item ts) (λ x. option_map_or (λ o. item o.1 >>= λ y. Some (Binary o.0 x.0 y.0, y.1)) (operator_at n x.1) (Some x)) x h in
    elim (operator_at n y.0.1) as (λ o. operator_at n y.0.1 ≡ o → option_map_or (λ o. item o.1 >>= λ z. Some (Binary o.0 y.0.0 z.0, z.1)) o (Some y.0) ≡ Some x → ReadsOnce P n ts x.0 x.1) [
      | None ↦ λ q h. subst (λ (z : Tree × List Token). ReadsOnce P n ts z.0 z.1) (same_Some y.0 x h) (alone (found ts y.0 y.1))
      | Some o ↦ λ q h.
          let f = operator_found n y.0.1 o q in
          let z = bind_some (item o.1) (λ z. Some (Binary o.0 y.0.0 z.0, z.1)) x h in
          subst (λ (w : Tree × List Token). ReadsOnce P n ts w.0 w.1) (same_Some (Binary o.0 y.0.0 z.0.0, z.0.1) x z.2)
          (pair (subst (λ (us : List Token). P ts y.0.0 us) f.cut (found ts y.0 y.1)) f.is (found o.1 z.0 z.1))
    ] refl y.2

more_takes : (P : Production Tree) (n : ℕ) → Takes P → {ts rest : List Token} {e f : Tree} → ReadsMore P n ts e f rest → length rest ≤ length ts
more_takes P n takes done = omega arith
more_takes P n takes (more {t} {ts} {us} {rest} {o} {e} {f} {g} is item m) = let a = takes ts f us item in let b = more_takes P n takes m in omega arith

pub chain_takes : (P : Production Tree) (n : ℕ) → Takes P → Takes (ReadsChain P n)
chain_takes P n takes _ _ _ (chain {ts} {us} {rest} {e} {f} item m) = let a = takes ts e us item in let b = more_takes P n takes m in omega arith

pub once_takes : (P : Production Tree) (n : ℕ) → Takes P → Takes (ReadsOnce P n)
once_takes P n takes _ _ _ (alone {ts} {rest} {e} item) = takes ts e rest item
once_takes P n takes _ _ _ (pair {t} {ts} {us} {rest} {o} {e} {f} item is next) = let a = takes ts e (t ∷ us) item in let b = takes us f rest next in omega arith

more_front : (P : Production Tree) (n : ℕ) {ts rest : List Token} {e f : Tree} → ReadsMore P n ts e f rest → front_rank rest ≤ n → front_rank ts ≤ n
more_front P n done h = h
more_front P n (more {t} {ts} {us} {rest} {o} is item m) h = let e = front_is n t ts o is in omega arith

more_again : (item : Reader Tree) (P : Production Tree) (n : ℕ) → Takes P → AgainBelow (suc n) item P → {ts rest : List Token} {e f : Tree} → ReadsMore P (suc n) ts e f rest → front_rank rest ≤ n → (k : ℕ) → length ts ≤ k → more_with item (suc n) k e ts ≡ Some (f, rest)
more_again item P n takes again done h zero l = refl
more_again item P n takes again (done {rest} {e}) h (suc k) l = rw (no_operator n (suc n) rest h (omega arith)) refl
more_again item P n takes again (more {t} {ts} is i m) h zero l = absurd (omega arith)
more_again item P n takes again (more {t} {ts} {us} {rest} {o} {e} {f} {g} is i m) h (suc k) l =
    let a = takes ts f us i in
    rw (operator_again (suc n) t ts o is, again ts f us i (more_front P (suc n) m (omega arith))) (more_again item P n takes again m h k (omega arith))

pub chain_again : (item : Reader Tree) (P : Production Tree) (n : ℕ) → Takes P → AgainBelow (suc n) item P → AgainBelow n (chain_with item (suc n)) (ReadsChain P (suc n))
unfolding chain_with
chain_again item P n takes again _ _ _ (chain {ts} {us} {rest} {e} {f} i m) h =
    rw (again ts e us i (more_front P (suc n) m (omega arith))) (more_again item P n takes again m h (length us) (omega arith))

pub once_again : (item : Reader Tree) (P : Production Tree) (n : ℕ) → AgainBelow (suc n) item P → AgainBelow n (once_with item (suc n)) (ReadsOnce P (suc n))
unfolding once_with
once_again item P n again _ _ _ (alone {ts} {rest} {e} i) h = rw (again ts e rest i (omega arith), no_operator n (suc n) rest h (omega arith)) refl
once_again item P n again _ _ _ (pair {t} {ts} {us} {rest} {o} {e} {f} i is j) h =
    let front = front_is (suc n) t us o is in
    rw (again ts e (t ∷ us) i (omega arith), operator_again (suc n) t us o is, again us f rest j (omega arith)) refl

-- ---- the loop

pub operator_shrinks : (n : ℕ) (ts : List Token) (x : Operator × List Token) → operator_at n ts ≡ Some x → length x.1 < length ts
operator_shrinks n ts x e = let f = operator_found n ts x e in let l = ap length f.cut in omega arith

pub more_enough : (item : Reader Tree) (n : ℕ) → Shrinks item → (k m : ℕ) (e : Tree) (ts : List Token) → length ts ≤ k → length ts ≤ m → more_with item n k e ts ≡ more_with item n m e ts
more_enough item n shrinks zero zero e ts a b = refl
more_enough item n shrinks zero (suc m) e [] a b = refl
more_enough item n shrinks zero (suc m) e (t ∷ ts) a b = absurd (omega arith)
more_enough item n shrinks (suc k) zero e [] a b = refl
more_enough item n shrinks (suc k) zero e (t ∷ ts) a b = absurd (omega arith)
more_enough item n shrinks (suc k) (suc m) e ts a b =
    elim (operator_at n ts) as (λ o. operator_at n ts ≡ o → option_map_or (λ o. item o.1 >>= λ x. more_with item n k (Binary o.0 e x.0) x.1) o (Some (e, ts)) ≡ option_map_or (λ o. item o.1 >>= λ x. more_with item n m (Binary o.0 e x.0) x.1) o (Some (e, ts))) [
      | None ↦ λ q. refl
      | Some o ↦ λ q. elim (item o.1) as (λ i. item o.1 ≡ i → (i >>= λ x. more_with item n k (Binary o.0 e x.0) x.1) ≡ (i >>= λ x. more_with item n m (Binary o.0 e x.0) x.1)) [
        | None ↦ λ i. refl
        | Some x ↦ λ i. let c = operator_shrinks n ts o q in let d = shrinks o.1 x i in more_enough item n shrinks k m (Binary o.0 e x.0) x.1 (omega arith) (omega arith)
      ] refl
    ] refl

abbrev pub more_all : Reader Tree → ℕ → Tree → Reader Tree
more_all item n e ts = more_with item n (length ts) e ts

unrolled : (item : Reader Tree) (n : ℕ) → Shrinks item → (e : Tree) (ts : List Token) → more_all item n e ts ≡ more_with item n (suc (length ts)) e ts
unrolled item n shrinks e ts = more_enough item n shrinks (length ts) (suc (length ts)) e ts (omega arith) (omega arith)

pub more_steps : (item : Reader Tree) (n : ℕ) → Shrinks item → (e : Tree) (ts : List Token) (o : Operator × List Token) (x : Tree × List Token) → operator_at n ts ≡ Some o → item o.1 ≡ Some x → more_all item n e ts ≡ more_all item n (Binary o.0 e x.0) x.1
more_steps item n shrinks e ts o x op i =
    let c = operator_shrinks n ts o op in
    let d = shrinks o.1 x i in
    unrolled item n shrinks e ts ∙ rw (op, i) (more_enough item n shrinks (length ts) (length x.1) (Binary o.0 e x.0) x.1 (omega arith) (omega arith))

pub turn_shrinks : (item : Reader Tree) (n : ℕ) → Shrinks item → (ts : List Token) (o : Operator × List Token) (x : Tree × List Token) → operator_at n ts ≡ Some o → item o.1 ≡ Some x → length x.1 < length ts
turn_shrinks item n shrinks ts o x op i = let c = operator_shrinks n ts o op in let d = shrinks o.1 x i in omega arith

-- an operand that was read behind an operator, joined with what stands before it
abbrev join : Operator → Tree → Option (Tree × List Token) → Option (Tree × List Token)
join o e read = read >>= λ x. Some (Binary o e x.0, x.1)

pub joined_shrinks : (item : Reader Tree) (n : ℕ) → Shrinks item → (e : Tree) (ts : List Token) (o : Operator × List Token) (y : Tree × List Token) → operator_at n ts ≡ Some o → join o.0 e (item o.1) ≡ Some y → length y.1 < length ts
joined_shrinks item n shrinks e ts o y op j =
    let x = bind_some (item o.1) (λ x. Some (Binary o.0 e x.0, x.1)) y j in
    let same : length x.0.1 ≡ length y.1 = ap (λ (z : Tree × List Token). length z.1) (same_Some (Binary o.0 e x.0.0, x.0.1) y x.2) in
    let d = turn_shrinks item n shrinks ts o x.0 op x.1 in
    omega arith

pub joined_steps : (item : Reader Tree) (n : ℕ) → Shrinks item → (e : Tree) (ts : List Token) (o : Operator × List Token) (y : Tree × List Token) → operator_at n ts ≡ Some o → join o.0 e (item o.1) ≡ Some y → more_all item n e ts ≡ more_all item n y.0 y.1
joined_steps item n shrinks e ts o y op j =
    let x = bind_some (item o.1) (λ x. Some (Binary o.0 e x.0, x.1)) y j in
    more_steps item n shrinks e ts o x.0 op x.1 ∙ ap (λ (z : Tree × List Token). more_all item n z.0 z.1) (same_Some (Binary o.0 e x.0.0, x.0.1) y x.2)

join_unread : (o : Operator) (e : Tree) (read : Option (Tree × List Token)) → join o e read ≡ None → read ≡ None
join_unread o e None h = refl
join_unread o e (Some x) h = absurd cc

pub joined_fails : (item : Reader Tree) (n : ℕ) (e : Tree) (ts : List Token) (o : Operator × List Token) (all : Option (Tree × List Token)) (f : Stop) → operator_at n ts ≡ Some o → Fails f (join o.0 e (item o.1)) → more_all item n e ts ≡ all → Fails f all
joined_fails item n e [] o all f op h all-is = absurd cc
joined_fails item n e (t ∷ ts) o all stop.Memory op h all-is = tt
joined_fails item n e (t ∷ ts) o all stop.NoReading op h all-is = sym all-is ∙ rw (op, join_unread o.0 e (item o.1) h) refl

-- an error that is passed on
pub passes : {X Y : Type 0} (view : X → Y) (r : Result X Stop) (read : Option Y) (e f : Stop) → r ≡ Err e → e ≡ f → Fails f read → Gives view r read
passes {X} {Y} view r read e f r-is e-is h = subst (λ (r : Result X Stop). Gives view r read) (sym r-is) (subst (λ (e : Stop). Fails e read) (sym e-is) h)
