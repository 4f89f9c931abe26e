use Rattle.std.proofs.Common.{◌≡◌, ◌∙◌, ◌<◌, ℕ, zero, suc, true, false, Bool, List, [], ◌∷◌, refl, sym, arith, get_or, length}
use Rattle.std.specs.Prelude.{◌↔◌, ◌||◌}
use Rattle.std.specs.List.{list_any, Contains}
use Rattle.std.proofs.lemmas.Bool.{false≢true, or_right, or_left}
use denote.Enum.Bare.{sameb, same_true, true_same}
use Rattle.quad_lists.specs.contracts.key.Arrangement.{the_type}
use Rattle.quad_lists.specs.declared.key.Arrangement.{Arrangement}
use Rattle.quad_lists.specs.declared.key.Arrangement.TheVariants.{Spog, Pogs, Ogsp, Gspo, Gpso, Ospg}
use Rattle.quad_index.proofs.order_set.OrderSet.of.Goals as goal

module _ (a : Arrangement) where
  is_it : Arrangement → Bool
  is_it x = sameb the_type x a

  found : (orders : List Arrangement) → list_any is_it orders ≡ true → Contains orders a
  unfolding is_it
  found [] e = absurd (false≢true e)
  found (x ∷ xs) e = at (is_it x) refl e (found xs)
    where
      at : (b : Bool) → is_it x ≡ b → (b || list_any is_it xs) ≡ true → (list_any is_it xs ≡ true → Contains xs a) → Contains (x ∷ xs) a
      at true is e later = (zero, omega arith, same_true the_type tt x a is)
      at false is e later = let rest = later e in (suc rest.0, omega arith, rest.2)

  finds : (orders : List Arrangement) (k : ℕ) → k < length orders → get_or orders k a ≡ a → list_any is_it orders ≡ true
  unfolding is_it
  finds [] k lt e = absurd (omega arith)
  finds (x ∷ xs) zero lt e = or_left (is_it x) _ (true_same the_type x a e)
  finds (x ∷ xs) (suc k) lt e = or_right (is_it x) _ (finds xs k (omega arith) e)

  kept_beside : (b : Bool) (orders : List Arrangement) → b ≡ list_any (λ x. sameb the_type x a) orders → (Spog ≡ a → ⊥) → (b ≡ true) ↔ Contains (Spog ∷ orders) a
  unfolding is_it
  kept_beside b orders is other = (λ e. let there = found orders (sym is ∙ e) in (suc there.0, omega arith, there.2), back)
    where
      back : Contains (Spog ∷ orders) a → b ≡ true
      back (zero, lt, e) = absurd (other e)
      back (suc k, lt, e) = is ∙ finds orders k (omega arith) e

pub returns : goal.returns
returns c Spog = (λ e. (zero, omega arith, refl), λ h. refl)
returns c Pogs = kept_beside Pogs _ c.args.orders.now c.contains.ensures.value (λ e. cc)
returns c Ogsp = kept_beside Ogsp _ c.args.orders.now c.contains-2.ensures.value (λ e. cc)
returns c Gspo = kept_beside Gspo _ c.args.orders.now c.contains-3.ensures.value (λ e. cc)
returns c Gpso = kept_beside Gpso _ c.args.orders.now c.contains-4.ensures.value (λ e. cc)
returns c Ospg = kept_beside Ospg _ c.args.orders.now c.contains-5.ensures.value (λ e. cc)
