-- What holds of each element of a list, and of the members of its set.
use Rattle.std.specs.Prelude.{Bool, filter}
use Rattle.std.proofs.Common.{◌≡◌, true, false, cond, List, [], ◌∷◌, sym, ◌∙◌, inl, inr}
use Rattle.std.specs.List.{AllByRecursion, Contains}
use Rattle.std.specs.declared.cmp.Ordering.{Ordering}
use Rattle.std.specs.declared.cmp.Ordering.TheVariants.{Equal}
use Rattle.std.specs.Ordering.{eq_by_cmp}
use Rattle.std.specs.Cmp.{IsTotalOrder, Equal-is, both_ways}
use Rattle.std.proofs.lemmas.Bool.{or_cases}
use Rattle.std.proofs.lemmas.List.Elements.{All-contains_itself, recursion_from_All}
use Rattle.sets.specs.Sets.{set_of, has}
use Rattle.sets.proofs.SetLaws.{has-set_of, has_tied, sorted-set_of, same_set, has-from_Contains}
use Rattle.sets.proofs.Every.{all_weaker}

module _ {A : Type 0} (P : A → Type 0) where
  pub all_both : (Q S : A → Type 0) → ((x : A) → P x → Q x → S x) → (xs : List A) → AllByRecursion P xs → AllByRecursion Q xs → AllByRecursion S xs
  all_both Q S f [] each others = tt
  all_both Q S f (x ∷ xs) each others = (f x each.0 others.0, all_both Q S f xs each.1 others.1)

  pub all_of_kept : (p : A → Bool) (xs : List A) → AllByRecursion P (filter p xs) → AllByRecursion (λ x. p x ≡ true → P x) xs
  all_of_kept p [] each = tt
  all_of_kept p (x ∷ xs) each =
      elim (p x) as (λ b. AllByRecursion P (cond b (x ∷ filter p xs) (filter p xs)) → (b ≡ true → P x) × AllByRecursion (λ y. p y ≡ true → P y) xs) [
        | true ↦ λ h. (λ _. h.0, all_of_kept p xs h.1)
        | false ↦ λ h. (λ e. absurd cc, all_of_kept p xs h)
      ] each

-- ---- sets

module _ {A : Type 0} {R : A → A → Ordering} (o : IsTotalOrder R) where
  -- what is among elements of a list is among the list
  pub among : (all xs : List A) (q : A) → AllByRecursion (λ x. has R all x ≡ true) xs → has R xs q ≡ true → has R all q ≡ true
  among all [] q each e = absurd cc
  among all (x ∷ xs) q each e =
      elim (or_cases (eq_by_cmp R q x) (has R xs q) e) as (λ _. has R all q ≡ true) [
        | inl h ↦ has_tied o q x all ((Equal-is (R q x)).0 h) ∙ each.0
        | inr h ↦ among all xs q each.1 h
      ]

  module _ (exact : (x y : A) → R x y ≡ Equal → x ≡ y) where
    pub all_members : (xs : List A) → AllByRecursion (λ x. has R xs x ≡ true) xs
    all_members xs = all_weaker (Contains xs) (λ x. has R xs x ≡ true) (has-from_Contains o exact xs) xs (recursion_from_All (Contains xs) xs (All-contains_itself xs))

    -- two lists that are among each other are one set
    pub same_sets : (xs ys : List A) → AllByRecursion (λ x. has R ys x ≡ true) xs → AllByRecursion (λ y. has R xs y ≡ true) ys → set_of R xs ≡ set_of R ys
    same_sets xs ys f g =
        same_set o exact (set_of R xs) (set_of R ys) (sorted-set_of o xs) (sorted-set_of o ys)
        (λ q. has-set_of o q xs ∙ both_ways (has R xs q) (has R ys q) (among ys xs q f) (among xs ys q g) ∙ sym (has-set_of o q ys))
