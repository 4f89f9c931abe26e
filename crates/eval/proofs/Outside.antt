-- Sets of some values, and those that are none of them.
use Rattle.std.specs.Prelude.{not, cond, ◌||◌}
use Rattle.std.specs.declared.cmp.Ordering.{Ordering}
use Rattle.std.specs.declared.cmp.Ordering.TheVariants.{Equal}
use Rattle.std.specs.Cmp.{IsTotalOrder}
use Rattle.std.specs.List.Sorted.{IsStrictlySortedBy}
use Rattle.std.proofs.Common.{◌≡◌, List, [], ◌∷◌, ◌++◌, refl, sym, ap, ◌∙◌, subst}
use Rattle.sets.specs.Sets.{has, set_of, union, without}
use Rattle.sets.proofs.SetLaws.{has-set_of, has-union, same_set, sorted-set_of}

module _ {A : Type 0} {R : A → A → Ordering} (o : IsTotalOrder R) where
  -- those outside the set of some values are those that are none of them
  pub outside_set : (xs ys : List A) → without R xs (set_of R ys) ≡ without R xs ys
  outside_set [] ys = refl
  outside_set (x ∷ xs) ys =
      λ i. cond (not (has-set_of o x ys i)) (x ∷ outside_set xs ys i) (outside_set xs ys i)

  pub rises_as_set : (xs ys : List A) → xs ≡ set_of R ys → IsStrictlySortedBy R xs
  rises_as_set xs ys e = subst (λ zs. IsStrictlySortedBy R zs) (sym e) (sorted-set_of o ys)

  -- what is put to a set may be a set or a list with repeats
  pub union_set : ((x y : A) → R x y ≡ Equal → x ≡ y) → (xs ys : List A) → union R xs (set_of R ys) ≡ union R xs ys
  union_set exact xs ys =
      same_set o exact _ _ (sorted-set_of o (xs ++ set_of R ys)) (sorted-set_of o (xs ++ ys))
      (λ q. has-union o q xs (set_of R ys) ∙ ap (λ b. has R xs q || b) (has-set_of o q ys) ∙ sym (has-union o q xs ys))
