-- What changes do to sets: both sides have the same members.
use Rattle.std.specs.Prelude.{Bool, true, false, not, ◌&&◌, ◌||◌, filter}
use Rattle.std.proofs.Common.{◌≡◌, List, [], ◌∷◌, ◌++◌, refl, sym, ap, ◌∙◌}
use Rattle.std.proofs.lemmas.Bool.{false≢true}
use Rattle.std.proofs.lemmas.List.Kept.{IsStrictlySortedBy-filter}
use Rattle.std.specs.List.Sorted.{IsStrictlySortedBy}
use Rattle.std.specs.Ordering.{eq_by_cmp}
use Rattle.std.specs.declared.cmp.Ordering.{Ordering}
use Rattle.std.specs.declared.cmp.Ordering.TheVariants.{Equal}
use Rattle.std.specs.Cmp.{IsTotalOrder}
use Rattle.std.proofs.lemmas.List.Folds.{list_any-append}
use Rattle.sets.specs.Sets.{has, with, set_of, union, without}
use Rattle.sets.proofs.SetLaws.{same_set, sorted-set_of, sorted-with, has-set_of, has-union, has-filter, has-with, has-without, exact_by, has-after}

-- ---- truth tables: d is there before, p and r are of graphs that go, m comes

taken : (d p : Bool) → ((d && not (d && p)) || false) ≡ (d && not p)
taken true true = refl
taken true false = refl
taken false p = refl

taken_all : (d p : Bool) → ((d && not p) || false) ≡ (d && not p)
taken_all true true = refl
taken_all true false = refl
taken_all false p = refl

kept : (d m : Bool) → ((d && not false) || m) ≡ (d || m)
kept true m = refl
kept false m = refl

kept_with : (d m : Bool) → ((d && not false) || (m || false)) ≡ (m || d)
kept_with true true = refl
kept_with true false = refl
kept_with false true = refl
kept_with false false = refl

put_for : (d p m : Bool) → ((d && not (d && p)) || m) ≡ ((d && not p) || m)
put_for true true m = refl
put_for true false m = refl
put_for false p m = refl

moved : (d r p m : Bool) → (m ≡ true → r ≡ false) → ((d && not ((d && r) || (d && p))) || m) ≡ (((d && not p) || m) && not r)
moved d true p true f = absurd (false≢true (sym (f refl)))
moved true false true true f = refl
moved true false false true f = refl
moved false false p true f = refl
moved true true true false f = refl
moved true true false false f = refl
moved true false true false f = refl
moved true false false false f = refl
moved false r p false f = refl

renamed : (d r m : Bool) → (m ≡ true → r ≡ false) → ((d && not (r || false)) || (m || false)) ≡ ((m || d) && not (r || false))
renamed d true true f = absurd (false≢true (sym (f refl)))
renamed true false true f = refl
renamed false false true f = refl
renamed true true false f = refl
renamed true false false f = refl
renamed false r false f = refl

module _ {A : Type 0} {R : A → A → Ordering} (total : IsTotalOrder R) (exact : (x y : A) → R x y ≡ Equal → x ≡ y) where
  has_it : (ds gone come : List A) (x : A) → has R (union R (without R ds (set_of R gone)) (set_of R come)) x ≡ ((has R ds x && not (has R gone x)) || has R come x)
  has_it ds gone come x =
      has-after total exact x ds (set_of R gone) (set_of R come)
      ∙ (λ i. (has R ds x && not (has-set_of total x gone i)) || has-set_of total x come i)

  -- without those that pass a test
  pub taken_out : (p : A → Bool) (ds : List A) → IsStrictlySortedBy R ds → union R (without R ds (set_of R (filter p ds))) [] ≡ filter (λ x. not (p x)) ds
  taken_out p ds s =
      same_set total exact _ _ (sorted-set_of total (without R ds (set_of R (filter p ds)) ++ [])) (IsStrictlySortedBy-filter R (λ x. not (p x)) ds s)
      (λ x. has_it ds (filter p ds) [] x ∙ ap (λ b. (has R ds x && not b) || false) (has-filter total exact p x ds) ∙ taken (has R ds x) (p x)
      ∙ sym (has-filter total exact (λ y. not (p y)) x ds))

  -- without these
  pub these_out : (gone ds : List A) → IsStrictlySortedBy R ds → union R (without R ds (set_of R gone)) [] ≡ without R ds gone
  these_out gone ds s =
      same_set total exact _ _ (sorted-set_of total (without R ds (set_of R gone) ++ [])) (IsStrictlySortedBy-filter R (λ x. not (has R gone x)) ds s)
      (λ x. has_it ds gone [] x ∙ taken_all (has R ds x) (has R gone x) ∙ sym (has-without total exact x ds gone))

  -- with these
  pub these_in : (ds come : List A) → union R (without R ds []) (set_of R come) ≡ union R ds come
  these_in ds come =
      same_set total exact _ _ (sorted-set_of total (without R ds [] ++ set_of R come)) (sorted-set_of total (ds ++ come))
      (λ x. has_it ds [] come x ∙ kept (has R ds x) (has R come x) ∙ sym (has-union total x ds come))

  -- with this one
  pub one_in : (ds : List A) (y : A) → IsStrictlySortedBy R ds → union R (without R ds []) (y ∷ []) ≡ with R y ds
  one_in ds y s =
      same_set total exact _ _ (sorted-set_of total (without R ds [] ++ y ∷ [])) (sorted-with total y ds s)
      (λ x. has_it ds [] (y ∷ []) x ∙ kept_with (has R ds x) (eq_by_cmp R x y) ∙ sym (has-with total x y ds))

  -- with these in place of those that pass a test
  pub these_for : (p : A → Bool) (ds come : List A) → union R (without R ds (set_of R (filter p ds))) (set_of R come) ≡ union R (filter (λ x. not (p x)) ds) come
  these_for p ds come =
      same_set total exact _ _ (sorted-set_of total (without R ds (set_of R (filter p ds)) ++ set_of R come)) (sorted-set_of total (filter (λ x. not (p x)) ds ++ come))
      (λ x. has_it ds (filter p ds) come x ∙ ap (λ b. (has R ds x && not b) || has R come x) (has-filter total exact p x ds) ∙ put_for (has R ds x) (p x) (has R come x)
      ∙ sym (has-union total x (filter (λ y. not (p y)) ds) come ∙ ap (λ b. b || has R come x) (has-filter total exact (λ y. not (p y)) x ds)))

  -- and then without those that pass another test, which none that comes passes
  pub these_moved : (r p : A → Bool) (ds come : List A) → ((x : A) → has R come x ≡ true → r x ≡ false)
      → union R (without R ds (set_of R (filter r ds ++ filter p ds))) (set_of R come) ≡ filter (λ x. not (r x)) (union R (filter (λ x. not (p x)) ds) come)
  these_moved r p ds come other =
      same_set total exact _ _ (sorted-set_of total (without R ds (set_of R (filter r ds ++ filter p ds)) ++ set_of R come))
      (IsStrictlySortedBy-filter R (λ x. not (r x)) _ (sorted-set_of total (filter (λ x. not (p x)) ds ++ come)))
      (λ x. has_it ds (filter r ds ++ filter p ds) come x
      ∙ ap (λ b. (has R ds x && not b) || has R come x) (list_any-append (eq_by_cmp R x) (filter r ds) (filter p ds) ∙ (λ i. has-filter total exact r x ds i || has-filter total exact p x ds i))
      ∙ moved (has R ds x) (r x) (p x) (has R come x) (other x)
      ∙ sym (has-filter total exact (λ y. not (r y)) x (union R (filter (λ y. not (p y)) ds) come)
      ∙ ap (λ b. b && not (r x)) (has-union total x (filter (λ y. not (p y)) ds) come ∙ ap (λ b. b || has R come x) (has-filter total exact (λ y. not (p y)) x ds))))

  -- with one in place of another
  pub one_moved : (ds : List A) (gone come : A) → eq_by_cmp R come gone ≡ false → IsStrictlySortedBy R ds
      → union R (without R ds (gone ∷ [])) (come ∷ []) ≡ without R (with R come ds) (gone ∷ [])
  one_moved ds gone come other s =
      same_set total exact _ _ (sorted-set_of total (without R ds (gone ∷ []) ++ come ∷ [])) (IsStrictlySortedBy-filter R (λ x. not (has R (gone ∷ []) x)) _ (sorted-with total come ds s))
      (λ x. has_it ds (gone ∷ []) (come ∷ []) x
      ∙ renamed (has R ds x) (eq_by_cmp R x gone) (eq_by_cmp R x come) (λ e. ap (λ y. eq_by_cmp R y gone) (exact_by total exact x come e) ∙ other)
      ∙ sym (has-without total exact x (with R come ds) (gone ∷ []) ∙ ap (λ b. b && not (eq_by_cmp R x gone || false)) (has-with total x come ds)))
