-- What really differs between two datasets.
use Rattle.std.specs.Prelude.{Bool, true, false, not, ◌&&◌, ◌||◌, filter}
use Rattle.std.proofs.Common.{◌≡◌, List, [], ◌++◌, refl, sym, ap, ◌∙◌}
use Rattle.std.proofs.lemmas.List.Kept.{IsStrictlySortedBy-filter}
use Rattle.std.specs.List.Sorted.{IsStrictlySortedBy}
use Rattle.std.specs.declared.cmp.Ordering.{Ordering}
use Rattle.std.specs.declared.cmp.Ordering.TheVariants.{Equal}
use Rattle.std.specs.Cmp.{IsTotalOrder}
use Rattle.std.proofs.Math.Bool.{and-not_self}
use Rattle.sets.specs.Sets.{has, set_of, union, without}
use Rattle.sets.proofs.SetLaws.{same_set, sorted-set_of, sorted-empty, has-set_of, has-filter, has-without, has-after}
use Rattle.datasets.specs.declared.id.Id.{Id}
use Rattle.datasets.specs.declared.quad.Quad.{Quad}
use Rattle.datasets.specs.Dataset.{quad_order}
use Rattle.datasets.specs.Id.{id_order, id_total, id_exact, quad_total, quad_exact}
use Rattle.reads.specs.Reads.{View, Delta, IsDataset, no_change, applied}
use Rattle.update.specs.Changed.{difference, IsNewOf}

-- ---- truth tables: d is there before, a goes, p comes

new_only : (d a p : Bool) → (p && not d) ≡ (((d && not a) || p) && not d)
new_only true true true = refl
new_only true true false = refl
new_only true false true = refl
new_only true false false = refl
new_only false true true = refl
new_only false true false = refl
new_only false false true = refl
new_only false false false = refl

lost_only : (d a p : Bool) → ((a && not p) && d) ≡ (d && not ((d && not a) || p))
lost_only true true true = refl
lost_only true true false = refl
lost_only true false true = refl
lost_only true false false = refl
lost_only false true true = refl
lost_only false true false = refl
lost_only false false true = refl
lost_only false false false = refl

and_back : (d e : Bool) → ((d && not (d && not e)) || (e && not d)) ≡ e
and_back true true = refl
and_back true false = refl
and_back false true = refl
and_back false false = refl

as_it_was : (d : Bool) → ((d && not false) || false) ≡ d
as_it_was true = refl
as_it_was false = refl

-- ---- sets

module _ {A : Type 0} {R : A → A → Ordering} (total : IsTotalOrder R) (exact : (x y : A) → R x y ≡ Equal → x ≡ y) where
  -- what really comes
  pub new_is : (ds gone come : List A) → set_of R (without R come ds) ≡ without R (union R (without R ds gone) come) ds
  new_is ds gone come =
      let after : List A = union R (without R ds gone) come in
      same_set total exact (set_of R (without R come ds)) (without R after ds) (sorted-set_of total (without R come ds))
      (IsStrictlySortedBy-filter R (λ x. not (has R ds x)) after (sorted-set_of total (without R ds gone ++ come)))
      (λ x.
      has-set_of total x (without R come ds)
      ∙ has-without total exact x come ds
      ∙ new_only (has R ds x) (has R gone x) (has R come x)
      ∙ sym (has-without total exact x after ds ∙ ap (λ b. b && not (has R ds x)) (has-after total exact x ds gone come)))

  -- what really goes
  pub lost_is : (ds gone come : List A) → IsStrictlySortedBy R ds → set_of R (filter (has R ds) (without R gone come)) ≡ without R ds (union R (without R ds gone) come)
  lost_is ds gone come s =
      let after : List A = union R (without R ds gone) come in
      let lost : List A = filter (has R ds) (without R gone come) in
      same_set total exact (set_of R lost) (without R ds after) (sorted-set_of total lost) (IsStrictlySortedBy-filter R (λ x. not (has R after x)) ds s)
      (λ x.
      has-set_of total x lost
      ∙ has-filter total exact (has R ds) x (without R gone come)
      ∙ ap (λ b. b && has R ds x) (has-without total exact x gone come)
      ∙ lost_only (has R ds x) (has R gone x) (has R come x)
      ∙ sym (has-without total exact x ds after ∙ ap (λ b. has R ds x && not b) (has-after total exact x ds gone come)))

  -- the difference leads there
  pub leads : (ds es : List A) → IsStrictlySortedBy R es → union R (without R ds (without R ds es)) (without R es ds) ≡ es
  leads ds es s =
      let kept : List A = without R ds (without R ds es) in
      same_set total exact (union R kept (without R es ds)) es (sorted-set_of total (kept ++ without R es ds)) s
      (λ x.
      has-after total exact x ds (without R ds es) (without R es ds)
      ∙ (λ i. (has R ds x && not (has-without total exact x ds es i)) || has-without total exact x es ds i)
      ∙ and_back (has R ds x) (has R es x))

  pub nothing_differs : (ds : List A) → IsStrictlySortedBy R ds → without R ds ds ≡ []
  nothing_differs ds s =
      same_set total exact (without R ds ds) [] (IsStrictlySortedBy-filter R (λ x. not (has R ds x)) ds s) (sorted-empty R)
      (λ x. has-without total exact x ds ds ∙ and-not_self (has R ds x))

  pub unchanged : (ds : List A) → IsStrictlySortedBy R ds → union R (without R ds []) [] ≡ ds
  unchanged ds s =
      same_set total exact (union R (without R ds []) []) ds (sorted-set_of total (without R ds [] ++ [])) s
      (λ x. has-after total exact x ds [] [] ∙ as_it_was (has R ds x))

-- ---- datasets

pub difference_leads : (d e : View) → IsDataset e → applied (difference d e) d ≡ e
unfolding applied
difference_leads d e h =
    λ i. record { quads = leads (quad_total id_total) (quad_exact id_order id_exact) d.quads e.quads h.quads i; names = leads id_total id_exact d.names e.names h.names i }

pub no_difference : (d : View) → IsDataset d → no_change ≡ difference d d
no_difference d h =
    let quads = sym (nothing_differs (quad_total id_total) (quad_exact id_order id_exact) d.quads h.quads) in
    let names = sym (nothing_differs id_total id_exact d.names h.names) in
    λ i. record { present = quads i; absent = quads i; there = names i; gone = names i }

pub no_change_keeps : (d : View) → IsDataset d → applied no_change d ≡ d
unfolding applied
no_change_keeps d h =
    λ i. record { quads = unchanged (quad_total id_total) (quad_exact id_order id_exact) d.quads h.quads i; names = unchanged id_total id_exact d.names h.names i }

-- what is asked for of a change: what is to be there, and what isn't, unless it is to be there too
abbrev pub asked_of : Delta → Delta
asked_of c = record {
  present = c.present;
  absent = without (quad_order id_order) c.absent c.present;
  there = c.there;
  gone = without id_order c.gone c.there;
}

-- it is made of the change's parts
pub asked_is : (c : Delta) (others absent present : List (Quad Id)) (names gone there : List Id)
    → others ≡ without (quad_order id_order) absent present → absent ≡ c.absent → present ≡ c.present
    → names ≡ without id_order gone there → gone ≡ c.gone → there ≡ c.there
    → record c { absent = others; gone = names } ≡ asked_of c
asked_is c others absent present names gone there of_quads a p of_names g t =
    let left = of_quads ∙ (λ i. without (quad_order id_order) (a i) (p i)) in
    let left_names = of_names ∙ (λ i. without id_order (g i) (t i)) in
    λ i. record { present = c.present; absent = left i; there = c.there; gone = left_names i }

-- what a change really changes
pub least_is : (change c : Delta) (d : View) → IsDataset d → IsNewOf change (asked_of c) d → change ≡ difference d (applied c d)
unfolding applied
least_is change c d h told =
    let Q = quad_order id_order in
    let qt = quad_total id_total in
    let qe = quad_exact id_order id_exact in
    let present = told.present ∙ new_is qt qe d.quads c.absent c.present in
    let absent = told.absent ∙ lost_is qt qe d.quads c.absent c.present h.quads in
    let there = told.there ∙ new_is id_total id_exact d.names c.gone c.there in
    let gone = told.gone ∙ lost_is id_total id_exact d.names c.gone c.there h.names in
    λ i. record { present = present i; absent = absent i; there = there i; gone = gone i }
