-- The order of numbers of terms: known terms by number, then made nodes by their four numbers.
-- Orders that tell any two values apart.
use Rattle.std.specs.Prelude.{◌≡◌, List, [], ◌∷◌, Option, Some, None, refl}
use Rattle.std.proofs.Common.{ap, sym, ◌∙◌}
use Rattle.std.proofs.lemmas.Bool.{false≢true}
use Rattle.std.proofs.lemmas.Map.Lookups.{exact_unsigned}
use Rattle.std.specs.declared.cmp.Ordering.{Ordering}
use Rattle.std.specs.declared.cmp.Ordering.TheVariants.{Less, Equal, Greater}
use Rattle.std.specs.Ordering.{ordering_then, nat_cmp, is_eq}
use Rattle.std.specs.Option.{option_cmp}
use Rattle.std.specs.Cmp.Lexicographic.{slice_cmp, options_total}
use Rattle.datasets.specs.declared.id.Id.{Id}
use Rattle.datasets.specs.declared.quad.Quad.{Quad}
use Rattle.datasets.specs.Dataset.{quad_order}
use Rattle.datasets.specs.declared.id.Id.TheVariants.{Known, Made}
use Rattle.datasets.specs.contracts.id.IdOrd.TheImpl as id_ord
use Rattle.datasets.specs.contracts.id.IdOrd.TheImpl.Laws.{total-law}
use Rattle.std.specs.Cmp.{IsTotalOrder, then_total, on_total}

-- what the derived `cmp` answers
abbrev pub id_order : Id → Id → Ordering
id_order = (id_ord.ghosts).cmp

-- that order, by cases
abbrev pub order_by_cases : Id → Id → Ordering
order_by_cases (Known a) (Known b) = nat_cmp a b
order_by_cases (Known a) (Made r o l s) = Less
order_by_cases (Made r o l s) (Known b) = Greater
order_by_cases (Made r o l s) (Made r' o' l' s') = ordering_then (nat_cmp r r') (ordering_then (nat_cmp o o') (ordering_then (nat_cmp l l') (nat_cmp s s')))

pub id_order_is : (a b : Id) → id_order a b ≡ order_by_cases a b
id_order_is (Known a) (Known b) = refl
id_order_is (Known a) (Made r o l s) = refl
id_order_is (Made r o l s) (Known b) = refl
id_order_is (Made r o l s) (Made r' o' l' s') = refl

pub id_total : IsTotalOrder id_order
id_total = total-law

-- ---- orders that tell any two values apart

pub then_first : (a b : Ordering) → ordering_then a b ≡ Equal → a ≡ Equal
then_first Less b e = e
then_first Equal b e = refl
then_first Greater b e = e

pub then_second : (a b : Ordering) → ordering_then a b ≡ Equal → b ≡ Equal
then_second Less b e = absurd (false≢true (ap is_eq e))
then_second Equal b e = e
then_second Greater b e = absurd (false≢true (ap is_eq e))

module _ {A : Type 0} (R : A → A → Ordering) (exact : (x y : A) → R x y ≡ Equal → x ≡ y) where
  pub option_exact : (x y : Option A) → option_cmp R x y ≡ Equal → x ≡ y
  option_exact None None e = refl
  option_exact None (Some y) e = absurd (false≢true (ap is_eq e))
  option_exact (Some x) None e = absurd (false≢true (ap is_eq e))
  option_exact (Some x) (Some y) e = ap Some (exact x y e)

  pub list_exact : (xs ys : List A) → slice_cmp R xs ys ≡ Equal → xs ≡ ys
  list_exact [] [] e = refl
  list_exact [] (y ∷ ys) e = absurd (false≢true (ap is_eq e))
  list_exact (x ∷ xs) [] e = absurd (false≢true (ap is_eq e))
  list_exact (x ∷ xs) (y ∷ ys) e =
      let first : x ≡ y = exact x y (then_first _ _ e) in
      let rest : xs ≡ ys = list_exact xs ys (then_second (R x y) _ e) in
      λ i. first i ∷ rest i

module _ {A : Type 0} (R : A → A → Ordering) (exact : (x y : A) → R x y ≡ Equal → x ≡ y) where
  pub quad_exact : (a b : Quad A) → quad_order R a b ≡ Equal → a ≡ b
  quad_exact a b e =
      let e1 = then_second (R a.subject b.subject) _ e in
      let e2 = then_second (R a.predicate b.predicate) _ e1 in
      let p : a.subject ≡ b.subject = exact _ _ (then_first _ _ e) in
      let q : a.predicate ≡ b.predicate = exact _ _ (then_first _ _ e1) in
      let u : a.object ≡ b.object = exact _ _ (then_first _ _ e2) in
      let v : a.graph ≡ b.graph = option_exact R exact _ _ (then_second (R a.object b.object) _ e2) in
      λ i. record { subject = p i; predicate = q i; object = u i; graph = v i }

pub quad_total : {A : Type 0} {R : A → A → Ordering} → IsTotalOrder R → IsTotalOrder (quad_order R)
quad_total o =
    then_total (on_total (λ (q : Quad _). q.subject) o)
    (then_total (on_total (λ (q : Quad _). q.predicate) o)
    (then_total (on_total (λ (q : Quad _). q.object) o) (on_total (λ (q : Quad _). q.graph) (options_total o))))

pub cases_exact : (a b : Id) → order_by_cases a b ≡ Equal → a ≡ b
cases_exact (Known a) (Known b) e = ap Known (exact_unsigned a b e)
cases_exact (Known a) (Made r o l s) e = absurd (false≢true (ap is_eq e))
cases_exact (Made r o l s) (Known b) e = absurd (false≢true (ap is_eq e))
cases_exact (Made r o l s) (Made r' o' l' s') e =
    let e1 = then_second (nat_cmp r r') _ e in
    let e2 = then_second (nat_cmp o o') _ e1 in
    let p : r ≡ r' = exact_unsigned r r' (then_first _ _ e) in
    let q : o ≡ o' = exact_unsigned o o' (then_first _ _ e1) in
    let u : l ≡ l' = exact_unsigned l l' (then_first _ _ e2) in
    let v : s ≡ s' = exact_unsigned s s' (then_second (nat_cmp l l') _ e2) in
    λ i. Made (p i) (q i) (u i) (v i)

pub id_exact : (a b : Id) → id_order a b ≡ Equal → a ≡ b
id_exact a b e = cases_exact a b (sym (id_order_is a b) ∙ e)
