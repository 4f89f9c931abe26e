-- The order of numbers is that of their terms.
use Rattle.std.proofs.Common.{◌≡◌, ℕ, zero, suc, ◌<◌, ◌≤◌, true, false, List, [], ◌∷◌, length, get_or, inl, inr, refl, sym, ap, ◌∙◌, arith}
use Rattle.std.specs.Prelude.{◌⊎◌}
use Rattle.std.specs.List.{list_all}
use Rattle.std.specs.declared.cmp.Ordering.TheVariants.{Less, Equal, Greater}
use Rattle.std.specs.Ordering.{ordering_reverse, nat_cmp}
use Rattle.std.specs.Cmp.{nat_cmp_is, tied_itself}
use Rattle.std.proofs.lemmas.Bool.{and_parts}
use Rattle.std.proofs.lemmas.Bool.{cases_lt}
use Rattle.std.proofs.Math.Nat.{eq-or-lt_of_le}
use Rattle.std.proofs.lemmas.Map.Keys.{Less-from_sorted}
use borrow.Author.Tests.{ltb-true}
use Rattle.terms.specs.Term.{term_order}
use Rattle.terms.specs.TermLaws.{term_total}
use Rattle.terms.specs.declared.term.Term.{Term}
use Rattle.terms.specs.declared.term.Term.TheVariants as term
use Rattle.datasets.specs.declared.id.Id.{Id}
use Rattle.datasets.specs.declared.id.Id.TheVariants.{Known, Made}
use Rattle.datasets.specs.Id.{id_order, id_order_is}
use Rattle.meaning_laws.specs.Renaming.{IsRenaming}
use Rattle.dict.specs.Dictionary.{is_written, IsDictionary, term_of, is_known, written, numbers}

written_at : (terms : List Term) (n : ℕ) (d : Term) → list_all is_written terms ≡ true → n < length terms → is_written (get_or terms n d) ≡ true
written_at [] n d h lt = absurd (omega (arith, lt))
written_at (t ∷ ts) zero d h lt = (and_parts (is_written t) (list_all is_written ts) h).0
written_at (t ∷ ts) (suc n) d h lt = written_at ts n d (and_parts (is_written t) (list_all is_written ts) h).1 (omega (arith, lt))

-- what is written comes before what is made
pub before_made : (t : Term) (r o l s : ℕ) → is_written t ≡ true → term_order t (term.Made r o l s) ≡ Less
before_made (term.Iri i) r o l s h = refl
before_made (term.Literal x) r o l s h = refl
before_made (term.Blank b) r o l s h = refl
before_made (term.Made r' o' l' s') r o l s h = absurd (let d : false ≡ true = h in (cc))

module _ (terms : List Term) (dictionary : IsDictionary terms) where
  places : (m n : ℕ) → m < length terms → n < length terms → term_order (term_of terms (Known m)) (term_of terms (Known n)) ≡ nat_cmp m n
  places m n hm hn = cases (cases_lt m n)
    where
      cases_at_least : (n ≡ m) ⊎ (n < m) → term_order (term_of terms (Known m)) (term_of terms (Known n)) ≡ nat_cmp m n
      cases_at_least (inl e) =
          ap (λ k. term_order (term_of terms (Known m)) (term_of terms (Known k))) e ∙ tied_itself term_total (term_of terms (Known m)) ∙ nat_cmp_is m n Equal (sym e)
      cases_at_least (inr gt) =
          term_total.antisymm (term_of terms (Known m)) (term_of terms (Known n))
          ∙ ap ordering_reverse (Less-from_sorted term_order terms n m (term.Made 0 0 0 0) dictionary.rises gt hm) ∙ nat_cmp_is m n Greater gt

      cases : (m < n) ⊎ (n ≤ m) → term_order (term_of terms (Known m)) (term_of terms (Known n)) ≡ nat_cmp m n
      cases (inl lt) = Less-from_sorted term_order terms m n (term.Made 0 0 0 0) dictionary.rises lt hn ∙ nat_cmp_is m n Less lt
      cases (inr ge) = cases_at_least (eq-or-lt_of_le ge)

  order : (x y : Id) → is_known terms x ≡ true → is_known terms y ≡ true → term_order (term_of terms x) (term_of terms y) ≡ id_order x y
  order (Known m) (Known n) hx hy = places m n (ltb-true m (length terms) hx) (ltb-true n (length terms) hy) ∙ sym (id_order_is (Known m) (Known n))
  order (Known m) (Made r o l s) hx hy =
      before_made (term_of terms (Known m)) r o l s (written_at terms m (term.Made 0 0 0 0) dictionary.written (ltb-true m (length terms) hx)) ∙ sym (id_order_is (Known m) (Made r o l s))
  order (Made r o l s) (Known n) hx hy =
      term_total.antisymm (term.Made r o l s) (term_of terms (Known n))
      ∙ ap ordering_reverse (before_made (term_of terms (Known n)) r o l s (written_at terms n (term.Made 0 0 0 0) dictionary.written (ltb-true n (length terms) hy)))
      ∙ sym (id_order_is (Made r o l s) (Known n))
  order (Made r o l s) (Made r' o' l' s') hx hy = sym (id_order_is (Made r o l s) (Made r' o' l' s'))

  pub is_renaming : IsRenaming (numbers terms) written (term_of terms) (is_known terms)
  is_renaming = record {
    order = order;
    iris = λ x h. refl;
    literals = λ x h. refl;
    nodes = λ r o l s. refl;
    nodes_known = λ r o l s. refl;
    passes = λ e m he hm. refl;
  }
