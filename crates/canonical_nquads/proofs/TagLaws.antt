-- The least number that is not taken.
use Rattle.std.proofs.Common.{◌≡◌, ℕ, ◌≤◌, ◌<◌, ◌+◌, Bool, true, false, List, sym, ap, ◌∙◌, inl, inr, arith}
use Rattle.std.specs.List.{list_any}
use Rattle.std.proofs.lemmas.Bool.{false≢true, cases_lt}
use Rattle.sets.specs.Sets.{set_of}
use Rattle.datasets.specs.declared.quad.Quad.{Quad}
use Rattle.datasets.specs.Dataset.{Dataset, quad_order}
use Rattle.terms.specs.declared.term.Term.{Term}
use Rattle.terms.specs.Term.{term_order}
use Rattle.canonical_nquads.specs.Tag.{mark_of, is_marked, is_taken, IsTagOf}

module _ (alike : (test : Quad Term → Bool) (quads : List (Quad Term)) → list_any test (set_of (quad_order term_order) quads) ≡ list_any test quads) where
  -- a dataset and any list of its quads
  pub same_taken : (d : Dataset Term) (quads : List (Quad Term)) (n : ℕ) → set_of (quad_order term_order) quads ≡ d.quads → is_taken d.quads n ≡ is_taken quads n
  same_taken d quads n e = ap (λ qs. is_taken qs n) (sym e) ∙ alike (is_marked (mark_of n)) quads

-- the least number that is not taken
pub tag_is : (d : Dataset Term) (tag : ℕ) → 1 ≤ tag → is_taken d.quads tag ≡ false → ((n : ℕ) → 1 ≤ n → n < tag → is_taken d.quads n ≡ true) → IsTagOf d tag
tag_is d tag positive free taken = record {
  positive = positive;
  free = free;
  least = λ n low f. elim (cases_lt n tag) as (λ _. tag ≤ n) [ inl h ↦ absurd (false≢true (sym f ∙ taken n low h)) | inr h ↦ h ];
}

-- one more number is taken
pub taken_further : (quads : List (Quad Term)) (tag : ℕ) → ((n : ℕ) → 1 ≤ n → n < tag → is_taken quads n ≡ true) → is_taken quads tag ≡ true
    → (n : ℕ) → 1 ≤ n → n < tag + 1 → is_taken quads n ≡ true
taken_further quads tag before here n low lt = elim (cases_lt n tag) as (λ _. is_taken quads n ≡ true) [
  | inl h ↦ before n low h
  | inr h ↦ ap (is_taken quads) (let same : n ≡ tag = omega (arith, lt, h) in same) ∙ here
]
