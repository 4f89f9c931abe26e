-- The dictionary of collected terms holds what they were collected from.
use Rattle.std.proofs.Common.{◌≡◌, Bool, true, false, List, [], ◌∷◌, ◌++◌, refl, sym, ap, ◌∙◌}
use Rattle.std.specs.Prelude.{◌||◌, ◌&&◌, not, filter}
use Rattle.std.specs.List.{list_all}
use Rattle.std.specs.Ordering.{eq_by_cmp, is_eq}
use Rattle.std.specs.Cmp.{tied_itself}
use Rattle.std.proofs.lemmas.Bool.{and_parts, and_from, or_right}
use Rattle.sets.specs.Sets.{set_of, has}
use Rattle.sets.proofs.SetLaws.{has-set_of, has-filter}
use Rattle.terms.specs.Term.{term_order}
use Rattle.terms.specs.TermLaws.{term_total, term_exact}
use Rattle.terms.specs.declared.term.Term.{Term}
use Rattle.dict.specs.Dictionary.{is_written}
use Rattle.store.specs.Held.{is_held}

all_such : (p : Term → Bool) (xs : List Term) → ((t : Term) → has term_order xs t ≡ true → p t ≡ true) → list_all p xs ≡ true
all_such p [] f = refl
all_such p (x ∷ xs) f =
    and_from (p x) (list_all p xs) (f x (ap (λ r. is_eq r || has term_order xs x) (tied_itself term_total x)))
    (all_such p xs (λ t h. f t (or_right (eq_by_cmp term_order t x) (has term_order xs t) h)))

-- it is made, or written and among these
made_or_among : (b c : Bool) → c ≡ true → (not b || (c && b)) ≡ true
made_or_among true true h = refl
made_or_among false c h = refl
made_or_among true false h = h

-- all that is collected is held
pub all_held : (found : List Term) → list_all (is_held (set_of term_order (filter is_written found))) found ≡ true
all_held found =
    all_such (is_held (set_of term_order (filter is_written found))) found (λ t h.
    ap (λ b. not (is_written t) || b) (has-set_of term_total t (filter is_written found) ∙ has-filter term_total term_exact is_written t found)
    ∙ made_or_among (is_written t) (has term_order found t) h)

module _ (p : Term → Bool) where
  pub all_parts : (xs ys : List Term) → list_all p (xs ++ ys) ≡ true → (list_all p xs ≡ true) × (list_all p ys ≡ true)
  all_parts [] ys h = (refl, h)
  all_parts (x ∷ xs) ys h =
      let parts = and_parts (p x) (list_all p (xs ++ ys)) h in
      let rest = all_parts xs ys parts.1 in
      (and_from (p x) (list_all p xs) parts.0 rest.0, rest.1)

-- the parts of what was collected from two lists of terms
pub both_held : (found terms more others : List Term) → found ≡ more ++ others → terms ≡ set_of term_order (filter is_written found)
    → (list_all (is_held terms) more ≡ true) × (list_all (is_held terms) others ≡ true)
both_held found terms more others made frozen =
    let held : list_all (is_held terms) found ≡ true = ap (λ (ts : List Term). list_all (is_held ts) found) frozen ∙ all_held found in
    all_parts (is_held terms) more others (sym (ap (λ (ts : List Term). list_all (is_held terms) ts) made) ∙ held)
