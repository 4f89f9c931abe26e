-- Terms that are each put into a set, and lists of a table's terms.
use Rattle.std.specs.Prelude.{map, Result, Ok, Err, IfOk, IfSome}
use Rattle.std.specs.declared.alloc.AllocError.{AllocError}
use Rattle.std.specs.Result.{result_ok}
use Rattle.std.proofs.Common.{◌≡◌, ℕ, zero, suc, Option, Some, None, subst, ◌+◌, ◌<◌, Bool, true, false, List, [], ◌∷◌, ◌++◌, length, take, refl, sym, ap, ◌∙◌, arith, get_or, if◌then◌else◌}
use Rattle.std.specs.List.{list_any, list_all, AllZip, position}
use Rattle.std.specs.Ordering.{eq_by_cmp}
use Rattle.std.proofs.lemmas.Bool.{lt-ltb}
use Rattle.std.proofs.lemmas.List.{take_more, get_or-take, get_or_default, length-take, append-nil}
use Rattle.std.proofs.lemmas.List.Folds.{Any-from_list_any}
use Rattle.std.proofs.lemmas.List.Quantifiers.{position-Some}
use Rattle.indexmap.specs.IndexSet.{insert_key}
use Rattle.terms.specs.declared.term.Term.{Term}
use Rattle.terms.specs.declared.term.Term.TheVariants as term
use Rattle.terms.specs.Term.{term_order}
use Rattle.terms.specs.Hashed.{equal_terms}
use Rattle.terms.specs.Placed.{term_at, is_within, AreApart, AreAt, GoesOn, IsAt, IsFoundAt}
use Rattle.terms.proofs.PlacedLaws.{further, term_kept, within_kept}
use Rattle.terms.proofs.UniteLaws.{one_more, one_more_within}

module _ (terms : List Term) (i : ℕ) (t : Term) (apart : AreApart terms) (lt : i < length terms) (is : t ≡ get_or terms i t) where
  -- a term is none of those before it
  new_there : list_any (eq_by_cmp term_order t) (take i terms) ≡ true → i < i
  new_there h =
      let found = Any-from_list_any (eq_by_cmp term_order t) (take i terms) h in
      let k : ℕ = found.0 in
      let x : Term = found.1 in
      let below : k < i = omega (arith, found.2, length-take i terms) in
      let within : k < length terms = omega (arith, below, lt) in
      let made : Term = term.Made 0 0 0 0 in
      let there : get_or terms k made ≡ t =
      get_or_default terms k made x within ∙ sym (get_or-take i terms k x below) ∙ found.3 ∙ sym (equal_terms t x found.4) in
      let here : get_or terms i made ≡ t = get_or_default terms i made t lt ∙ sym is in
      let same : k ≡ i = apart k i (lt-ltb k (length terms) within) (lt-ltb i (length terms) lt) (there ∙ sym here) in
      omega (arith, below, same)

  by_test : (b : Bool) → list_any (eq_by_cmp term_order t) (take i terms) ≡ b → insert_key (eq_by_cmp term_order) (take i terms) t ≡ take (i + 1) terms
  by_test true e = absurd (omega (arith, new_there e))
  by_test false e =
      ap (λ b. if b then take i terms else take i terms ++ t ∷ []) e ∙ ap (λ x. take i terms ++ x ∷ []) is ∙ sym (take_more terms i t lt)

  -- so it is put in behind them
  pub next_is_put : (copy : Term) (old new : List Term) → copy ≡ t → old ≡ take i terms → new ≡ insert_key (eq_by_cmp term_order) old copy → new ≡ take (i + 1) terms
  next_is_put copy old new same done put =
      put ∙ (λ j. insert_key (eq_by_cmp term_order) (done j) (same j)) ∙ by_test (list_any (eq_by_cmp term_order t) (take i terms)) refl

-- ---- terms that are looked for in a table

kept_at : (old now : List Term) → GoesOn old now → (t : Term) (found : Option ℕ) → IsFoundAt old t found → IsFoundAt now t found
kept_at old now on t None h = tt
kept_at old now on t (Some place) h = record { term = term_kept old now on place h.within ∙ h.term; within = within_kept old now on place h.within }

zipped_at : (old : List Term) (terms : List Term) (found : List (Option ℕ)) → AllZip (IsFoundAt old) terms found → (i : ℕ) (d : Term) → i < length terms
    → IsFoundAt old (get_or terms i d) (get_or found i None)
zipped_at old [] found h i d lt = absurd (omega (arith, lt))
zipped_at old (t ∷ ts) [] h i d lt = absurd h
zipped_at old (t ∷ ts) (o ∷ os) h zero d lt = h.0
zipped_at old (t ∷ ts) (o ∷ os) h (suc i) d lt = zipped_at old ts os h.1 i d (omega (arith, lt))

-- where a term of the list was found, though the table went on
pub found_at : (old now : List Term) → GoesOn old now → (terms : List Term) (found : List (Option ℕ)) → AllZip (IsFoundAt old) terms found → (i : ℕ) (t : Term) → i < length terms → t ≡ get_or terms i t
    → IsFoundAt now t (get_or found i None)
found_at old now on terms found h i t lt is =
    kept_at old now on t (get_or found i None) (subst (λ x. IsFoundAt old x (get_or found i None)) (sym is) (zipped_at old terms found h i t lt))

-- one more of the list has its place
pub placed_more : (old now new : List Term) → GoesOn old now → GoesOn now new → (terms : List Term) (places after : List ℕ) (i place : ℕ) (t : Term)
    → i < length terms → t ≡ get_or terms i t → after ≡ places ++ place ∷ [] → term_at new place ≡ t → is_within new place ≡ true → AreAt now places (take i terms)
    → GoesOn old new × AreAt new after (take (i + 1) terms)
placed_more old now new on more terms places after i place t lt is made there within h =
    let whole : take i terms ++ t ∷ [] ≡ take (i + 1) terms = ap (λ x. take i terms ++ x ∷ []) is ∙ sym (take_more terms i t lt) in
    let first = ap (λ ts. ts ++ t ∷ []) h.0 ∙ whole in (
      further old now new on more,
      (
        ap (map (term_at new)) made ∙ sym (append-nil (map (term_at new) (places ++ place ∷ [])))
            ∙ one_more now new more places place t (take (i + 1) terms) (t ∷ []) [] first h.1 refl there,
        ap (list_all (is_within new)) made ∙ one_more_within now new more places place t (take (i + 1) terms) (t ∷ []) [] first h.1 refl within,
      ),
    )

-- where a set finds a term, it stands
pub found_place : (keys : List Term) (t : Term) (place : ℕ) (narrow : Result ℕ AllocError) → Some place ≡ position (eq_by_cmp term_order t) keys → IfOk narrow (λ n. n ≡ place)
    → IfSome (result_ok narrow) (IsAt keys t)
found_place keys t place (Err e) is h = tt
found_place keys t place (Ok n) is h =
    let found = position-Some (eq_by_cmp term_order t) keys place (term.Made 0 0 0 0) (sym is) in
    record {
      term = ap (term_at keys) h ∙ sym (equal_terms t (term_at keys place) found.1);
      within = ap (is_within keys) h ∙ lt-ltb place (length keys) found.0;
    }
