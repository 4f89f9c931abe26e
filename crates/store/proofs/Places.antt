-- Numbers at places.
use Rattle.std.specs.Prelude.{Bool, ◌&&◌, nat_lt, map, slice_index_or}
use Rattle.std.proofs.Common.{◌≡◌, ℕ, zero, suc, ◌<◌, true, List, [], ◌∷◌, length, Option, Some, None, refl, sym, ap, ◌∙◌, arith}
use Rattle.std.specs.List.{list_all}
use Rattle.std.specs.Option.{option_map}
use Rattle.std.proofs.lemmas.Bool.{and_parts, and_from, ltb-true}
use Rattle.std.proofs.lemmas.List.{length-map, get_or-map}
use Rattle.terms.specs.declared.term.Term.{Term}
use Rattle.terms.specs.declared.term.Term.TheVariants as term
use Rattle.terms.specs.Placed.{term_at, quad_at, is_within, is_name_within, is_quad_within}
use Rattle.datasets.specs.declared.id.Id.{Id}
use Rattle.datasets.specs.declared.id.Id.TheVariants.{Known}
use Rattle.datasets.specs.declared.quad.Quad.{Quad}
use Rattle.dict.specs.Dictionary.{term_of, is_known}
use Rattle.meaning_laws.specs.Renaming.{renamed_quad, quad_known, option_known}
use Rattle.store.specs.Tables.{number_at, numbers_at}

pub all_at : {A : Type 0} (p : A → Bool) (xs : List A) (i : ℕ) (d : A) → list_all p xs ≡ true → i < length xs → p (slice_index_or xs i d) ≡ true
all_at p [] i d h lt = absurd (omega (arith, lt))
all_at p (x ∷ xs) zero d h lt = (and_parts (p x) (list_all p xs) h).0
all_at p (x ∷ xs) (suc i) d h lt = all_at p xs i d (and_parts (p x) (list_all p xs) h).1 (omega (arith, lt))

-- ---- the numbers of a list of terms, by its places
module _ (dict terms : List Term) (ids : List Id) (are : map (term_of dict) ids ≡ terms) (known : list_all (is_known dict) ids ≡ true) where
  within_is : (p : ℕ) → is_within ids p ≡ is_within terms p
  within_is p = ap (nat_lt p) (sym (length-map ids (term_of dict)) ∙ ap length are)

  number_is : (p : ℕ) → is_within terms p ≡ true → term_of dict (number_at ids p) ≡ term_at terms p
  number_is p h =
      sym (get_or-map (term_of dict) ids p (Known 0) (term.Made 0 0 0 0) (ltb-true p (length ids) (within_is p ∙ h))) ∙ ap (λ ts. term_at ts p) are

  number_known : (p : ℕ) → is_within terms p ≡ true → is_known dict (number_at ids p) ≡ true
  number_known p h = all_at (is_known dict) ids p (Known 0) known (ltb-true p (length ids) (within_is p ∙ h))

  name_within_is : (n : Option ℕ) → is_name_within ids n ≡ is_name_within terms n
  name_within_is None = refl
  name_within_is (Some p) = within_is p

  name_is : (n : Option ℕ) → is_name_within terms n ≡ true → option_map (term_of dict) (option_map (number_at ids) n) ≡ option_map (term_at terms) n
  name_is None h = refl
  name_is (Some p) h = ap Some (number_is p h)

  name_known : (n : Option ℕ) → is_name_within terms n ≡ true → option_known (is_known dict) (option_map (number_at ids) n) ≡ true
  name_known None h = refl
  name_known (Some p) h = number_known p h

  pub quads_within : (quads : List (Quad ℕ)) → list_all (is_quad_within ids) quads ≡ list_all (is_quad_within terms) quads
  quads_within [] = refl
  quads_within (q ∷ qs) =
      λ i. (within_is q.subject i && (within_is q.predicate i && (within_is q.object i && name_within_is q.graph i))) && quads_within qs i

  pub names_within : (names : List ℕ) → list_all (is_within ids) names ≡ list_all (is_within terms) names
  names_within [] = refl
  names_within (n ∷ ns) = λ i. within_is n i && names_within ns i

  quad_is : (q : Quad ℕ) → is_quad_within terms q ≡ true → (renamed_quad (term_of dict) (numbers_at ids q) ≡ quad_at terms q) × (quad_known (is_known dict) (numbers_at ids q) ≡ true)
  quad_is q h =
      let s = and_parts (is_within terms q.subject) _ h in
      let p = and_parts (is_within terms q.predicate) _ s.1 in
      let o = and_parts (is_within terms q.object) _ p.1 in
      let es = number_is q.subject s.0 in
      let ep = number_is q.predicate p.0 in
      let eo = number_is q.object o.0 in
      let eg = name_is q.graph o.1 in (
        (λ i. record { subject = es i; predicate = ep i; object = eo i; graph = eg i }),
        and_from (is_known dict (number_at ids q.subject)) _ (number_known q.subject s.0)
            (and_from (is_known dict (number_at ids q.predicate)) _ (number_known q.predicate p.0)
            (and_from (is_known dict (number_at ids q.object)) _ (number_known q.object o.0) (name_known q.graph o.1))),
      )

  pub quads_are : (quads : List (Quad ℕ)) → list_all (is_quad_within terms) quads ≡ true
      → (map (renamed_quad (term_of dict)) (map (numbers_at ids) quads) ≡ map (quad_at terms) quads) × (list_all (quad_known (is_known dict)) (map (numbers_at ids) quads) ≡ true)
  quads_are [] h = (refl, refl)
  quads_are (q ∷ qs) h =
      let parts = and_parts (is_quad_within terms q) _ h in
      let first = quad_is q parts.0 in
      let rest = quads_are qs parts.1 in
      ((λ i. first.0 i ∷ rest.0 i), and_from (quad_known (is_known dict) (numbers_at ids q)) _ first.1 rest.1)

  pub names_are : (names : List ℕ) → list_all (is_within terms) names ≡ true
      → (map (term_of dict) (map (number_at ids) names) ≡ map (term_at terms) names) × (list_all (is_known dict) (map (number_at ids) names) ≡ true)
  names_are [] h = (refl, refl)
  names_are (n ∷ ns) h =
      let parts = and_parts (is_within terms n) _ h in
      let first = number_is n parts.0 in
      let rest = names_are ns parts.1 in
      ((λ i. first i ∷ rest.0 i), and_from (is_known dict (number_at ids n)) _ (number_known n parts.0) rest.1)
