-- Quads and names by places in a list of terms.
use Rattle.std.specs.Prelude.{◌≡◌, ℕ, Bool, true, ◌&&◌, nat_lt, List, ◌++◌, Option, Some, None, length, map, slice_index, slice_index_or, IfSome}
use Rattle.std.specs.List.{list_all}
use Rattle.std.specs.Option.{option_map}
use Rattle.datasets.specs.declared.quad.Quad.{Quad}
use Rattle.datasets.specs.Dataset.{Dataset}
use Rattle.terms.specs.declared.term.Term.{Term}
use Rattle.terms.specs.declared.term.Term.TheVariants as term
use Rattle.terms.specs.DataSet.{dataset_of}

-- the term at a place of the list, and the quad of the terms at its places
abbrev pub term_at : List Term → ℕ → Term
term_at terms place = slice_index_or terms place (term.Made 0 0 0 0)

abbrev pub quad_at : List Term → Quad ℕ → Quad Term
quad_at terms q = record { subject = term_at terms q.subject; predicate = term_at terms q.predicate; object = term_at terms q.object; graph = option_map (term_at terms) q.graph }

-- whether the list has these places
abbrev pub is_within : {A : Type 0} → List A → ℕ → Bool
is_within terms place = nat_lt place (length terms)

abbrev pub is_name_within : {A : Type 0} → List A → Option ℕ → Bool
is_name_within terms None = true
is_name_within terms (Some place) = is_within terms place

abbrev pub is_quad_within : {A : Type 0} → List A → Quad ℕ → Bool
is_quad_within terms q = is_within terms q.subject && (is_within terms q.predicate && (is_within terms q.object && is_name_within terms q.graph))

abbrev pub AreWithin : {A : Type 0} → List A → List (Quad ℕ) → List ℕ → Type 0
AreWithin terms quads names = (list_all (is_quad_within terms) quads ≡ true) × (list_all (is_within terms) names ≡ true)

-- the dataset of the quads and names at these places
abbrev pub dataset_at : List Term → List (Quad ℕ) → List ℕ → Dataset Term
dataset_at terms quads names = dataset_of (map (quad_at terms) quads) (map (term_at terms) names)

-- a list of terms that goes on: each term keeps its place
abbrev pub GoesOn : List Term → List Term → Type 0
GoesOn old new = (further : List Term) × (new ≡ old ++ further)

-- each term has one place
abbrev pub AreApart : List Term → Type 0
AreApart terms = (a b : ℕ) → is_within terms a ≡ true → is_within terms b ≡ true → term_at terms a ≡ term_at terms b → a ≡ b

-- the law of going on: each term stays at its place
abbrev pub TermsKeepPlaces : Type 0
TermsKeepPlaces = (old new : List Term) → GoesOn old new → (place : ℕ) → is_within old place ≡ true → (term_at new place ≡ term_at old place) × (is_within new place ≡ true)

-- these places of a list have the terms of another, one after another
abbrev pub AreAt : List Term → List ℕ → List Term → Type 0
AreAt terms places others = (map (term_at terms) places ≡ others) × (list_all (is_within terms) places ≡ true)

-- a term stands at a place of a list, and where it was found if it was
pub record IsAt (terms : List Term) (t : Term) (place : ℕ) : Type 0 where
  pub term : term_at terms place ≡ t
  pub within : is_within terms place ≡ true

abbrev pub IsFoundAt : List Term → Term → Option ℕ → Type 0
IsFoundAt terms t found = IfSome found (IsAt terms t)

-- a quad of numbers of places, with those places
abbrev pub quad_of_places : List ℕ → Quad ℕ → Quad ℕ
quad_of_places places q = record { subject = slice_index places q.subject; predicate = slice_index places q.predicate; object = slice_index places q.object; graph = option_map (slice_index places) q.graph }
