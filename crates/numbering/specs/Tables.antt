-- Tables that take a dictionary's numbers to places in another list of terms.
use Rattle.std.specs.Prelude.{◌≡◌, ◌++◌, ℕ, true, List, map}
use Rattle.std.specs.List.{list_all}
use Rattle.datasets.specs.declared.id.Id.{Id}
use Rattle.datasets.specs.declared.quad.Quad.{Quad}
use Rattle.terms.specs.declared.term.Term.{Term}
use Rattle.terms.specs.Placed.{term_at, quad_at, is_within, is_quad_within, GoesOn}
use Rattle.dict.specs.Dictionary.{term_of, is_known}
use Rattle.quad_lists.specs.declared.known.KnownQuad.{KnownQuad}
use Rattle.meaning_laws.specs.Renaming.{renamed_quad, quad_known}

-- quads by places of a table stand for these quads of numbers
pub record StandFor (terms table : List Term) (placed : List (Quad ℕ)) (quads : List (Quad Id)) : Type 0 where
  pub each : map (quad_at table) placed ≡ map (renamed_quad (term_of terms)) quads
  pub within : list_all (is_quad_within table) placed ≡ true

-- places that stood for quads stand for these too, by another table and list of places, whatever
-- dictionary they stood for
abbrev pub StandsForMore : List Term → List (Quad ℕ) → List Term → List (Quad ℕ) → List (Quad Id) → Type 0
StandsForMore table placed after more quads = (terms : List Term) (done : List (Quad Id)) → GoesOn terms table → list_all (quad_known (is_known terms)) quads ≡ true
    → StandFor terms table placed done → StandFor terms after more (done ++ quads)

-- and names for these numbers
pub record NamesStandFor (terms table : List Term) (placed : List ℕ) (names : List Id) : Type 0 where
  pub each : map (term_at table) placed ≡ map (term_of terms) names
  pub within : list_all (is_within table) placed ≡ true

-- the places of the terms of a quad of known terms, where these are the terms of a dictionary
abbrev pub places_of : KnownQuad → Quad ℕ
places_of q = record { subject = q.subject; predicate = q.predicate; object = q.object; graph = q.graph }
