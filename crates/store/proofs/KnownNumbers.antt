-- Quads at the numbers of known terms.
use Rattle.std.specs.Option.{option_map}
use Rattle.std.specs.List.{list_all}
use Rattle.std.proofs.Common.{◌≡◌, ◌<◌, ℕ, zero, suc, true, List, [], ◌∷◌, length, map, get_or, Option, None, Some, refl, ap, ◌∙◌, arith}
use Rattle.std.proofs.lemmas.Bool.{false≢true, and_parts}
use Rattle.datasets.specs.declared.id.Id.{Id}
use Rattle.datasets.specs.declared.id.Id.TheVariants.{Known, Made}
use Rattle.datasets.specs.declared.quad.Quad.{Quad}
use Rattle.quad_lists.specs.declared.known.KnownQuad.{KnownQuad}
use Rattle.quad_lists.specs.Known.{quad_of, known_graph}
use Rattle.store.specs.Tables.{number_at, numbers_at, is_number, number_of, known_at}

number_back : (id : Id) → is_number id ≡ true → Known (number_of id) ≡ id
number_back (Known n) e = refl
number_back (Made r o l s) e = absurd (false≢true e)

all_at : (ids : List Id) → list_all is_number ids ≡ true → (place : ℕ) → is_number (number_at ids place) ≡ true
all_at [] e place = refl
all_at (x ∷ xs) e zero = (and_parts _ _ e).0
all_at (x ∷ xs) e (suc place) = all_at xs (and_parts _ _ e).1 place

module _ (ids : List Id) (all : list_all is_number ids ≡ true) where
  back : (place : ℕ) → Known (number_of (number_at ids place)) ≡ number_at ids place
  back place = number_back (number_at ids place) (all_at ids all place)

  graph_back : (name : Option ℕ) → known_graph (option_map (λ place. number_of (number_at ids place)) name) ≡ option_map (number_at ids) name
  graph_back None = refl
  graph_back (Some place) = ap Some (back place)

  quad_back : (q : Quad ℕ) → quad_of (known_at ids q) ≡ numbers_at ids q
  quad_back q = λ i. record { subject = back q.subject i; predicate = back q.predicate i; object = back q.object i; graph = graph_back q.graph i }

  -- as many as there are quads, each that of the one at its place
  pub known_are : (quads : List (Quad ℕ)) (known : List KnownQuad) → length known ≡ length quads
      → ((k : ℕ) (d : Quad ℕ) (e : KnownQuad) → k < length quads → get_or known k e ≡ known_at ids (get_or quads k d))
      → map quad_of known ≡ map (numbers_at ids) quads
  known_are [] [] long each = refl
  known_are [] (k ∷ ks) long each = absurd (omega (arith, long))
  known_are (q ∷ qs) [] long each = absurd (omega (arith, long))
  known_are (q ∷ qs) (k ∷ ks) long each =
      let first = ap quad_of (each 0 q k (omega arith)) ∙ quad_back q in
      let rest = known_are qs ks (omega (arith, long)) (λ n d e lt. each (suc n) d e (omega (arith, lt))) in
      λ i. first i ∷ rest i
