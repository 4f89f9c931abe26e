-- The table that takes places in a list of terms to numbers.
use Rattle.std.specs.Prelude.{ℕ, Bool, true, false, List, slice_index_or}
use Rattle.std.specs.Option.{option_map}
use Rattle.datasets.specs.declared.id.Id.{Id}
use Rattle.datasets.specs.declared.id.Id.TheVariants.{Known, Made}
use Rattle.datasets.specs.declared.quad.Quad.{Quad}
use Rattle.quad_lists.specs.declared.known.KnownQuad.{KnownQuad}

-- the number that stands at a place, and the quad of the numbers at its places
abbrev pub number_at : List Id → ℕ → Id
number_at ids place = slice_index_or ids place (Known 0)

abbrev pub numbers_at : List Id → Quad ℕ → Quad Id
numbers_at ids q = record { subject = number_at ids q.subject; predicate = number_at ids q.predicate; object = number_at ids q.object; graph = option_map (number_at ids) q.graph }

-- whether it is the number of a known term, and that number
abbrev pub is_number : Id → Bool
is_number (Known n) = true
is_number (Made r o l s) = false

abbrev pub number_of : Id → ℕ
number_of (Known n) = n
number_of (Made r o l s) = 0

-- the quad of the numbers of known terms at its places
abbrev pub known_at : List Id → Quad ℕ → KnownQuad
known_at ids q =
    record { subject = number_of (number_at ids q.subject); predicate = number_of (number_at ids q.predicate); object = number_of (number_at ids q.object); graph = option_map (λ place. number_of (number_at ids place)) q.graph }
