-- Labels in the order in which they appear, and the declaration of a prefix that counts.
use Rattle.std.specs.Prelude.{ℕ, not, List, [], ◌∷◌, filter, bytes_eq, Option, None}
use Rattle.std.specs.List.{fold, last_or}
use Rattle.std.specs.Option.{option_map}
use Rattle.names.specs.Names.{Prefixes, declare}

-- each text once, where it first appears
abbrev pub distinct : List (List ℕ) → List (List ℕ)
distinct [] = []
distinct (t ∷ ts) = t ∷ filter (λ u. not (bytes_eq t u)) (distinct ts)

-- the IRI of the last declaration of a prefix, among prefixes with their IRIs
abbrev pub last_iri : List (List ℕ × List ℕ) → List ℕ → Option (List ℕ)
last_iri declarations prefix = option_map (λ d. d.1) (last_or None (filter (λ d. bytes_eq prefix d.0) declarations))

-- the prefixes after these declarations, one after another
abbrev pub after_declarations : List (List ℕ × List ℕ) → Prefixes
after_declarations declarations = fold (λ known d. declare d.0 d.1 known) [] declarations
