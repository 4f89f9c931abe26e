-- The question whether one quad is there.
use Rattle.std.specs.Prelude.{Some, Bool, true, false, [], ◌∷◌}
use Rattle.datasets.specs.declared.quad.Quad.{Quad}
use Rattle.datasets.specs.declared.read.GraphPlace.TheVariants.{Only}
use Rattle.datasets.specs.declared.read.Read as reading
use Rattle.datasets.specs.declared.read.Read.TheVariants.{Scan}
use Rattle.datasets.specs.Dataset.{Told, Quads}

-- the scan for one quad
abbrev pub scan_for : {K : Type 0} → Quad K → reading.Read K
scan_for q = Scan (record { subject = Some q.subject; predicate = Some q.predicate; object = Some q.object; graph = Only q.graph })

-- its answer: the quad, or nothing
abbrev pub presence : {K : Type 0} → Quad K → Bool → Told K
presence q true = Quads (q ∷ [])
presence q false = Quads []
