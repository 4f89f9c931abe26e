-- Quads in pieces that stand one behind another.
use Rattle.std.specs.Prelude.{List}
use Rattle.std.specs.List.{flat_map}
use Rattle.datasets.specs.declared.id.Id.{Id}
use Rattle.datasets.specs.declared.quad.Quad.{Quad}

-- the quads of all pieces, one after another
abbrev pub quads_in_pieces : List (List (Quad Id)) → List (Quad Id)
quads_in_pieces pieces = flat_map (λ piece. piece) pieces
