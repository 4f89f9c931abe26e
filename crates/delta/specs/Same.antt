-- The test for equal changes at numbers of terms.
use Rattle.std.specs.Prelude.{Bool, ◌&&◌}
use Rattle.reads.specs.Reads.{Delta}
use Rattle.reads.specs.Same.{quads_eq, names_eq}

abbrev pub delta_eq : Delta → Delta → Bool
delta_eq a b = quads_eq a.present b.present && (quads_eq a.absent b.absent && (names_eq a.there b.there && names_eq a.gone b.gone))
