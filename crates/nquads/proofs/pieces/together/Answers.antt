use Rattle.std.proofs.Common.{◌≡◌, ◌+◌, ◌<◌, ◌^◌, arith}
use Rattle.nquads.specs.Portions.{as_one, ends_of, ends_in}
use Rattle.nquads.proofs.PortionLaws.{ends_as_one}
use Rattle.nquads.proofs.pieces.together.Goals as goal

pub and_pieces-requires-after_bounds : goal.and_pieces-requires-after_bounds
and_pieces-requires-after_bounds g c κs within =
    let all : ends_of (as_one c.args.lines) ≡ ends_of c.args.lines.front + ends_in c.in-Some.pieces = ends_as_one _ _ _ c.in-Some.is in
    let few : ends_of (as_one c.args.lines) < 2 ^ 64 = c.requires in
    omega arith
