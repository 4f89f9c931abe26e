use Rattle.std.proofs.Common.{◌≡◌, ◌+◌, ◌<◌, ◌^◌, arith}
use Rattle.nquads.specs.Portions.{as_one, ends_of, ends_in}
use Rattle.nquads.proofs.PortionLaws.{ends_as_one}
use Rattle.nquads.proofs.pieces.ReadLines.ends.Goals as goal

pub ends_in-requires : goal.ends_in-requires
ends_in-requires c =
    let all : ends_of (as_one c.args.self.now) ≡ ends_of c.args.self.now.front + ends_in c.in-Some.pieces = ends_as_one _ _ _ c.in-Some.is in
    let few : ends_of (as_one c.args.self.now) < 2 ^ 64 = c.requires in
    omega arith

pub overflow_add-result : goal.overflow_add-result
overflow_add-result c =
    let all : ends_of (as_one c.args.self.now) ≡ ends_of c.args.self.now.front + ends_in c.in-Some.pieces = ends_as_one _ _ _ c.in-Some.is in
    let few : ends_of (as_one c.args.self.now) < 2 ^ 64 = c.requires in
    let before : c.lines_before-before.result ≡ ends_of c.args.self.now.front = c.lines_before-before.ensures in
    let more : c.ends_in.result ≡ ends_in c.in-Some.pieces = c.ends_in.ensures in
    omega arith

pub returns-in-Some : goal.returns-in-Some
returns-in-Some c =
    let all : ends_of (as_one c.args.self.now) ≡ ends_of c.args.self.now.front + ends_in c.in-Some.pieces = ends_as_one _ _ _ c.in-Some.is in
    let before : c.lines_before-before.result ≡ ends_of c.args.self.now.front = c.lines_before-before.ensures in
    let more : c.ends_in.result ≡ ends_in c.in-Some.pieces = c.ends_in.ensures in
    omega arith
