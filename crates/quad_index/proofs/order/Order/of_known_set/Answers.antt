use Rattle.std.proofs.Common.{◌≡◌, length, map, arith}
use Rattle.std.proofs.lemmas.List.{length-map}
use Rattle.quad_lists.specs.Known.{quad_of}
use Rattle.quad_index.proofs.Orders.{set_by_places}
use Rattle.quad_index.proofs.order.Order.of_known_set.Goals as goal

pub invariant_of-result : goal.invariant_of-result
invariant_of-result c =
    let e = c.if-len-ge4611686018427387904.false in
    let many : length (map quad_of c.args.known.items) ≡ length c.args.known.items = length-map c.args.known.items quad_of in
    record {
      sorted = set_by_places (map quad_of c.args.known.items) c.requires;
      short = omega (arith, e, many, c.len.ensures);
    }
