use Rattle.std.proofs.Common.{◌≡◌, ◌<◌, ◌^◌, arith, subst, ◌∙◌, ap, length}
use Rattle.std.specs.Prelude.{filter}
use Rattle.datasets.specs.declared.id.Id.{Id}
use Rattle.datasets.specs.declared.quad.Quad.{Quad}
use Rattle.std.specs.Ordering.{is_eq}
use Rattle.quad_lists.specs.Keys.{key_of, order_at, is_sought, bounds_of}
use Rattle.quad_index.specs.Sorted.{Sorted}
use Rattle.quad_index.proofs.Looking.{length_part}
use Rattle.quad_index.proofs.Searching.{Between, part_is}
use Rattle.quad_index.proofs.order.Order.part_for.Goals as goal

short : (o p : Sorted) → o ≡ p → length o.quads < 2 ^ 62 → length p.quads < 2 ^ 62
short o p e h = subst (λ (r : Sorted). length r.quads < 2 ^ 62) e h

pub place_of-first-requires-clause-room : goal.place_of-first-requires-clause-room
place_of-first-requires-clause-room c =
    let h = (c.around-around.ensures.looks.1 62 (short _ _ c.self.view_is c.self.invariant.short)).0 in
    let r = c.requires in
    omega arith

pub place_of-past-requires-clause-room : goal.place_of-past-requires-clause-room
place_of-past-requires-clause-room c =
    let h = c.around-around.ensures.looks.1 62 (short _ _ c.self.view_is c.self.invariant.short) in
    let k = c.place_of-first.ensures.looks _ h.1 in
    let at = h.0 in
    let r = c.requires in
    omega arith

pub look_at_part-requires-clause-room : goal.look_at_part-requires-clause-room
look_at_part-requires-clause-room c =
    let n = short _ _ c.self.view_is c.self.invariant.short in
    let h = c.around-around.ensures.looks.1 62 n in
    let at = h.0 in
    let first = c.place_of-first.ensures.looks _ h.1 in
    let past = c.place_of-past.ensures.looks _ h.2 in
    let within = c.place_of-past.ensures.within.1 in
    let inside = c.around-around.ensures.ordered.3 in
    let r = c.requires in
    omega arith

pub returns-clause-entries : goal.returns-clause-entries
returns-clause-entries c =
    let quads = c.args.self.now.quads in
    let key = λ (q : Quad Id). key_of c.args.self.now.arrangement q in
    let first = c.place_of-first.ensures in
    let past = c.place_of-past.ensures in
    let ordered = c.around-around.ensures.ordered in
    let found : Between (λ q. order_at c.depth-depth.result (key q) c.target-target.result) quads c.place_of-first.result c.place_of-past.result =
    record { within = omega arith; low_within = omega arith; low_front = first.front; low_back = first.back; high_front = past.front; high_back = past.back } in
    let bounds : c.bounds_of-bounds.result ≡ bounds_of c.args.self.now.arrangement c.args.pattern.now =
    c.bounds_of-bounds.ensures ∙ ap (λ (o : Sorted). bounds_of o.arrangement c.args.pattern.now) c.self.view_is in
    c.look_at_part.ensures.entries
    ∙ part_is (λ q. order_at c.depth-depth.result (key q) c.target-target.result) quads _ _ found
    ∙ (λ i. filter (λ q. is_eq (order_at (c.depth-depth.ensures i) (key q) (c.target-target.ensures i))) quads)
    ∙ (λ i. filter (λ q. is_sought (bounds i) (key q)) quads)

pub returns-clause-looks : goal.returns-clause-looks
returns-clause-looks c digits n =
    let h = c.around-around.ensures.looks.1 digits n in
    let at = h.0 in
    let more = c.around-around.ensures.looks.0 in
    let first = c.place_of-first.ensures.looks _ h.1 in
    let past = c.place_of-past.ensures.looks _ h.2 in
    let counted = c.look_at_part.ensures.counted in
    let ordered = c.around-around.ensures.ordered in
    let before = c.place_of-first.ensures.within.1 in
    let after = c.place_of-past.ensures.within in
    let count = ap length c.look_at_part.ensures.entries ∙ length_part c.args.self.now.quads c.place_of-first.result c.place_of-past.result (omega arith) (omega arith) in
    omega arith
