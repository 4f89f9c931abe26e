use Rattle.std.proofs.Common.{◌≡◌, ◌≤◌, ◌<◌, ◌+◌, ◌-◌, ◌/◌, ◌^◌, arith, sym, subst, ◌∙◌, ap, length}
use Rattle.std.specs.List.Sorted.{IsSortedByKey}
use Rattle.datasets.specs.declared.id.Id.{Id}
use Rattle.datasets.specs.declared.quad.Quad.{Quad}
use Rattle.quad_lists.specs.Keys.{key_of, key_order, order_at, is_before}
use Rattle.quad_index.specs.Sorted.{Sorted}
use Rattle.quad_index.proofs.Looking.{looked}
use Rattle.quad_index.proofs.Searching.{before_partitioned, front_at, back_at}
use Rattle.quad_index.proofs.order.Order.place_of.Goals as goal

short : (o p : Sorted) → o ≡ p → length o.quads < 2 ^ 62 → length p.quads < 2 ^ 62
short o p e h = subst (λ (r : Sorted). length r.quads < 2 ^ 62) e h

sorted : (o p : Sorted) → o ≡ p → IsSortedByKey (key_of o.arrangement) key_order o.quads → IsSortedByKey (key_of p.arrangement) key_order p.quads
sorted o p e h = subst (λ (r : Sorted). IsSortedByKey (key_of r.arrangement) key_order r.quads) e h

pub look_beside-requires-clause-room : goal.look_beside-requires-clause-room
look_beside-requires-clause-room c =
    let n = short _ _ c.self.view_is c.self.invariant.short in
    let inside = c.requires.ordered.1 in
    let h = c.loop-low.invariant.looks 62 (omega arith) in
    let room = c.requires.room in
    let at = h.0 in
    omega arith

pub loop-low-preserved-then-is_before : goal.loop-low-preserved-then-is_before
loop-low-preserved-then-is_before c =
    let p = λ (q : Quad Id). is_before c.args.past (order_at c.args.depth (key_of c.args.self.now.arrangement q) c.args.target.now) in
    let parts = before_partitioned (λ (q : Quad Id). key_of c.args.self.now.arrangement q) c.args.depth c.args.past c.args.target.now c.args.self.now.quads (sorted _ _ c.self.view_is c.self.invariant.sorted) in
    let lt = c.loop-low-test.true in
    let from = c.loop-low.invariant.from in
    let to = c.loop-low.invariant.to in
    let inside = c.requires.ordered.1 in
    record {
      ordered = omega arith;
      from = omega arith;
      to = c.loop-low.invariant.to;
      front = front_at p c.args.self.now.quads _ parts (omega arith) (λ d. ap (is_before c.args.past) (sym (c.look_beside.ensures.answer d)) ∙ sym c.is_before.ensures ∙ c.if-is_before.true);
      back = c.loop-low.invariant.back;
      looks = λ digits h. subst (λ n. (n ≤ c.args.looks.now + digits) × (c.loop-low.high - (c.loop-low.low + (c.loop-low.high - c.loop-low.low) / 2 + 1) < 2 ^ (c.args.looks.now + digits - n))) (sym c.look_beside.ensures.counted)
          (looked c.args.looks.now c.loop-low.looks digits (c.loop-low.high - c.loop-low.low) _ (c.loop-low.invariant.looks digits h) (omega arith) (omega arith));
    }

pub loop-low-preserved : goal.loop-low-preserved
loop-low-preserved c =
    let p = λ (q : Quad Id). is_before c.args.past (order_at c.args.depth (key_of c.args.self.now.arrangement q) c.args.target.now) in
    let parts = before_partitioned (λ (q : Quad Id). key_of c.args.self.now.arrangement q) c.args.depth c.args.past c.args.target.now c.args.self.now.quads (sorted _ _ c.self.view_is c.self.invariant.sorted) in
    let lt = c.loop-low-test.true in
    let to = c.loop-low.invariant.to in
    record {
      ordered = omega arith;
      from = c.loop-low.invariant.from;
      to = omega arith;
      front = c.loop-low.invariant.front;
      back = back_at p c.args.self.now.quads _ parts (λ d. ap (is_before c.args.past) (sym (c.look_beside.ensures.answer d)) ∙ sym c.is_before.ensures ∙ c.if-is_before.false);
      looks = λ digits h. subst (λ n. (n ≤ c.args.looks.now + digits) × (c.loop-low.low + (c.loop-low.high - c.loop-low.low) / 2 - c.loop-low.low < 2 ^ (c.args.looks.now + digits - n))) (sym c.look_beside.ensures.counted)
          (looked c.args.looks.now c.loop-low.looks digits (c.loop-low.high - c.loop-low.low) _ (c.loop-low.invariant.looks digits h) (omega arith) (omega arith));
    }
