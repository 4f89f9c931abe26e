use Rattle.std.proofs.Common.{◌≡◌, ◌≤◌, ◌<◌, ◌+◌, ◌-◌, ◌/◌, ◌^◌, arith, sym, subst, ◌∙◌, ap, length}
use Rattle.std.specs.List.Sorted.{IsSortedByKey}
use Rattle.datasets.specs.declared.id.Id.{Id}
use Rattle.datasets.specs.declared.quad.Quad.{Quad}
use Rattle.quad_lists.specs.Keys.{key_of, key_order, order_at, is_before}
use Rattle.quad_index.specs.Sorted.{Sorted}
use Rattle.quad_index.proofs.Looking.{looked}
use Rattle.std.specs.Prelude.{true, false}
use Rattle.quad_index.proofs.Searching.{before_partitioned, before_past, past_back, front_at, back_at}
use Rattle.quad_index.proofs.order.Order.around.Goals as goal

short : (o p : Sorted) → o ≡ p → length o.quads < 2 ^ 62 → length p.quads < 2 ^ 62
short o p e h = subst (λ (r : Sorted). length r.quads < 2 ^ 62) e h

sorted : (o p : Sorted) → o ≡ p → IsSortedByKey (key_of o.arrangement) key_order o.quads → IsSortedByKey (key_of p.arrangement) key_order p.quads
sorted o p e h = subst (λ (r : Sorted). IsSortedByKey (key_of r.arrangement) key_order r.quads) e h

pub look_beside-requires-clause-room : goal.look_beside-requires-clause-room
look_beside-requires-clause-room c =
    let h = c.loop-low.invariant.looks 62 (short _ _ c.self.view_is c.self.invariant.short) in
    let room = c.requires in
    let at = h.0 in
    omega arith

pub loop-low-preserved-in-Less : goal.loop-low-preserved-in-Less
loop-low-preserved-in-Less c =
    let p = λ (q : Quad Id). is_before false (order_at c.args.depth (key_of c.args.self.now.arrangement q) c.args.target.now) in
    let parts = before_partitioned (λ (q : Quad Id). key_of c.args.self.now.arrangement q) c.args.depth false c.args.target.now c.args.self.now.quads (sorted _ _ c.self.view_is c.self.invariant.sorted) in
    let lt = c.loop-low-test.true in
    let inside = c.loop-low.invariant.within in
    let more = c.loop-low.invariant.more in
    let counted = c.look_beside.ensures.counted in
    record {
      ordered = omega arith;
      within = c.loop-low.invariant.within;
      front = front_at p c.args.self.now.quads _ parts (omega arith) (λ d. ap (is_before false) (sym (c.look_beside.ensures.answer d) ∙ c.in-Less.is));
      back = c.loop-low.invariant.back;
      more = omega arith;
      looks = λ digits h. subst (λ n. (n ≤ c.args.looks.now + digits) × (c.loop-low.high - (c.loop-low.low + (c.loop-low.high - c.loop-low.low) / 2 + 1) < 2 ^ (c.args.looks.now + digits - n))) (sym c.look_beside.ensures.counted)
          (looked c.args.looks.now c.loop-low.looks digits (c.loop-low.high - c.loop-low.low) _ (c.loop-low.invariant.looks digits h) (omega arith) (omega arith));
    }

pub loop-low-preserved : goal.loop-low-preserved
loop-low-preserved c =
    let p = λ (q : Quad Id). is_before true (order_at c.args.depth (key_of c.args.self.now.arrangement q) c.args.target.now) in
    let parts = before_partitioned (λ (q : Quad Id). key_of c.args.self.now.arrangement q) c.args.depth true c.args.target.now c.args.self.now.quads (sorted _ _ c.self.view_is c.self.invariant.sorted) in
    let lt = c.loop-low-test.true in
    let inside = c.loop-low.invariant.within in
    let more = c.loop-low.invariant.more in
    let counted = c.look_beside.ensures.counted in
    record {
      ordered = omega arith;
      within = omega arith;
      front = c.loop-low.invariant.front;
      back = back_at p c.args.self.now.quads _ parts (λ d. ap (is_before true) (sym (c.look_beside.ensures.answer d) ∙ c.in-Greater.is));
      more = omega arith;
      looks = λ digits h. subst (λ n. (n ≤ c.args.looks.now + digits) × (c.loop-low.low + (c.loop-low.high - c.loop-low.low) / 2 - c.loop-low.low < 2 ^ (c.args.looks.now + digits - n))) (sym c.look_beside.ensures.counted)
          (looked c.args.looks.now c.loop-low.looks digits (c.loop-low.high - c.loop-low.low) _ (c.loop-low.invariant.looks digits h) (omega arith) (omega arith));
    }

pub returns-in-Equal-clause-middle_back : goal.returns-in-Equal-clause-middle_back
returns-in-Equal-clause-middle_back c =
    let p = λ (q : Quad Id). is_before false (order_at c.args.depth (key_of c.args.self.now.arrangement q) c.args.target.now) in
    let parts = before_partitioned (λ (q : Quad Id). key_of c.args.self.now.arrangement q) c.args.depth false c.args.target.now c.args.self.now.quads (sorted _ _ c.self.view_is c.self.invariant.sorted) in
    back_at p c.args.self.now.quads _ parts (λ d. ap (is_before false) (sym (c.look_beside.ensures.answer d) ∙ c.in-Equal.is))

pub returns-in-Equal-clause-after_front : goal.returns-in-Equal-clause-after_front
returns-in-Equal-clause-after_front c =
    let p = λ (q : Quad Id). is_before true (order_at c.args.depth (key_of c.args.self.now.arrangement q) c.args.target.now) in
    let parts = before_partitioned (λ (q : Quad Id). key_of c.args.self.now.arrangement q) c.args.depth true c.args.target.now c.args.self.now.quads (sorted _ _ c.self.view_is c.self.invariant.sorted) in
    let lt = c.loop-low-test.true in
    let inside = c.loop-low.invariant.within in
    front_at p c.args.self.now.quads _ parts (omega arith) (λ d. ap (is_before true) (sym (c.look_beside.ensures.answer d) ∙ c.in-Equal.is))

pub returns-in-Equal-clause-looks : goal.returns-in-Equal-clause-looks
returns-in-Equal-clause-looks c =
    let lt = c.loop-low-test.true in
    let more = c.loop-low.invariant.more in
    let counted = c.look_beside.ensures.counted in (
      omega arith,
      λ digits h.
          let front = looked c.args.looks.now c.loop-low.looks digits (c.loop-low.high - c.loop-low.low) (c.loop-low.low + (c.loop-low.high - c.loop-low.low) / 2 - c.loop-low.low) (c.loop-low.invariant.looks digits h) (omega arith) (omega arith) in
          let back = looked c.args.looks.now c.loop-low.looks digits (c.loop-low.high - c.loop-low.low) (c.loop-low.high - (c.loop-low.low + (c.loop-low.high - c.loop-low.low) / 2 + 1)) (c.loop-low.invariant.looks digits h) (omega arith) (omega arith) in
          subst (λ n. (n ≤ c.args.looks.now + digits) × (c.loop-low.low + (c.loop-low.high - c.loop-low.low) / 2 - c.loop-low.low < 2 ^ (c.args.looks.now + digits - n)) × (c.loop-low.high - (c.loop-low.low + (c.loop-low.high - c.loop-low.low) / 2 + 1) < 2 ^ (c.args.looks.now + digits - n))) (sym counted)
          (front.0, front.1, back.1),
    )

pub returns-clause-middle_back : goal.returns-clause-middle_back
returns-clause-middle_back c k d low high =
    let ends = c.loop-low-test.false in
    let ordered = c.loop-low.invariant.ordered in
    past_back _ (c.loop-low.invariant.back k d (omega arith) high)

pub returns-clause-after_front : goal.returns-clause-after_front
returns-clause-after_front c k d low high = before_past _ (c.loop-low.invariant.front k d low high)
