use Rattle.std.proofs.Common.{arith, sym, ◌∙◌, ap}
use Rattle.quad_lists.specs.Keys.{key_of, order_at, is_before}
use Rattle.quad_index.proofs.Searching.{before_partitioned, front_more, back_more}
use Rattle.quad_index.proofs.search.place_of.Goals as goal

pub loop-low-preserved-then-is_before : goal.loop-low-preserved-then-is_before
loop-low-preserved-then-is_before g c =
    let parts = before_partitioned (λ e. key_of c.args.arrangement (g.E.Entry.quad e)) c.args.depth c.args.past c.args.target.now c.args.entries.now c.requires in
    let test = c.if-is_before.true in
    record {
      ordered = omega arith;
      within = c.loop-low.invariant.within;
      front = front_more (λ e. is_before c.args.past (order_at c.args.depth (key_of c.args.arrangement (g.E.Entry.quad e)) c.args.target.now)) c.args.entries.now _ _ parts (omega arith) c.index-entries-middle.is
          (ap (λ k. is_before c.args.past (order_at c.args.depth k c.args.target.now)) (sym c.key-key.ensures) ∙ ap (is_before c.args.past) (sym c.compare.ensures) ∙ sym c.is_before.ensures ∙ test);
      back = c.loop-low.invariant.back;
    }

pub loop-low-preserved : goal.loop-low-preserved
loop-low-preserved g c =
    let parts = before_partitioned (λ e. key_of c.args.arrangement (g.E.Entry.quad e)) c.args.depth c.args.past c.args.target.now c.args.entries.now c.requires in
    let test = c.if-is_before.false in
    record {
      ordered = omega arith;
      within = omega arith;
      front = c.loop-low.invariant.front;
      back = back_more (λ e. is_before c.args.past (order_at c.args.depth (key_of c.args.arrangement (g.E.Entry.quad e)) c.args.target.now)) c.args.entries.now _ _ parts (omega arith) c.index-entries-middle.is
          (ap (λ k. is_before c.args.past (order_at c.args.depth k c.args.target.now)) (sym c.key-key.ensures) ∙ ap (is_before c.args.past) (sym c.compare.ensures) ∙ sym c.is_before.ensures ∙ test);
    }
