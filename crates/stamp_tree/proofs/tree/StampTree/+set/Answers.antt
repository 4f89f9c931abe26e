use Rattle.std.proofs.Common.{◌+◌, ◌/◌, List, length, take, drop, slice_set, sym, ap, ◌∙◌, subst, arith, length-set}
use Rattle.stamp_tree.specs.declared.standing.Standing.{Standing}
use Rattle.stamp_tree.specs.Standings.{StandsFor}
use Rattle.stamp_tree.specs.Pairs.{IsSummed}
use Rattle.stamp_tree.proofs.Pairs.{least_pairs, set_summed}
use Rattle.stamp_tree.proofs.tree.StampTree.+set.Goals as goal
use Rattle.stamp_tree.proofs.tree.StampTree.+set.Goals.{in-Nothing, in-Pairs}

pub set-requires : goal.set-requires
set-requires t c =
    let is = subst (IsSummed c.self.inside.list.items) c.in-Pairs.is c.self.invariant in
    let count = ap length c.deref_mut.ensures.value in
    let list = ap length c.self.view_is in
    let least = least_pairs _ _ is.pairs_are in
    (omega (arith, is.fewer, count, list, c.decreases), omega (arith, least, count, list, c.requires))

pub invariant_of-self : goal.invariant_of-self
invariant_of-self t c =
    elim c.match-self.branch [
      | in-Nothing w ↦
          let few = subst (IsSummed c.self.inside.list.items) w.in-Nothing.is c.self.invariant in
          let count = length-set c.self.inside.list.items c.args.place c.args.standing in
          rw w.self-inside-is (subst (IsSummed (slice_set c.self.inside.list.items c.args.place c.args.standing)) (sym w.in-Nothing.is) (omega (arith, few, count)))
      | in-Pairs w ↦
          let is = subst (IsSummed c.self.inside.list.items) w.in-Pairs.is c.self.invariant in
          let list = ap length c.self.view_is in
          rw w.self-inside-is
          (set_summed c.self.inside.list.items w.in-Pairs.tree.value w.set.new.self c.args.place c.args.standing w.pair_at.result is (omega (arith, list, c.requires))
          (subst (λ (xs : List Standing). StandsFor w.pair_at.result (take 2 (drop (c.args.place / 2 + c.args.place / 2) xs))) w.as_slice.ensures.value w.pair_at.ensures)
          (w.set.ensures ∙ ap (λ (ws : List Standing). slice_set ws (c.args.place / 2) w.pair_at.result) w.deref_mut.ensures.value))
    ]
