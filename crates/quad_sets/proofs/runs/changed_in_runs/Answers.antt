use Rattle.sets.specs.Sets.{union, without}
use Rattle.quad_sets.proofs.RunLaws.{sorted_above, sorted_later, change_next, change_last}
use Rattle.quad_sets.proofs.runs.changed_in_runs.Goals as goal
use Rattle.quad_sets.proofs.runs.changed_in_runs.Goals.{then-change+in_ok-push, else-change}

pub loop-change-preserved : goal.loop-change-preserved
loop-change-preserved g c =
    let cmp = g.T.Ord.cmp in
    let l = c.loop-change in
    let first = c.in-Some.change in
    let later = sorted_later cmp first.comes l.gone.now l.more.now first.gone.now first.more.now first.value.now c.in-Some.ensures.first l.invariant.gone l.invariant.more in
    record {
      rest = sorted_above cmp l.rest.now first.value.now c.parted.result.0.now c.parted.result.1.now c.parted.ensures l.invariant.rest;
      gone = later.0;
      more = later.1;
      done = change_next g.met.T.Ord.total g.met.T.Exact.exact first.comes (union cmp (without cmp c.args.set.now c.args.gone.now) c.args.more.now) l.list.items l.rest.now l.gone.now l.more.now first.gone.now first.more.now
          c.parted.result.0.now c.parted.result.1.now c.extend_from_slice.new.self.items c.if-change.list.items first.value.now l.invariant.rest l.invariant.gone l.invariant.more c.parted.ensures c.in-Some.ensures.first
          c.in_ok-extend_from_slice.ensures.items
          (elim c.if-change.branch [
            | then-change+in_ok-push w ↦ rw (w.if-change.true, w.list-is) w.in_ok-push.ensures.items
            | else-change w ↦ rw (w.if-change.false, w.list-is)
          ])
          l.invariant.done;
    }

pub returns : goal.returns
returns g c =
    change_last g.met.T.Ord.total g.met.T.Exact.exact (union g.T.Ord.cmp (without g.T.Ord.cmp c.args.set.now c.args.gone.now) c.args.more.now) c.loop-change.list.items c.loop-change.rest.now c.loop-change.gone.now
    c.loop-change.more.now c.extend_from_slice-2.new.self.items c.extend_from_slice-3.new.self.items c.loop-change.invariant.rest c.loop-change.invariant.more c.in_default.ensures.none c.in_ok-extend_from_slice-2.ensures.items
    c.in_ok-extend_from_slice-3.ensures.items c.loop-change.invariant.done
