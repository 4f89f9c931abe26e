use Rattle.std.proofs.Common.{◌≡◌, sym, ap, ◌∙◌}
use Rattle.reads.specs.Reads.{View, says, applied, covers}
use Rattle.reads.proofs.Changes.{uncovered, nothing_changed}
use Rattle.version_overlay.specs.ChangeFilter.{may_cover}
use Rattle.version_overlay.specs.Settled.{changed_by}
use Rattle.version_overlay.proofs.Changing.{changed-rises, changed_by-rises, some_are, pushed_is}
use Rattle.version_overlay.proofs.Filtered.{stopped}
use Rattle.version_overlay.proofs.settled.Settled.push.Goals as goal

pub returns-then-says_nothing-clause-ok : goal.returns-then-says_nothing-clause-ok
returns-then-says_nothing-clause-ok c d =
    let was = c.args.self.now in
    let levels = c.self.inside.levels in
    let after = changed_by was d in
    sym (ap (λ x. applied x after) (c.says_nothing.ensures c.if-says_nothing.true)
    ∙ nothing_changed after (changed-rises was (λ none. some_are levels.items levels.len levels.ok.0 (sym c.is_empty.ensures ∙ c.if-not-is_empty.true) (c.self.view_is ∙ none)) d))

-- the levels with one more
module _ (c : goal.In_ok-push) where
  one_more : (d : View) → changed_by c.push.new.self.items d ≡ applied c.args.delta.now (changed_by c.self.inside.levels.items d)
  one_more d =
      pushed_is c.self.inside.levels.items c.push.new.self.items c.new-level.result c.args.delta.now c.in_ok-push.ensures.items (c.new-level.ensures ∙ c.in_ok-copied.ensures) d

pub invariant_of-self-2 : goal.invariant_of-self-2
invariant_of-self-2 c r stops d rising =
    let levels = c.self.inside.levels.items in
    let delta = c.args.delta.now in
    let was = c.self.inside in
    ap (says r) (one_more c d)
    ∙ uncovered delta (changed_by levels d) r (changed_by-rises levels d rising) (stopped (covers delta r) (may_cover c.put.new.self r) (c.in_ok-put.ensures.added r) stops)
    ∙ c.self.invariant r (stopped (may_cover was.filter r) (may_cover c.put.new.self r) (c.put.ensures.kept r) stops) d rising

pub returns-clause-ok : goal.returns-clause-ok
returns-clause-ok c d = one_more c d ∙ ap (λ cs. applied c.args.delta.now (changed_by cs d)) c.self.view_is
