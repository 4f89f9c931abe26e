use Rattle.std.proofs.Common.{ap, sym, ◌∙◌}
use Rattle.reads.specs.Reads.{says}
use Rattle.reads.proofs.Changes.{uncovered}
use Rattle.version_overlay.specs.Settled.{changed_by}
use Rattle.version_overlay.proofs.Changing.{changed_by-rises, pushed_is}
use Rattle.version_overlay.proofs.along.push_covering.Goals as goal

pub returns-then-not-covers : goal.returns-then-not-covers
returns-then-not-covers c d rising =
    sym (uncovered c.args.delta.now (changed_by c.args.changes.now.items d) c.args.read.now (changed_by-rises c.args.changes.now.items d rising) (sym c.covers.ensures ∙ c.if-not-covers.true))

pub returns : goal.returns
returns c d rising =
    ap (says c.args.read.now) (pushed_is c.args.changes.now.items c.push.new.self.items c.in_ok-copy.copy c.args.delta.now c.in_ok-push.ensures.items c.in_ok-copy.ensures d)
