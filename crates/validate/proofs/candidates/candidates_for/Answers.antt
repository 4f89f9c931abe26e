use Rattle.std.proofs.Common.{sym, ◌∙◌}
use Rattle.reads.specs.Reads.{covers}
use Rattle.version_overlay.proofs.Filtered.{stopped}
use Rattle.version_overlay.specs.ChangeFilter.{may_cover}
use Rattle.validate.specs.Below.{slot_at}
use Rattle.validate.specs.Kept.{shown}
use Rattle.validate.proofs.Leading.{leads_none}
use Rattle.validate.proofs.candidates.candidates_for.Goals as goal

pub returns-then-not-may_cover : goal.returns-then-not-may_cover
returns-then-not-may_cover c =
    let kept = c.args.kept.now in
    let slots = shown kept.slots.items in
    leads_none slots c.args.read.now c.args.from c.args.i _ c.new.ensures.items c.requires.rises
    (λ j. stopped (covers (slot_at slots j).delta c.args.read.now) (may_cover kept.published c.args.read.now) (c.requires.holds.knows j c.args.read.now) (sym c.may_cover.ensures ∙ c.if-not-may_cover.true))
