use Rattle.std.proofs.Common.{ap, sym, ◌∙◌}
use Rattle.reads.specs.Reads.{says}
use Rattle.version_overlay.specs.Settled.{changed_by}
use Rattle.validate.proofs.found.note_of.Goals as goal

pub lean_and_told-requires : goal.lean_and_told-requires
unfolding changed_by
lean_and_told-requires c =
    c.in_ok-answer.ensures ∙ (λ t. says (sym c.read-read.ensures t) (c.requires.base t)) ∙ ap (λ cs. says c.read-read.result.now (changed_by cs c.args.base.now)) (sym c.new.ensures.items)
