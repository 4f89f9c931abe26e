use Rattle.std.proofs.Common.{fold, map, sym, ap, ◌∙◌}
use Rattle.algebra.specs.Plans.{parts_of, plan_of}
use Rattle.numbering.specs.Wanted.{with_part, with_plan}
use Rattle.numbering.proofs.WantedLaws.{group_wanted, union_wanted}
use Rattle.numbering.proofs.orders.+plans.Goals as goal

pub want_plan-returns-in-Group : goal.want_plan-returns-in-Group
want_plan-returns-in-Group t c =
    let w = c.args.wanted.now in
    c.want_parts.ensures ∙ ap (λ ps. fold with_part w (parts_of ps)) c.as_slice-in-Group.ensures.value
    ∙ sym (ap (λ p. with_plan w (plan_of p)) c.in-Group.is ∙ group_wanted w c.in-Group.parts c.in-Group.field-1)

pub want_plan-returns-in-Union : goal.want_plan-returns-in-Union
want_plan-returns-in-Union t c =
    let w = c.args.wanted.now in
    c.want_plans.ensures ∙ ap (λ ps. fold with_plan w (map plan_of ps)) c.as_slice-in-Union.ensures.value
    ∙ sym (ap (λ p. with_plan w (plan_of p)) c.in-Union.is ∙ union_wanted w c.in-Union.plans)
