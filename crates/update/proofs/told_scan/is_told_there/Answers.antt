use Rattle.std.specs.List.Sorted.{IsStrictlySortedBy}
use Rattle.std.proofs.Common.{ap, sym, subst, ◌∙◌, Some, None}
use Rattle.sets.specs.Sets.{has}
use Rattle.datasets.specs.Id.{id_order}
use Rattle.datasets.specs.Dataset.{quad_order}
use Rattle.update.proofs.ToldScans.{quads_are}
use Rattle.update.proofs.told_scan.is_told_there.Goals as goal

pub of_set-requires : goal.of_set-requires
of_set-requires c = subst (λ xs. IsStrictlySortedBy (quad_order id_order) xs) (quads_are c.args.answer.now (Some c.in-Some.quads.now) c.in-Some.ensures) c.requires

pub returns-in-Some : goal.returns-in-Some
returns-in-Some c =
    c.contains.ensures
    ∙ ap (λ xs. has (quad_order id_order) xs c.args.quad.now) (c.of_set.ensures ∙ sym (quads_are c.args.answer.now (Some c.in-Some.quads.now) c.in-Some.ensures))

pub returns-in-None : goal.returns-in-None
returns-in-None c = ap (λ xs. has (quad_order id_order) xs c.args.quad.now) (sym (quads_are c.args.answer.now None c.in-None.ensures))
