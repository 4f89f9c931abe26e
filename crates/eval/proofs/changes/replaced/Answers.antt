use Rattle.std.proofs.Common.{rules, ◌≡◌, ◌++◌, ap, sym, ◌∙◌}
use Rattle.sets.specs.Sets.{set_of, union}
use Rattle.sets.proofs.SetLaws.{set_of-set}
use Rattle.datasets.specs.Dataset.{names_of}
use Rattle.datasets.specs.Id.{id_order, id_total, id_exact}
use Rattle.reads.specs.Reads.{Delta, applied}
use Rattle.eval.proofs.Outside.{rises_as_set}
use Rattle.eval.proofs.Replacing.{replaced_is}
use Rattle.eval.proofs.changes.replaced.Goals as goal

pub from_sets-requires-clause-there : goal.from_sets-requires-clause-there
from_sets-requires-clause-there c = rises_as_set id_total c.in_ok-there.there.items (c.in_ok-copied_names.field-0.items ++ c.in_ok-names.names.items) c.in_ok-there.ensures

pub from_sets-requires-clause-gone : goal.from_sets-requires-clause-gone
from_sets-requires-clause-gone c =
    rises_as_set id_total c.in_ok-gone.gone.items c.gone.result.now (c.in_ok-gone.ensures ∙ sym (set_of-set id_total id_exact c.gone.result.now c.gone.ensures.set))

pub returns-clause-change : goal.returns-clause-change
returns-clause-change c =
    let changes = c.args.changes.now in
    let there : c.in_ok-there.there.items ≡ union id_order changes.there (names_of c.args.inserted.items) = search rules in
    let gone : c.in_ok-gone.gone.items ≡ set_of id_order changes.gone =
    c.in_ok-gone.ensures ∙ sym (set_of-set id_total id_exact c.gone.result.now c.gone.ensures.set) ∙ ap (set_of id_order) c.gone.ensures.value in
    c.in_ok-change.ensures ∙ (λ i. record { present = c.in_ok-present.ensures.present i; absent = c.in_ok-present.ensures.absent i; there = there i; gone = gone i })

pub returns-clause-effect : goal.returns-clause-effect
returns-clause-effect c d = ap (λ (z : Delta). applied z d) (returns-clause-change c) ∙ replaced_is c.args.changes.now d c.args.deleted.items c.args.inserted.items
