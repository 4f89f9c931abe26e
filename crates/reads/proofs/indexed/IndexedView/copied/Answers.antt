use Rattle.std.proofs.Common.{sym, ap, subst, ◌∙◌}
use Rattle.datasets.specs.Id.{id_order}
use Rattle.change_laws.specs.Laws.{IsRising}
use Rattle.reads.specs.Reads.{View}
use Rattle.reads.proofs.indexed.IndexedView.copied.Goals as goal

pub from_sets-requires : goal.from_sets-requires
from_sets-requires c =
    let quads = c.in_ok-quads.ensures ∙ ap (λ (v : View). v.quads) c.self.view_is in
    let names = c.in_ok-names.ensures ∙ c.names.ensures in
    subst (λ (v : View). IsRising id_order v) (sym (λ i. record { quads = quads i; names = names i })) c.rises.ensures

pub returns : goal.returns
returns c =
    let quads = c.in_ok-quads.ensures ∙ ap (λ (v : View). v.quads) c.self.view_is in
    let names = c.in_ok-names.ensures ∙ c.names.ensures in
    c.from_sets.ensures ∙ (λ i. record { quads = quads i; names = names i })
