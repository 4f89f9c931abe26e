use Rattle.std.proofs.Common.{sym, ap, ◌∙◌}
use Rattle.std.proofs.lemmas.Result.{IfOk-weaker}
use Rattle.indexmap.proofs.CallerLemmas.{Drains-YieldsInOrder}
use Rattle.terms.specs.Table.{listed}
use Rattle.terms.proofs.table.TermTable.into_list.Goals as goal

pub returns-in-Hashed : goal.returns-in-Hashed
returns-in-Hashed c =
    IfOk-weaker c.from_iter.result _ _
    (λ found h. h.4.0 ∙ Drains-YieldsInOrder _ _ h.0 h.1 h.2.2 ((h.3.2 tt).0, (h.3.0, h.3.1, (h.3.2 tt).1)) ∙ h.2.0 ∙ ap (λ s. s.keys) c.in-Hashed.set-is ∙ sym (ap listed c.in-Hashed.is) ∙ c.self.view_is)
    c.from_iter.ensures.ran
