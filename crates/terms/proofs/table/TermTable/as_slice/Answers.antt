use Rattle.std.proofs.Common.{List, sym, ap, subst, ◌∙◌}
use Rattle.terms.specs.declared.term.Term.{Term}
use Rattle.terms.specs.Placed.{AreApart}
use Rattle.terms.specs.Table.{listed}
use Rattle.terms.proofs.PlacedLaws.{apart}
use Rattle.terms.proofs.table.TermTable.as_slice.Goals as goal

pub returns-in-Hashed-clause-once : goal.returns-in-Hashed-clause-once
returns-in-Hashed-clause-once c =
    subst (λ (ts : List Term). AreApart ts) (sym (ap listed c.in-Hashed.is) ∙ c.self.view_is) (apart c.in-Hashed.set.keys c.as_slice.ensures.unique)
