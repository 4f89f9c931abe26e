use Rattle.std.proofs.Common.{List, sym, subst, ◌∙◌}
use Rattle.std.proofs.lemmas.Result.{IfOk-weaker}
use Rattle.indexmap.proofs.CallerLemmas.{Drains-YieldsInOrder}
use Rattle.terms.specs.declared.term.Term.{Term}
use Rattle.numbering.specs.Gathered.{HasTerms}
use Rattle.numbering.proofs.gathered.distinct.Goals as goal

pub returns : goal.returns
returns c =
    IfOk-weaker c.from_iter.result _ _
    (λ found h. subst (λ (xs : List Term). HasTerms xs c.args.terms.now)
    (sym (h.4.0 ∙ Drains-YieldsInOrder _ _ h.0 h.1 h.2.2 ((h.3.2 tt).0, (h.3.0, h.3.1, (h.3.2 tt).1)) ∙ h.2.0)) c.in_ok-add_terms.ensures)
    c.from_iter.ensures.ran
