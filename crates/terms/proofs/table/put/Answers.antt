use Rattle.std.specs.List.{list_any}
use Rattle.std.specs.Ordering.{eq_by_cmp}
use Rattle.std.proofs.Common.{ap, sym, ◌∙◌}
use Rattle.terms.specs.Term.{term_order}
use Rattle.terms.specs.Hashed.{equal_terms}
use Rattle.terms.specs.Placed.{term_at}
use Rattle.terms.proofs.PlacedLaws.{inserted, stored}
use Rattle.terms.proofs.table.put.Goals as goal

pub returns-in_err-place-2-clause-kept : goal.returns-in_err-place-2-clause-kept
returns-in_err-place-2-clause-kept c =
    inserted c.args.set.now.keys c.insert_full.new.self.keys c.args.term (list_any (eq_by_cmp term_order c.args.term) c.args.set.now.keys) c.in_ok-place.ensures.keys

pub returns-clause-term : goal.returns-clause-term
returns-clause-term c =
    let s = c.in_ok-place.ensures.stored in
    ap (term_at c.insert_full.new.self.keys) c.in_ok-place-2.ensures ∙ stored c.insert_full.new.self.keys c.in_ok-place.place s.0 s.1 c.in_ok-place.ensures.within
    ∙ sym (equal_terms c.args.term s.0 s.2)

pub returns-clause-kept : goal.returns-clause-kept
returns-clause-kept c =
    inserted c.args.set.now.keys c.insert_full.new.self.keys c.args.term (list_any (eq_by_cmp term_order c.args.term) c.args.set.now.keys) c.in_ok-place.ensures.keys
