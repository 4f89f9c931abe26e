use Rattle.std.proofs.Common.{rules}
use Rattle.std.proofs.lemmas.List.Sorted.{ranks_by}
use Rattle.std.proofs.lemmas.Fn.{always_returns_same}
use Rattle.std.specs.Ordering.{is_lt}
use Rattle.terms.specs.Term.{term_order}
use Rattle.terms.specs.TermLaws.{term_total}
use Rattle.dict.specs.declared.ranks.Placed.{Placed}
use Rattle.dict.specs.Ranks.{term_in}
use Rattle.dict.proofs.ranks.sorted_with_steps.Goals as goal

pub returns-clause-sorted : goal.returns-clause-sorted
returns-clause-sorted c =
    c.sort_unstable_by.ensures.sorted (λ (x y : Placed). is_lt (term_order (term_in x) (term_in y)))
    (ranks_by term_total term_in) (search (rules, always_returns_same))
