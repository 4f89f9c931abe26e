use Rattle.std.proofs.Common.{List, ◌++◌, map, subst}
use Rattle.std.proofs.lemmas.List.Sorted.{IsPermutation-map, IsPermutation-trans}
use Rattle.std.proofs.lemmas.Result.{IfOk-weaker}
use Rattle.std.specs.List.Sorted.{IsPermutation}
use Rattle.terms.specs.declared.term.Term.{Term}
use Rattle.dict.specs.Ranks.{term_in}
use Rattle.dict.proofs.Gathering.{still_placed}
use Rattle.dict.proofs.ranks.in_order.Goals as goal

pub returns-clause-placed : goal.returns-clause-placed
returns-clause-placed c =
    IfOk-weaker c.by_terms.result _ _
    (λ r same. still_placed (c.args.terms.items ++ c.args.more.items) c.in_ok-placed.placed.items r.placed.items
    (IsPermutation-trans _ _ _ c.sort_unstable_by.ensures.permutation same) c.in_ok-placed.ensures.placed)
    c.by_terms.ensures.same

pub returns-clause-same : goal.returns-clause-same
returns-clause-same c =
    IfOk-weaker c.by_terms.result _ _
    (λ r same. subst (λ (ts : List Term). IsPermutation ts (map term_in r.placed.items)) c.in_ok-placed.ensures.terms_are
    (IsPermutation-map term_in _ _ (IsPermutation-trans _ _ _ c.sort_unstable_by.ensures.permutation same)))
    c.by_terms.ensures.same
