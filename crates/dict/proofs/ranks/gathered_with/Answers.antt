use Rattle.std.proofs.Common.{List, [], subst, sym, ◌∙◌}
use Rattle.dict.specs.declared.ranks.Placed.{Placed}
use Rattle.dict.specs.Ranks.{IsGathered}
use Rattle.dict.proofs.Gathering.{gathered_none}
use Rattle.dict.proofs.ranks.gathered_with.Goals as goal

pub returns : goal.returns
returns c =
    c.in_ok-push_placed-2.ensures c.args.terms.items
    (c.in_ok-push_placed.ensures [] (subst (λ (xs : List Placed). IsGathered [] xs) (sym (c.in_ok-reserve.ensures.items ∙ c.new-placed.ensures.items)) gathered_none))
