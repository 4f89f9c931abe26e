use Rattle.std.proofs.Common.{rules, ◌∙◌}
use Rattle.solution.proofs.NoneShared.{minus_all}
use Rattle.solution.proofs.Rising.{rises-filter}
use Rattle.solution.proofs.Tied.{has_all_is, apart_are}
use Rattle.solution.proofs.solutions.Solutions.minus.Goals as goal

pub invariant_of-result : goal.invariant_of-result
invariant_of-result c = rises-filter _ _ _ c.self.invariant c.in_ok-mappings.ensures

pub returns : goal.returns
returns c =
    let right = c.in_ok-right.right in
    let all = has_all_is right.variables.items right.mappings.items right.loose.items _ c.args.right c.right.view_is c.in_ok-right.ensures in
    c.in_ok-mappings.ensures ∙ apart_are right.variables.items right.mappings.items right.loose.items c.args.right all c.args.self _ c.self.view_is

pub returns-then-not-share_some : goal.returns-then-not-share_some
returns-then-not-share_some c =
    minus_all _ c.args.self _ c.args.right (c.deref.ensures.value ∙ c.self.view_is) (c.deref-2.ensures.value ∙ c.right.view_is) (c.share_some.ensures (search rules))
