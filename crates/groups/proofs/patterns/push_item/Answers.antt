use Rattle.std.proofs.Common.{◌≡◌, Some, rules}
use Rattle.syntax_trees.specs.Groups.{part_of}
use Rattle.groups.specs.Reading.{part_with}
use Rattle.groups.proofs.LoopLaws.{item_pushed}
use Rattle.groups.proofs.patterns.push_item.Goals as goal

pub returns : goal.returns
returns c = λ n inner ts given.
    let part_is : part_with n inner ts ≡ Some (part_of c.in_ok-part.part, c.in_ok-part.rest.now) = search rules in
    let same = item_pushed n inner ts c.in_ok-part.rest.now c.after_dot.result.now c.args.found.now.items c.push.new.self.items c.in_ok-part.part part_is c.in_ok-push.ensures.items c.after_dot.ensures in
    rw (← same) c.push_front.ensures
