use Rattle.std.proofs.Common.{◌≡◌, length, sym, ap, ◌∙◌, arith}
use Rattle.std.proofs.lemmas.Bool.Decides.{nat_tests}
use Rattle.std.proofs.lemmas.List.{nil_from_length}
use Rattle.sets.specs.Sets.{without}
use Rattle.quad_sets.proofs.Lacking.{without_none}
use Rattle.quad_sets.proofs.lists.outside.Goals as goal

pub returns-then-is_empty : goal.returns-then-is_empty
returns-then-is_empty g c =
    let none : length c.args.set.now ≡ 0 = grind (arith, nat_tests) in
    sym (ap (without g.T.Ord.cmp c.args.members.items) (nil_from_length c.args.set.now none) ∙ without_none g.T.Ord.cmp c.args.members.items)
