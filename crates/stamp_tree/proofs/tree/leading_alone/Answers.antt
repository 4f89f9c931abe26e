use Rattle.std.proofs.Common.{sym, ◌∙◌, rules}
use Rattle.stamp_tree.proofs.Pairs.{none_alone, none_empty, lead_alone}
use Rattle.stamp_tree.proofs.tree.leading_alone.Goals as goal
use Rattle.stamp_tree.proofs.tree.leading_alone.Goals.{then-is_empty-via-then-is_empty, then-is_empty-via-else-is_empty+then-not-is_due}

pub returns-then-is_empty-clause-none : goal.returns-then-is_empty-clause-none
returns-then-is_empty-clause-none c e =
    elim c.then-is_empty.branch [
      | then-is_empty-via-then-is_empty w ↦ none_empty c.args.list.now (search rules)
      | then-is_empty-via-else-is_empty+then-not-is_due w ↦ none_alone c.args.list.now _ c.requires (sym w.is_due.ensures ∙ w.if-not-is_due.true)
    ]

pub returns-clause-some : goal.returns-clause-some
returns-clause-some c = lead_alone c.args.list.now _ (search rules) (sym c.is_due.ensures ∙ c.if-not-is_due.false)
