-- When something is to be done for a request.
use Rattle.std.specs.Prelude.{ℕ, Option, Some, None}
use Rattle.stamp_tree.specs.declared.standing.Due.{Due}
use Rattle.stamp_tree.specs.declared.standing.Due.TheVariants.{Now, After, Never}
use Rattle.stamp_tree.specs.declared.standing.Standing.{Standing}
use Rattle.incarnations.specs.declared.state.Pass.{Pass}
use Rattle.incarnations.specs.declared.state.Status.{Status}
use Rattle.incarnations.specs.declared.state.Status.TheVariants.{Ready, Executing, Executed, Committed}
use Rattle.incarnations.specs.Slots.{Slot}

-- when something is to be done for a request but to commit it, by its status, its pass and its
-- stamp
abbrev pub due_of : Status → Option Pass → Option ℕ → Due
due_of (Ready n) pass stamp = Now
due_of (Executing n by) pass stamp = Never
due_of (Committed n) pass stamp = Never
due_of (Executed n) (Some p) stamp = Now
due_of (Executed n) None None = Now
due_of (Executed n) None (Some moment) = After moment

abbrev pub standing_of : Slot → Standing
standing_of x = record { due = due_of x.status x.pass x.stamp; changed = x.changed }
