-- What a worker can do where the machine is.
use Rattle.std.specs.Prelude.{◌≡◌, ◌≤◌, ◌<◌, ◌^◌, ℕ, Bool, true, false, List, Option, Some, None, IfSome, is_some}
use Rattle.incarnations.specs.declared.state.Status.{Status}
use Rattle.incarnations.specs.declared.state.Status.TheVariants.{Ready, Executing, Executed, Committed}
use Rattle.incarnations.specs.Slots.{Slot}
use Rattle.validate.specs.Below.{slot_at}
use Rattle.slots.specs.Slots.{status_of}
use Rattle.block_machine.specs.Machine.{State, can_commit, is_stamped}
use Rattle.scheduler.specs.declared.task.Task.{Task}
use Rattle.scheduler.specs.declared.task.Task.TheVariants as task

-- the request of a task
abbrev pub place_of : Task → ℕ
place_of (task.Commit i) = i
place_of (task.Take i) = i
place_of (task.Begin i n) = i
place_of (task.Check i n) = i

-- a task of a request that a block may have
abbrev pub IsHint : Task → Type 0
IsHint t = place_of t < 2 ^ 32

-- A task is lawful: the machine would commit the request; it is ready; it is executed, no pass
-- stands, and no stamp that holds; it is executed, and a pass stands.
abbrev pub IsLawful : State → Task → Type 0
IsLawful s (task.Commit i) = can_commit s i ≡ true
IsLawful s (task.Take i) = (n : ℕ) × (status_of s.slots i ≡ Some (Ready n))
IsLawful s (task.Begin i n) =
    (status_of s.slots i ≡ Some (Executed n)) × (is_some (slot_at s.slots i).pass ≡ false) × (is_stamped s.slots i (slot_at s.slots i).stamp ≡ false)
IsLawful s (task.Check i n) = (status_of s.slots i ≡ Some (Executed n)) × (is_some (slot_at s.slots i).pass ≡ true)

-- the next task: a commit where one is lawful, else that of the least request that has a lawful
-- one; none only where none is lawful
pub record IsNext (s : State) (next : Option Task) : Type 0 where
  pub lawful : IfSome next (IsLawful s)
  pub commits : (i : ℕ) → can_commit s i ≡ true → next ≡ Some (task.Commit i)
  pub least : IfSome next (λ t. (other : Task) → IsLawful s other → place_of t ≤ place_of other)
  pub none : next ≡ None → (other : Task) → IsLawful s other → ⊥

-- what can be done for an executed request but to commit it
abbrev pub settling : ℕ → ℕ → (has_pass is_stamped : Bool) → Option Task
settling i n true stamped = Some (task.Check i n)
settling i n false true = None
settling i n false false = Some (task.Begin i n)

abbrev pub task_for : ℕ → Slot → Bool → Option Status → Option Task
task_for i x stamped (Some (Ready n)) = Some (task.Take i)
task_for i x stamped (Some (Executing n by)) = None
task_for i x stamped (Some (Executed n)) = settling i n (is_some x.pass) stamped
task_for i x stamped (Some (Committed n)) = None
task_for i x stamped None = None

-- what can be done for a request but to commit it
abbrev pub task_at : List Slot → ℕ → Option Task
task_at slots i = task_for i (slot_at slots i) (is_stamped slots i (slot_at slots i).stamp) (status_of slots i)

-- it is what can be done for the least request from this one on for which anything can be, but to
-- commit it
pub record IsFirst (slots : List Slot) (front : ℕ) (found : Task) : Type 0 where
  pub place : ℕ
  pub above : front ≤ place
  pub is : task_at slots place ≡ Some found
  pub none : (j : ℕ) → front ≤ j → j < place → task_at slots j ≡ None
