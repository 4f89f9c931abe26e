-- The status that an answered event finds: what most proofs about histories use of what is lawful.
use Rattle.std.proofs.Common.{◌≡◌, ℕ, false, List, Some}
use Rattle.reads.specs.Reads.{View}
use Rattle.incarnations.specs.declared.state.Status.TheVariants.{Ready, Executing, Executed}
use Rattle.incarnations.specs.declared.state.Event.{Event}
use Rattle.incarnations.specs.declared.state.Event.TheVariants.{Take, Read as ReadOf, Publish, Begin, Check, Commit, GiveUp}
use Rattle.incarnations.specs.declared.state.Reply.{Reply}
use Rattle.incarnations.specs.declared.state.Reply.TheVariants.{Taken, Answered, Published, Begun, Passed, Aborted, Committed, Given}
use Rattle.incarnations.specs.Slots.{Slot}
use Rattle.incarnations.specs.Statuses.{is_closed}
use Rattle.slots.specs.Slots.{status_of}
use Rattle.block_machine.specs.Machine.{State, can_commit, IsAllowed}
use Rattle.block_machine.proofs.Theorem.{unless_execution, unless_executed, take_ready, commit_can}

-- the status that an answered event finds
abbrev pub HasStatus : List Slot → ℕ → Event → Reply → Type 0
HasStatus slots w (Take i) (Taken n) = status_of slots i ≡ Some (Ready n)
HasStatus slots w (ReadOf i n read) (Answered a) = status_of slots i ≡ Some (Executing n w)
HasStatus slots w (Publish i n (Some f)) Published = status_of slots i ≡ Some (Executing n w)
HasStatus slots w (Begin i n) Begun = status_of slots i ≡ Some (Executed n)
HasStatus slots w (Check i n) Passed = status_of slots i ≡ Some (Executed n)
HasStatus slots w (Check i n) Aborted = status_of slots i ≡ Some (Executed n)
HasStatus slots w (Commit i) Committed = is_closed (status_of slots i) ≡ false
HasStatus slots w (GiveUp i n) Given = status_of slots i ≡ Some (Executing n w)
HasStatus slots w event reply = Unit {0}

-- a lawful event finds it
pub allowed_status : (base : View) (s : State) (w : ℕ) (e : Event) (r : Reply) → IsAllowed base s w e r → HasStatus s.slots w e r
allowed_status base s w (Take i) (Taken n) h = take_ready (status_of s.slots i) n h
allowed_status base s w (ReadOf i n read) (Answered a) h = (unless_execution (status_of s.slots i) n w (Answered a) _ (λ e. cc) (λ e. cc) h).0
allowed_status base s w (Publish i n (Some f)) Published h = (unless_execution (status_of s.slots i) n w Published _ (λ e. cc) (λ e. cc) h).0
allowed_status base s w (Begin i n) Begun h = (unless_executed (status_of s.slots i) n Begun _ (λ e. cc) h).0
allowed_status base s w (Check i n) Passed h = (unless_executed (status_of s.slots i) n Passed _ (λ e. cc) h).0
allowed_status base s w (Check i n) Aborted h = (unless_executed (status_of s.slots i) n Aborted _ (λ e. cc) h).0
allowed_status base s w (Commit i) Committed h = (commit_can (is_closed (status_of s.slots i)) (can_commit s i) h).0
allowed_status base s w (GiveUp i n) Given h = (unless_execution (status_of s.slots i) n w Given _ (λ e. cc) (λ e. cc) h).0
allowed_status base s w event reply h = tt
