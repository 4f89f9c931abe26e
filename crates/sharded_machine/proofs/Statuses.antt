-- The status that an answered event finds in sixteen shards.
use Rattle.std.proofs.Common.{ℕ, List, Some}
use Rattle.incarnations.specs.declared.state.Event.{Event}
use Rattle.incarnations.specs.declared.state.Event.TheVariants.{Take, Read as ReadOf, Publish, Begin, Check, Commit, GiveUp}
use Rattle.incarnations.specs.declared.state.Reply.{Reply}
use Rattle.incarnations.specs.declared.state.Reply.TheVariants.{Taken, Answered, Published, Begun, Passed, Aborted, Committed, Given}
use Rattle.incarnations.specs.Statuses.{is_closed}
use Rattle.slots.specs.Slots.{status_of}
use Rattle.block_machine.specs.Machine.{can_commit}
use Rattle.block_machine.specs.Serial.{Setting, state_of}
use Rattle.block_machine.proofs.Statuses.{HasStatus}
use Rattle.block_machine.proofs.Theorem.{unless_execution, unless_executed, take_ready, commit_can}
use Rattle.sharded_machine.specs.Histories.{ShardedEntry, entries, IsAllowedAfter}

pub sharded_status : (m : Setting) (history : List ShardedEntry) (w : ℕ) (e : Event) (r : Reply) (lengths : List ℕ) → IsAllowedAfter m history w e r lengths → HasStatus (state_of m (entries history)).slots w e r
sharded_status m history w (Take i) (Taken n) lengths h = take_ready (status_of (state_of m (entries history)).slots i) n h.1
sharded_status m history w (ReadOf i n read) (Answered a) lengths h = (unless_execution (status_of (state_of m (entries history)).slots i) n w (Answered a) _ (λ e. cc) (λ e. cc) h.1).0
sharded_status m history w (Publish i n (Some f)) Published lengths h = (unless_execution (status_of (state_of m (entries history)).slots i) n w Published _ (λ e. cc) (λ e. cc) h.1).0
sharded_status m history w (Begin i n) Begun lengths h = (unless_executed (status_of (state_of m (entries history)).slots i) n Begun _ (λ e. cc) h.1).0
sharded_status m history w (Check i n) Passed lengths h = (unless_executed (status_of (state_of m (entries history)).slots i) n Passed _ (λ e. cc) h.1).0
sharded_status m history w (Check i n) Aborted lengths h = (unless_executed (status_of (state_of m (entries history)).slots i) n Aborted _ (λ e. cc) h.1).0
sharded_status m history w (Commit i) Committed lengths h = (commit_can (is_closed (status_of (state_of m (entries history)).slots i)) (can_commit (state_of m (entries history)) i) h.1).0
sharded_status m history w (GiveUp i n) Given lengths h = (unless_execution (status_of (state_of m (entries history)).slots i) n w Given _ (λ e. cc) (λ e. cc) h.1).0
sharded_status m history w event reply lengths h = tt
