-- The clock and the incarnations are no larger than the history is long, so there is room for a
-- step.
use Rattle.std.proofs.Common.{◌≡◌, ℕ, suc, ◌+◌, ◌^◌, ◌<◌, List, [], ◌∷◌, ◌++◌, length, length-append, sym, subst, arith}
use Rattle.std.proofs.lemmas.List.{append_assoc, append-nil}
use Rattle.block_machine.specs.Machine.{State, HasNext, HasRoom, state_after}
use Rattle.block_machine.specs.Serial.{Setting, state_of}
use Rattle.block_machine.proofs.Invariant.{Invariant}
use Rattle.block_machine.proofs.Bounds.{Bounded, bounded_step, fresh_bounded}
use Rattle.block_machine.proofs.Ready.{next_holds}
use Rattle.sharded_machine.specs.Histories.{ShardedEntry, entries, LawfulAfter, IsShardedHistory}
use Rattle.sharded_machine.proofs.Statuses.{sharded_status}
use Rattle.sharded_machine.proofs.Theorem.{state_push}

sharded_bounded : (m : Setting) (before history : List ShardedEntry) → Bounded (state_of m (entries before)).slots (state_of m (entries before)).clock (length before) → LawfulAfter m before history
    → Bounded (state_of m (entries (before ++ history))).slots (state_of m (entries (before ++ history))).clock (length (before ++ history))
sharded_bounded m before [] b lawful =
    subst (λ (es : List ShardedEntry). Bounded (state_of m (entries es)).slots (state_of m (entries es)).clock (length es)) (sym (append-nil before)) b
sharded_bounded m before (e ∷ es) b lawful =
    let s = state_of m (entries before) in
    let next = bounded_step s (length before) b e.entry.worker e.entry.event e.entry.reply (sharded_status m before e.entry.worker e.entry.event e.entry.reply e.lengths lawful.0.0) in
    let l = length-append before (e ∷ []) in
    let longer : suc (length before) ≡ length (before ++ e ∷ []) = omega (arith, l) in
    subst (λ (xs : List ShardedEntry). Bounded (state_of m (entries xs)).slots (state_of m (entries xs)).clock (length xs)) (append_assoc before (e ∷ []) es)
    (sharded_bounded m (before ++ e ∷ []) es
    (subst (λ (k : ℕ). Bounded (state_of m (entries (before ++ e ∷ []))).slots (state_of m (entries (before ++ e ∷ []))).clock k) longer
    (subst (λ (t : State). Bounded t.slots t.clock (suc (length before))) (sym (state_push m before e)) next))
    lawful.1)

pub sharded_bounded_after : (m : Setting) (history : List ShardedEntry) → IsShardedHistory m history → Bounded (state_of m (entries history)).slots (state_of m (entries history)).clock (length history)
unfolding IsShardedHistory state_after
sharded_bounded_after m history h = sharded_bounded m [] history (fresh_bounded m.size) h

-- room for a step, and a next note for each pass
pub sharded_ready : (m : Setting) (history : List ShardedEntry) → Invariant m (state_of m (entries history)) → IsShardedHistory m history → length history + 1 < 2 ^ 64
    → HasRoom (state_of m (entries history)) × ((i : ℕ) → HasNext (state_of m (entries history)) i)
sharded_ready m history inv h short =
    let b = sharded_bounded_after m history h in (
      record {
        clock = (let c = b.clock_le in omega (arith, c, short));
        slots = λ i st e. (let c = b.slots_le i st e in omega (arith, c, short));
      },
      next_holds m (state_of m (entries history)) inv,
    )
