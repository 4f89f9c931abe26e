use Rattle.std.proofs.Common.{◌≡◌, ◌<◌, ◌≤◌, ℕ, Some, vec_len}
use Rattle.std.specs.Prelude.{slice_get, vec_capacity}
use Rattle.blocklock.specs.Passes.{fresh_pass, dealer}
use Rattle.blocklock.proofs.lock.BlockLock.new.Given as goal

abbrev pub invariant-loop-worker : goal.invariant-loop-worker
invariant-loop-worker g l =
    (l.seat.table_id ≡ l.lock.id) × (l.seat.me ≡ dealer l.seats (g.B.Journaled.history l.fn.book) l.worker) × (l.seats ≤ vec_capacity l.passes) × (vec_len l.passes ≡ l.worker)
    × ((k : ℕ) → k < l.worker → slice_get l.passes.items k ≡ Some (fresh_pass l.lock (g.B.Journaled.history l.fn.book) k))
