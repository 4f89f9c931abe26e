use Rattle.std.proofs.Common.{◌≡◌, ◌+◌, ◌-◌, ◌++◌, List, ℕ}
use Rattle.std.proofs.Common.{vec_len}
use Rattle.std.specs.Io.KnownBytes.{Consumes}
use Rattle.devices.proofs.front.fill.Given as goal

abbrev pub invariant-loop-buffer : goal.invariant-loop-buffer
invariant-loop-buffer g l =
    let remaining = g.R.Read.remaining in
    (given : List ℕ) × (l.bytes.items ≡ l.fn.bytes.items ++ given) × Consumes (remaining l.fn.reader.inner) (remaining l.reader.inner) given
    × (l.reader.failures ≡ l.fn.reader.failures)

abbrev pub decreases-loop-buffer : goal.decreases-loop-buffer
decreases-loop-buffer g l = l.limit + 1 - vec_len l.bytes
