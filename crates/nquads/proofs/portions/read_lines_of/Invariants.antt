use Rattle.std.proofs.Common.{◌≡◌, ◌≤◌, ◌+◌, ◌-◌, length, if◌then◌else◌}
use Rattle.nquads.specs.Portions.{IsPartlyRead, as_one, ends_of}
use Rattle.nquads.proofs.portions.read_lines_of.Given as goal

abbrev pub invariant-loop-read : goal.invariant-loop-read
invariant-loop-read g l =
    let remaining = g.R.Read.remaining in
    record {
      read : IsPartlyRead (remaining l.fn.reader.inner) (remaining l.reader.inner) l.read;
      ends : ends_of (as_one l.read.lines) ≤ l.read.len;
      within : l.read.len ≤ l.limit;
      count : l.reader.failures ≡ l.fn.reader.failures;
    }

abbrev pub decreases-loop-read : goal.decreases-loop-read
decreases-loop-read g l = if l.read.is_all then 0 else (l.limit + 1 - (l.read.len + length l.read.rest.items))
