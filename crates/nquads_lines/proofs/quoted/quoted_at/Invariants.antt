use denote.Text.{Utf8}
use denote.Shadow.{shadow}
use Rattle.std.proofs.Common.{◌≡◌, length}
use Rattle.std.specs.Prelude.{string_bytes}
use Rattle.iris.specs.Runs.{Stops}
use Rattle.nquads_lines.specs.Undone.{is_open, before, quoted_from, quoted_at}
use Rattle.nquads_lines.proofs.quoted.quoted_at.Given as goal

abbrev pub invariant-loop-text : goal.invariant-loop-text
invariant-loop-text l =
    shadow (Utf8 l.rest) × (quoted_at l.quote l.text ≡ before (string_bytes l.value) (quoted_from l.quote 0 l.rest)) × Stops (is_open l.quote) l.rest

abbrev pub decreases-loop-text : goal.decreases-loop-text
decreases-loop-text l = length l.rest
