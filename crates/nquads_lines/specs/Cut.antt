-- The lines that are left after the first.
use Rattle.std.specs.Prelude.{ℕ, ◌+◌, List, [], Option, Some, None, length}
use Rattle.std.specs.Borrow.{Bor}
use Rattle.nquads_lines.specs.Lines.{lines}

abbrev pub later_lines : Option (Bor (List ℕ)) → List (List ℕ)
later_lines None = []
later_lines (Some rest) = lines rest.now

-- the bytes that are left, and the end of the line
abbrev pub later_length : Option (Bor (List ℕ)) → ℕ
later_length None = 0
later_length (Some rest) = length rest.now + 1
