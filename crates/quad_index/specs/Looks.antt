-- Looks: how many entries of sorted orders were read. A binary search reads no more entries than
-- their number has binary digits.
use Rattle.std.specs.Prelude.{ℕ, ◌+◌, ◌-◌, ◌*◌, ◌^◌, ◌<◌, ◌≤◌}

-- a number of no more than so many binary digits
abbrev pub HasDigits : ℕ → ℕ → Type 0
HasDigits n digits = n < 2 ^ digits

-- a search in n entries
abbrev pub IsSearch : (before after n : ℕ) → Type 0
IsSearch before after n = (digits : ℕ) → HasDigits n digits → after ≤ before + digits

-- a search in n entries that ended before its time, and left so few before and after its place that
-- each can be searched in the looks that were left
abbrev pub IsNarrowed : (before after n front back : ℕ) → Type 0
IsNarrowed before after n front back = (digits : ℕ) → HasDigits n digits → (after ≤ before + digits) × HasDigits front (before + digits - after) × HasDigits back (before + digits - after)

-- a scan of n entries whose answer has m
abbrev pub IsScan : (before after n m : ℕ) → Type 0
IsScan before after n m = (digits : ℕ) → HasDigits n digits → after ≤ before + (2 * digits + m)
