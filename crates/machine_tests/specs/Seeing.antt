-- What made calls.
use Rattle.std.specs.Prelude.{◌≡◌}
use Rattle.shared.specs.Calls.{Viewed}
use Rattle.book.specs.Run.{Run}

-- a pass that has seen something else, and is the same otherwise
abbrev pub Sees : Viewed → Viewed → Type 0
Sees before after = after ≡ record before { seen = after.seen }

-- a book that has another history, and is about the same
abbrev pub Follows : Run → Run → Type 0
Follows before after = after ≡ record before { history = after.history }
