-- Language tags, read a byte at a time.
use Rattle.std.specs.Prelude.{ℕ, ◌==◌, ◌||◌, Bool, true, false, Option, Some, None, if◌then◌else◌}
use Rattle.iris.specs.Iri.{is_digit}
use Rattle.iris.specs.Forms.{InTag, start, first, dash, later, is_small_letter}
use Rattle.terms.specs.declared.forms.Place.{Place}
use Rattle.terms.specs.declared.forms.Place.TheVariants.{Start, First, Dash, Later}

abbrev pub place_of : Place → InTag
place_of Start = start
place_of First = first
place_of Dash = dash
place_of Later = later

-- where a tag is after one more byte
abbrev pub next_place : InTag → ℕ → Option InTag
next_place start b = if is_small_letter b then Some first else None
next_place first b = if is_small_letter b then Some first else if b == 45 then Some dash else None
next_place dash b = if is_small_letter b || is_digit b then Some later else None
next_place later b = if is_small_letter b || is_digit b then Some later else if b == 45 then Some dash else None

-- a tag may end here
abbrev pub is_last : InTag → Bool
is_last start = false
is_last first = true
is_last dash = false
is_last later = true
