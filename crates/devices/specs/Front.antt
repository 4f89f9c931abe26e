-- The first bytes of a text, and why they did not come.
use Rattle.std.specs.Prelude.{◌≡◌, ◌≤◌, ◌<◌, ◌++◌, ℕ, Bool, true, false, List, [], length, Result, Ok, Err, Option}
use Rattle.std.specs.Io.KnownBytes.{Consumes, IsAtEnd}
use Rattle.devices.specs.declared.front.ReadFault.{ReadFault}
use Rattle.devices.specs.declared.front.ReadFault.TheVariants as fault

-- these bytes are the front of a text, all of it if they are at most so many
pub record IsFront (limit : ℕ) (text bytes : List ℕ) : Type 0 where
  pub rest : List ℕ
  pub cut : text ≡ bytes ++ rest
  pub whole : length bytes ≤ limit → rest ≡ []

-- a reader, which had some bytes left before and has some left after, gave bytes that now stand
-- behind others: all that it had, or so many that more than the limit stand there
pub record IsFilled (limit : ℕ) (before after : Option (List ℕ)) (old new : List ℕ) (is_all : Bool) : Type 0 where
  pub given : List ℕ
  pub cut : new ≡ old ++ given
  pub taken : Consumes before after given
  pub all : is_all ≡ true → IsAtEnd after
  pub more : is_all ≡ false → limit < length new

-- the device failed
abbrev pub is_device : {A : Type 0} → Result A ReadFault → Bool
is_device (Ok x) = false
is_device (Err fault.OutOfMemory) = false
is_device (Err fault.Device) = true
