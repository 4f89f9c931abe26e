-- Where is looked for what the requests below one have published.
use Rattle.std.specs.Prelude.{◌≡◌, ℕ, zero, suc, ◌<◌, ◌≤◌, Bool, true, false, List, length, slice_index_or}
use Rattle.reads.specs.Reads.{Read, covers}
use Rattle.incarnations.specs.Slots.{Slot}
use Rattle.validate.specs.Below.{slot_at}

-- no request from a on and below b covers the read
abbrev pub NoneCovers : List Slot → Read → ℕ → ℕ → Type 0
NoneCovers slots read a b = (j : ℕ) → a ≤ j → j < b → covers (slot_at slots j).delta read ≡ false

-- the request at this place of a list, and past its end the request i
abbrev pub request_at : List ℕ → ℕ → ℕ → ℕ
request_at list i k = slice_index_or list k i

-- the request after the first k of a list of requests from low on
abbrev pub after_first : ℕ → List ℕ → ℕ → ℕ → ℕ
after_first low list i zero = low
after_first low list i (suc k) = suc (request_at list i k)

-- a rising list of requests from low on and below i that has all of them whose delta covers the
-- read
pub record Leads (slots : List Slot) (read : Read) (low : ℕ) (list : List ℕ) (i : ℕ) : Type 0 where
  pub within : (k : ℕ) → k < length list → request_at list i k < i
  pub rising : (k : ℕ) → k ≤ length list → after_first low list i k ≤ request_at list i k
  pub none : (k : ℕ) → k ≤ length list → NoneCovers slots read (after_first low list i k) (request_at list i k)

-- what is published lets through each read that a request's delta covers
abbrev pub Knows : (Read → Bool) → List Slot → Type 0
Knows published slots = (j : ℕ) (read : Read) → covers (slot_at slots j).delta read ≡ true → published read ≡ true
