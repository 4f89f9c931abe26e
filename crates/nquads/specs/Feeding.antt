-- What is kept of a base that comes in pieces.
use Rattle.std.specs.Prelude.{ℕ, ◌≡◌, ◌++◌, ◌==◌, ◌&&◌, ◌⊎◌, not, Bool, true, false, List, [], ◌∷◌, length, None, IfSome}
use Rattle.nquads_lines.specs.Lines.{is_inner}
use Rattle.nquads.specs.declared.fault.BaseFault.{BaseFault}
use Rattle.nquads.specs.declared.fault.BaseFault.TheVariants as fault
use Rattle.nquads.specs.declared.reader.ReadText.{ReadText}
use Rattle.nquads.specs.declared.kept.Kept.{Kept}
use Rattle.nquads.specs.declared.feed.Feed.{Feed}
use Rattle.nquads.specs.Spelled.{IsFirstBadOf}
use Rattle.nquads.specs.Portions.{IsReadText, EndsWithLine, both}
use Rattle.nquads.specs.Fed.{Fed, Stops, lines_that_ended}

-- a CR that ends a line, since another byte than LF follows
abbrev pub EndsByCr : List ℕ → List ℕ → Type 0
EndsByCr front rest = (inner : List ℕ) × (b : ℕ) × (bs : List ℕ) × (front ≡ inner ++ 13 ∷ []) × (rest ≡ b ∷ bs) × ((b == 10) ≡ false)

-- whole lines, where these bytes follow
abbrev pub EndsBefore : List ℕ → List ℕ → Type 0
EndsBefore front rest = EndsWithLine front ⊎ EndsByCr front rest

-- nothing, or whole lines
abbrev pub AreEnded : List ℕ → List ℕ → Type 0
AreEnded front rest = (front ≡ []) ⊎ EndsBefore front rest

-- no line's end is known
abbrev pub is_begun : List ℕ → Bool
is_begun [] = true
is_begun (b ∷ []) = not (b == 10)
is_begun (b ∷ c ∷ bs) = is_inner b && is_begun (c ∷ bs)

-- of these bytes: what the whole lines say, and the bytes behind them
pub record Keeps (bytes : List ℕ) (kept : Kept) : Type 0 where
  pub front : List ℕ
  pub cut : bytes ≡ front ++ kept.rest.items
  pub ended : AreEnded front kept.rest.items
  pub said : IsReadText front kept.read
  pub begun : is_begun kept.rest.items ≡ true
  pub count : kept.len ≡ length front

pub record IsSame (old new : Kept) : Type 0 where
  pub read : new.read ≡ old.read
  pub len : new.len ≡ old.len
  pub rest : new.rest.items ≡ old.rest.items

-- a text was read behind others
abbrev pub HasMore : List ℕ → ReadText → ReadText → Type 0
HasMore text old new = (more : ReadText) × IsReadText text more × (new ≡ both old more)

-- why bytes within the limit were not taken in: the first bad line whose end is known
abbrev pub StopsAmong : List ℕ → BaseFault → Type 0
StopsAmong all fault.OutOfMemory = Unit {0}
StopsAmong all (fault.BadLine n) = IsFirstBadOf (lines_that_ended all) n
StopsAmong all fault.TooLong = ⊥
StopsAmong all fault.Device = ⊥

-- what was fed to this feed
pub record IsFed (limit : ℕ) (fed : Fed) (feed : Feed) : Type 0 where
  pub most : feed.limit ≡ limit
  pub fault : feed.fault ≡ fed.told
  pub kept : fed.told ≡ None → Keeps fed.bytes feed.kept
  pub why : IfSome fed.told (Stops limit fed.bytes)
