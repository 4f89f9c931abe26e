-- How a block is cut into requests: at each line that is exactly four dashes and an LF. n such
-- lines give n + 1 requests, and no bytes give none.
use Rattle.std.specs.Borrow.{Bor}
use Rattle.std.specs.Prelude.{ℕ, ◌≡◌, ◌==◌, ◌&&◌, ◌≤◌, ◌<◌, ◌^◌, Bool, false, List, [], ◌∷◌, ◌++◌, length, Option, Result, Ok, Err, IsUtf8, if◌then◌else◌}
use Rattle.std.specs.List.{onto_first}
use Rattle.terms.specs.declared.term.Term.{Term}
use Rattle.algebra.specs.declared.update.Operation.{Operation}
use Rattle.meaning.specs.declared.reply.Refusal.{Refusal}
use Rattle.rules.specs.declared.fault.BlockFault.{BlockFault}
use Rattle.rules.specs.declared.fault.BlockFault.TheVariants as block_fault
use Rattle.rules.specs.Refusal.{IsChecked, IsJudged}

-- the lines with their LFs; the last has none, and is [] after an LF at the end
abbrev pub whole_lines : List ℕ → List (List ℕ)
whole_lines [] = [] ∷ []
whole_lines (b ∷ bs) = if b == 10 then (10 ∷ []) ∷ whole_lines bs else onto_first b (whole_lines bs)

abbrev pub is_separator : List ℕ → Bool
is_separator (a ∷ b ∷ c ∷ d ∷ e ∷ []) = (a == 45) && (b == 45) && (c == 45) && (d == 45) && (e == 10)
is_separator line = false

abbrev pub onto_text : List ℕ → List (List ℕ) → List (List ℕ)
onto_text line [] = line ∷ []
onto_text line (text ∷ texts) = (line ++ text) ∷ texts

-- the texts between separators
abbrev pub texts_of : List (List ℕ) → List (List ℕ)
texts_of [] = [] ∷ []
texts_of (line ∷ lines) = if is_separator line then [] ∷ texts_of lines else onto_text line (texts_of lines)

abbrev pub requests : List ℕ → List (List ℕ)
requests [] = []
requests (b ∷ bs) = texts_of (whole_lines (b ∷ bs))

-- each text gives its answer, in order
pub data AreEach {A : Type 0} (P : List ℕ → A → Type 0) : List (List ℕ) → List A → Type 0 where
  none : AreEach P [] []
  more : {text : List ℕ} {texts : List (List ℕ)} {c : A} {cs : List A} → P text c → AreEach P texts cs → AreEach P (text ∷ texts) (c ∷ cs)

-- the answers of a block's requests; or the first of three faults that holds: more than 2^28 bytes,
-- more than 4,096 requests, no UTF-8; or memory ran out
abbrev pub IsSplitInto : {A : Type 0} → (List ℕ → A → Type 0) → List ℕ → Result (List A) BlockFault → Type 0
IsSplitInto P bytes (Ok block) = (length bytes ≤ 2 ^ 28) × (length (requests bytes) ≤ 4096) × IsUtf8 bytes × AreEach P (requests bytes) block
IsSplitInto P bytes (Err block_fault.OutOfMemory) = Unit {0}
IsSplitInto P bytes (Err block_fault.TooLong) = 2 ^ 28 < length bytes
IsSplitInto P bytes (Err block_fault.TooManyRequests) = (length bytes ≤ 2 ^ 28) × (4096 < length (requests bytes))
IsSplitInto P bytes (Err block_fault.BadUtf8) = (length bytes ≤ 2 ^ 28) × (length (requests bytes) ≤ 4096) × (IsUtf8 bytes → ⊥)

-- the block's text, or the first of the three faults
abbrev pub IsBlockText : List ℕ → Result (Bor (List ℕ)) BlockFault → Type 0
IsBlockText bytes (Ok text) = (text.now ≡ bytes) × (length bytes ≤ 2 ^ 28) × (length (requests bytes) ≤ 4096) × IsUtf8 bytes
IsBlockText bytes (Err block_fault.OutOfMemory) = ⊥
IsBlockText bytes (Err block_fault.TooLong) = 2 ^ 28 < length bytes
IsBlockText bytes (Err block_fault.TooManyRequests) = (length bytes ≤ 2 ^ 28) × (4096 < length (requests bytes))
IsBlockText bytes (Err block_fault.BadUtf8) = (length bytes ≤ 2 ^ 28) × (length (requests bytes) ≤ 4096) × (IsUtf8 bytes → ⊥)

-- the update of each request, or why it is refused
abbrev pub AreChecked : List (List ℕ) → List (Result (List (Operation Term)) Refusal) → Type 0
AreChecked = AreEach IsChecked

abbrev pub IsSplit : List ℕ → Result (List (Result (List (Operation Term)) Refusal)) BlockFault → Type 0
IsSplit = IsSplitInto IsChecked

-- whether each request is refused
abbrev pub AreJudged : List (List ℕ) → List (Option Refusal) → Type 0
AreJudged = AreEach IsJudged

abbrev pub AreVerdicts : List ℕ → Result (List (Option Refusal)) BlockFault → Type 0
AreVerdicts = IsSplitInto IsJudged
