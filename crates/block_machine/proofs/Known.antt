-- What was checked of notes, and since when nothing below has changed.
use Rattle.std.proofs.Common.{◌≡◌, ℕ, zero, suc, ◌<◌, ◌≤◌, inl, inr, true, List, [], ◌∷◌, length, Some, slice_get, sym, subst, arith, leb-true}
use Rattle.std.specs.Prelude.{nat_le}
use Rattle.std.proofs.lemmas.Bool.{cases_eq, and_parts}
use Rattle.reads.specs.Reads.{View, says}
use Rattle.reads.specs.Runs.{Agrees}
use Rattle.incarnations.specs.Slots.{Noted, Slot, transcript_of}
use Rattle.validate.specs.Below.{slot_at}
use Rattle.block_machine.specs.Machine.{is_current}

-- no request below i has changed after this moment
abbrev pub Clear : List Slot → ℕ → ℕ → Type 0
Clear slots i moment = (j : ℕ) → j < i → (slot_at slots j).changed ≤ moment

pub is_current-Clear : (slots : List Slot) (i moment : ℕ) → is_current slots i moment ≡ true → Clear slots i moment
unfolding is_current
is_current-Clear slots zero moment e j h = absurd (omega arith)
is_current-Clear slots (suc i) moment e j h =
    let p = and_parts (nat_le (slot_at slots i).changed moment) (is_current slots i moment) e in
    elim (cases_eq j i) [
      | inl same ↦ subst (λ n. (slot_at slots n).changed ≤ moment) (sym same) (leb-true _ _ p.0)
      | inr ne ↦ is_current-Clear slots i moment p.1 j (omega arith)
    ]

-- the first k notes have the answers of this view
abbrev pub Known : View → ℕ → List Noted → Type 0
Known v zero ns = Unit {0}
Known v (suc k) [] = Unit {0}
Known v (suc k) (n ∷ ns) = (n.answer ≡ says n.read v) × Known v k ns

pub known_more : (v : View) (k : ℕ) (ns : List Noted) (n : Noted) → Known v k ns → slice_get ns k ≡ Some n → n.answer ≡ says n.read v → Known v (suc k) ns
known_more v k [] n h e a = tt
known_more v zero (x ∷ ns) n h e a =
    let same : x ≡ n = cc in
    (subst (λ (y : Noted). y.answer ≡ says y.read v) (sym same) a, tt)
known_more v (suc k) (x ∷ ns) n h e a = (h.0, known_more v k ns n h.1 e a)

pub known_agrees : (v : View) (ns : List Noted) → Known v (length ns) ns → Agrees (transcript_of ns) v
known_agrees v [] h = tt
known_agrees v (n ∷ ns) h = (h.0, known_agrees v ns h.1)
