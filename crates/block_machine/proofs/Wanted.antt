-- A check by answers passes where it may, and a check by touching lists aborts where it may.
use Rattle.std.proofs.Common.{◌≡◌, ℕ, zero, suc, ◌<◌, List, [], ◌∷◌, length, Option, Some, None, slice_get, refl, sym, ◌∙◌, arith}
use Rattle.std.proofs.lemmas.Option.{none-some}
use Rattle.reads.specs.Reads.{View}
use Rattle.incarnations.specs.declared.state.Reply.TheVariants.{Passed, Aborted}
use Rattle.incarnations.specs.Slots.{Noted, Slot}
use Rattle.validate.specs.declared.checks.Verdict.{Verdict}
use Rattle.validate.specs.declared.checks.Verdict.TheVariants as verdict
use Rattle.validate.specs.Verdicts.{NoteVerdict, ListVerdict}
use Rattle.block_machine.specs.Machine.{NamesAnswer, NoteReply, verdict_reply}

pub wanted_by_answers : (base : View) (slots : List Slot) (i : ℕ) (note : Noted) (v : Verdict) → NoteVerdict base slots i note v → NoteReply base slots i (Some note) Passed → verdict_reply v ≡ Passed
wanted_by_answers base slots i note (verdict.Blocked j) is may = absurd (let both : Some j ≡ None = sym is ∙ may.0 in (cc))
wanted_by_answers base slots i note verdict.Same is may = refl
wanted_by_answers base slots i note verdict.Changed is may = absurd (is.1 may.1)

pub wanted_by_lists : (base : View) (slots : List Slot) (i : ℕ) (note : Noted) (v : Verdict) → ListVerdict slots i note.read note.touching v → NoteReply base slots i (Some note) Aborted → verdict_reply v ≡ Aborted
wanted_by_lists base slots i note (verdict.Blocked j) is may = absurd (let both : Some j ≡ None = sym is ∙ may.0 in (cc))
wanted_by_lists base slots i note verdict.Same is may = absurd (may.1 is.1)
wanted_by_lists base slots i note verdict.Changed is may = refl

-- the same of a note that is found by its number, if there is one

module _ (base : View) (slots : List Slot) (i : ℕ) where
  pub wanted_answers : (o : Option Noted) (v : Verdict) → ((note : Noted) → o ≡ Some note → NoteVerdict base slots i note v) → NoteReply base slots i o Passed → verdict_reply v ≡ Passed
  wanted_answers None v h may = absurd may
  wanted_answers (Some note) v h may = wanted_by_answers base slots i note v (h note refl) may

  pub wanted_lists : (o : Option Noted) (v : Verdict) → ((note : Noted) → o ≡ Some note → ListVerdict slots i note.read note.touching v) → NoteReply base slots i o Aborted → verdict_reply v ≡ Aborted
  wanted_lists None v h may = absurd may
  wanted_lists (Some note) v h may = wanted_by_lists base slots i note v (h note refl) may

  by_answers : (note : Noted) (v : Verdict) → NamesAnswer base slots i note → NoteVerdict base slots i note v → NoteReply base slots i (Some note) (verdict_reply v)
  by_answers note (verdict.Blocked j) names h = h
  by_answers note verdict.Same names h = h
  by_answers note verdict.Changed names h = (h.0, λ e. h.1 (names e))

  pub reply_answers : (o : Option Noted) → (o ≡ None → ⊥) → (v : Verdict) → ((note : Noted) → o ≡ Some note → NamesAnswer base slots i note) → ((note : Noted) → o ≡ Some note → NoteVerdict base slots i note v) → NoteReply base slots i o (verdict_reply v)
  reply_answers None there v names h = absurd (there refl)
  reply_answers (Some note) there v names h = by_answers note v (names note refl) (h note refl)

  pub reply_lists : (enough : (note : Noted) (v : Verdict) → NamesAnswer base slots i note → ListVerdict slots i note.read note.touching v → NoteReply base slots i (Some note) (verdict_reply v)) → (o : Option Noted) → (o ≡ None → ⊥) → (v : Verdict) → ((note : Noted) → o ≡ Some note → NamesAnswer base slots i note)
      → ((note : Noted) → o ≡ Some note → ListVerdict slots i note.read note.touching v) → NoteReply base slots i o (verdict_reply v)
  reply_lists enough None there v names h = absurd (there refl)
  reply_lists enough (Some note) there v names h = enough note v (names note refl) (h note refl)

pub is_there : (notes : List Noted) (at : ℕ) → at < length notes → slice_get notes at ≡ None → ⊥
is_there [] at lt e = absurd (omega (arith, lt))
is_there (n ∷ notes) zero lt e = absurd (none-some n (sym e))
is_there (n ∷ notes) (suc at) lt e = is_there notes at (omega (arith, lt)) e
