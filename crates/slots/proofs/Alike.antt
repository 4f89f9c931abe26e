-- Slots are looked at by their publications alone, whatever is read of their notes.
use Rattle.std.proofs.Common.{◌≡◌, ℕ, zero, suc, ◌&&◌, List, [], ◌∷◌, ◌++◌, Some, option_to_list, refl, sym, ap, ◌∙◌}
use Rattle.std.specs.Prelude.{if◌then◌else◌}
use Rattle.reads.specs.Reads.{View, Read, says, applied, covers}
use Rattle.incarnations.specs.declared.state.Slot.{Slot as KeptSlot}
use Rattle.incarnations.specs.Slots.{Noted, Slot}
use Rattle.incarnations.specs.Kept.{slot_by, plain}
use Rattle.validate.specs.declared.checks.Verdict.{Verdict}
use Rattle.validate.specs.declared.checks.Verdict.TheVariants as verdict
use Rattle.validate.specs.Below.{slot_at, view_at, blocker, touching}
use Rattle.validate.specs.Verdicts.{NoteVerdict, ListVerdict}
use Rattle.validate.specs.Kept.{shown, whole}
use Rattle.validate.proofs.Shown.{kept_at, by_at}
use Rattle.slots.specs.Slots.{slots_of, replies_to}

-- ---- lists of slots with the same publications

module _ (a b : List Slot) where
  pub views_alike : (base : View) → ((j : ℕ) → (slot_at a j).delta ≡ (slot_at b j).delta) → (n : ℕ) → view_at base a n ≡ view_at base b n
  unfolding view_at
  views_alike base deltas zero = refl
  views_alike base deltas (suc n) = λ t. applied (deltas n t) (views_alike base deltas n t)

  pub blockers_alike : ((j : ℕ) → (slot_at a j).delta ≡ (slot_at b j).delta) → ((j : ℕ) → (slot_at a j).estimate ≡ (slot_at b j).estimate) → (n : ℕ) (read : Read) → blocker a n read ≡ blocker b n read
  unfolding blocker
  blockers_alike deltas estimates zero read = refl
  blockers_alike deltas estimates (suc n) read =
      λ t. if estimates n t && covers (deltas n t) read then Some n else blockers_alike deltas estimates n read t

  pub touching_alike : ((j : ℕ) → (slot_at a j).delta ≡ (slot_at b j).delta) → ((j : ℕ) → (slot_at a j).version ≡ (slot_at b j).version) → (n : ℕ) (read : Read) → touching a n read ≡ touching b n read
  unfolding touching
  touching_alike deltas versions zero read = refl
  touching_alike deltas versions (suc n) read =
      λ t. touching_alike deltas versions n read t ++ (if covers (deltas n t) read then (n, versions n t) ∷ [] else [])

  pub replies_alike : ((j : ℕ) → (slot_at a j).reply ≡ (slot_at b j).reply) → (n : ℕ) → replies_to a n ≡ replies_to b n
  unfolding replies_to
  replies_alike replies zero = refl
  replies_alike replies (suc n) = λ t. replies_alike replies n t ++ option_to_list (replies n t)

-- ---- the slots that are kept, and those with parts of their lists

module _ (xs : List KeptSlot) where
  field_alike : {A : Type 0} (field : Slot → A) → ((x : KeptSlot) → field (slot_by plain x) ≡ field (slot_by (whole xs) x)) → (j : ℕ) → field (slot_at (shown xs) j) ≡ field (slot_at (slots_of xs) j)
  field_alike field same j = ap field (by_at plain xs j) ∙ same (kept_at xs j) ∙ ap field (sym (by_at (whole xs) xs j))

  pub status_shown : (j : ℕ) → (slot_at (shown xs) j).status ≡ (slot_at (slots_of xs) j).status
  status_shown = field_alike (λ y. y.status) (λ x. refl)

  pub view_shown : (base : View) (n : ℕ) → view_at base (shown xs) n ≡ view_at base (slots_of xs) n
  view_shown base = views_alike (shown xs) (slots_of xs) base (field_alike (λ y. y.delta) (λ x. refl))

  pub blocker_shown : (n : ℕ) (read : Read) → blocker (shown xs) n read ≡ blocker (slots_of xs) n read
  blocker_shown = blockers_alike (shown xs) (slots_of xs) (field_alike (λ y. y.delta) (λ x. refl)) (field_alike (λ y. y.estimate) (λ x. refl))

  pub touching_shown : (n : ℕ) (read : Read) → touching (shown xs) n read ≡ touching (slots_of xs) n read
  touching_shown = touching_alike (shown xs) (slots_of xs) (field_alike (λ y. y.delta) (λ x. refl)) (field_alike (λ y. y.version) (λ x. refl))

  pub replies_shown : (n : ℕ) → replies_to (shown xs) n ≡ replies_to (slots_of xs) n
  replies_shown = replies_alike (shown xs) (slots_of xs) (field_alike (λ y. y.reply) (λ x. refl))

  pub answers_shown : (base : View) (i : ℕ) (note : Noted) (v : Verdict) → NoteVerdict base (shown xs) i note v → NoteVerdict base (slots_of xs) i note v
  answers_shown base i note (verdict.Blocked j) h = sym (blocker_shown i note.read) ∙ h
  answers_shown base i note verdict.Same h = (sym (blocker_shown i note.read) ∙ h.0, h.1 ∙ ap (says note.read) (view_shown base i))
  answers_shown base i note verdict.Changed h = (sym (blocker_shown i note.read) ∙ h.0, λ e. h.1 (e ∙ sym (ap (says note.read) (view_shown base i))))

  pub lists_shown : (i : ℕ) (read : Read) (list : List (ℕ × ℕ)) (v : Verdict) → ListVerdict (shown xs) i read list v → ListVerdict (slots_of xs) i read list v
  lists_shown i read list (verdict.Blocked j) h = sym (blocker_shown i read) ∙ h
  lists_shown i read list verdict.Same h = (sym (blocker_shown i read) ∙ h.0, h.1 ∙ touching_shown i read)
  lists_shown i read list verdict.Changed h = (sym (blocker_shown i read) ∙ h.0, λ e. h.1 (e ∙ sym (touching_shown i read)))
