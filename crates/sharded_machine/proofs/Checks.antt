-- A check by touching lists alone, in sixteen shards: its reply is one that the machine may give.
use Rattle.std.proofs.Common.{◌≡◌, ℕ, List, length, Option, Some, None, slice_get, sym, ap, ◌∙◌, subst}
use Rattle.incarnations.specs.declared.state.Pass.{Pass}
use Rattle.incarnations.specs.declared.state.Status.TheVariants.{Executed}
use Rattle.incarnations.specs.declared.state.Event.TheVariants.{Check}
use Rattle.incarnations.specs.declared.state.Reply.{Reply}
use Rattle.incarnations.specs.Slots.{Noted, Slot}
use Rattle.validate.specs.declared.checks.Verdict.{Verdict}
use Rattle.validate.specs.declared.checks.Verdict.TheVariants as verdict
use Rattle.validate.specs.Below.{slot_at}
use Rattle.slots.specs.Slots.{status_of}
use Rattle.shards.specs.Shards.{shards_of}
use Rattle.block_machine.specs.Machine.{State, Unless, verdict_reply}
use Rattle.block_machine.specs.Serial.{Setting, IsSetting, state_of}
use Rattle.sharded_machine.specs.Histories.{ShardedEntry, entries, state_at, opening_of, found_lengths, KeepsLengths, parts_found, lists_noted, checked_note, shards_checked, NoteFound, CheckFound, pass_checked, check_shards, ListsVerdict, IsAllowedAfter, IsShardedHistory}
use Rattle.sharded_machine.proofs.Theorem.{not_refused, opened_within}
use Rattle.sharded_machine.proofs.Lists.{sharded_lists_are_enough}

module _ (m : Setting) (ok : IsSetting m) (history : List ShardedEntry) (lawful : IsShardedHistory m history) (i n : ℕ) (lengths : List ℕ) where
  abbrev s : State
  s = state_of m (entries history)

  abbrev opened : List Slot
  opened = (state_at m history (opening_of lengths)).slots

  row : (note : Noted) (k : ℕ) (lists : List (List (ℕ × ℕ))) (v : Verdict) → status_of s.slots i ≡ Some (Executed n) → slice_get (slot_at s.slots i).notes k ≡ Some note
      → slice_get (lists_noted m history i n) k ≡ Some lists → length (found_lengths lengths) ≡ length (shards_of note.read)
      → ListsVerdict opened (parts_found m history (shards_of note.read) (found_lengths lengths)) lists i note.read v
      → NoteFound m.base opened (parts_found m history (shards_of note.read) (found_lengths lengths)) (slice_get (lists_noted m history i n) k) i (Some note) (verdict_reply v)
  row note k lists (verdict.Blocked j) st at noted len h = h
  row note k lists verdict.Same st at noted len h = (h.0, sharded_lists_are_enough m history i n k note (found_lengths lengths) ok lawful st at len (noted ∙ ap Some h.1))
  row note k lists verdict.Changed st at noted len h = (h.0, λ same. h.1 (some_same lists _ (sym noted ∙ same)))
    where
      some_same : (a b : List (List (ℕ × ℕ))) → Some a ≡ Some b → a ≡ b
      some_same a b e = cc

  pub check_by_lists : (w : ℕ) (pass : Pass) (note : Noted) (lists : List (List (ℕ × ℕ))) (v : Verdict) → status_of s.slots i ≡ Some (Executed n) → pass_checked m history i lengths ≡ Some pass
      → slice_get (slot_at s.slots i).notes pass.next ≡ Some note → slice_get (lists_noted m history i n) pass.next ≡ Some lists → KeepsLengths history w (shards_of note.read) lengths
      → ListsVerdict opened (parts_found m history (shards_of note.read) (found_lengths lengths)) lists i note.read v → IsAllowedAfter m history w (Check i n) (verdict_reply v) lengths
  check_by_lists w pass note lists v st stands at noted kept h =
      let open_row = not_refused (status_of s.slots i) n st in
      let shards : check_shards m history i n lengths ≡ shards_of note.read =
      ap (λ (o : Option Reply). shards_checked (checked_note o (slot_at s.slots i).notes (pass_checked m history i lengths))) open_row
      ∙ ap (λ (o : Option Pass). shards_checked (checked_note None (slot_at s.slots i).notes o)) stands
      ∙ ap shards_checked at in (
        subst (λ (ks : List ℕ). KeepsLengths history w ks lengths) (sym shards) kept,
        subst (λ (o : Option Reply). Unless o (verdict_reply v) (CheckFound m.base opened (parts_found m history (check_shards m history i n lengths) (found_lengths lengths)) (lists_noted m history i n) i (slot_at s.slots i).notes (pass_checked m history i lengths) (verdict_reply v))) (sym open_row)
            (subst (λ (ks : List ℕ). CheckFound m.base opened (parts_found m history ks (found_lengths lengths)) (lists_noted m history i n) i (slot_at s.slots i).notes (pass_checked m history i lengths) (verdict_reply v)) (sym shards)
            (subst (λ (o : Option Pass). CheckFound m.base opened (parts_found m history (shards_of note.read) (found_lengths lengths)) (lists_noted m history i n) i (slot_at s.slots i).notes o (verdict_reply v)) (sym stands)
            (subst (λ (o : Option Noted). NoteFound m.base opened (parts_found m history (shards_of note.read) (found_lengths lengths)) (slice_get (lists_noted m history i n) pass.next) i o (verdict_reply v)) (sym at)
            (row note pass.next lists v st at noted (opened_within (shards_of note.read) lengths (length history) kept.one_each kept.rise).0 h)))),
      )
