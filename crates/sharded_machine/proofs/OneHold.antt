-- A read that is lawful in one shard is so in sixteen, with every part found after the whole
-- history.
use Rattle.std.proofs.Common.{◌≡◌, ◌≢◌, ℕ, zero, suc, ◌&&◌, ◌||◌, if◌then◌else◌, List, [], ◌∷◌, length, map, All, Option, Some, None, refl, sym, ap, ◌∙◌, subst, arith}
use Rattle.std.proofs.Math.Nat.{le_refl}
use Rattle.std.proofs.lemmas.List.{length-map, take_all, drop_all}
use Rattle.std.specs.List.{list_any}
use Rattle.reads.specs.Reads.{Read, says, covers}
use Rattle.incarnations.specs.declared.state.Event.TheVariants.{Read as ReadOf}
use Rattle.incarnations.specs.declared.state.Reply.{Reply}
use Rattle.incarnations.specs.declared.state.Reply.TheVariants.{Taken, Answered, Blocked, Published, Begun, Passed, Aborted, Committed, Given, Stale, NotYours, NotYet}
use Rattle.incarnations.specs.Slots.{Slot}
use Rattle.incarnations.specs.Statuses.{execution_refusal}
use Rattle.validate.specs.Below.{slot_at, view_at, blocker}
use Rattle.slots.specs.Slots.{status_of}
use Rattle.shards.specs.Shards.{shards_of, cut, part_of_answer, merged}
use Rattle.shards.specs.Laws.{CoversInParts}
use Rattle.block_machine.specs.Machine.{State, Unless, ReadReply, IsAllowed}
use Rattle.block_machine.specs.Serial.{Setting, IsSetting, state_of}
use Rattle.sharded_machine.specs.Histories.{ShardedEntry, entries, state_at, RiseWithin, KeepsLengths, Part, parts_found, answer_found, blocker_found, ReadFound, IsAllowedAfter}
use Rattle.sharded_machine.proofs.Parts.{Laws, slot_cut, part_of_view, view_rises}

unless_map : (o : Option Reply) (r : Reply) (P Q : Type 0) → (P → Q) → Unless o r P → Unless o r Q
unless_map (Some refusal) r P Q f h = h
unless_map None r P Q f h = f h

module _ (laws : Laws) (covers_in_parts : CoversInParts) (m : Setting) (ok : IsSetting m) (history : List ShardedEntry) where
  abbrev n : ℕ
  n = length history

  abbrev s : State
  s = state_of m (entries history)

  whole : state_at m history n ≡ s
  whole = ap (λ (es : List ShardedEntry). state_of m (entries es)) (take_all n history (le_refl n))

  rises : (ks : List ℕ) → RiseWithin n (map (λ k. n) ks) n
  rises [] = le_refl n
  rises (k ∷ ks) = (le_refl n, rises ks)

  lengths_kept : (w : ℕ) (ks : List ℕ) → KeepsLengths history w ks (n ∷ map (λ k. n) ks)
  lengths_kept w ks =
      record {
        one_each = (let l : length (map (λ k. n) ks) ≡ length ks = length-map ks (λ k. n) in omega (arith, l));
        rise = (omega arith, rises ks);
        own = subst (λ (es : List ShardedEntry). All (λ (e : ShardedEntry). e.entry.worker ≢ w) es) (sym (drop_all n history (le_refl n))) (λ k d lt. absurd (omega arith));
      }

  covered : (j : ℕ) (r : Read) (ks : List ℕ) → list_any (λ (p : Part). covers (slot_at p.slots j).delta r) (parts_found m history ks (map (λ k. n) ks)) ≡ list_any (λ k. covers (cut k (slot_at s.slots j).delta) r) ks
  unfolding parts_found
  covered j r [] = refl
  covered j r (k ∷ ks) =
      λ t. (ap (λ (x : Slot). covers x.delta r) (slot_cut k (state_at m history n).slots j) ∙ ap (λ (z : State). covers (cut k (slot_at z.slots j).delta) r) whole) t || covered j r ks t

  blocked : (r : Read) (i : ℕ) → blocker_found (state_at m history n).slots (parts_found m history (shards_of r) (map (λ k. n) (shards_of r))) i r ≡ blocker s.slots i r
  unfolding blocker_found blocker
  blocked r zero = refl
  blocked r (suc j) =
      λ t. if (slot_at (whole t).slots j).estimate && (covered j r (shards_of r) ∙ sym (covers_in_parts (slot_at s.slots j).delta r)) t then Some j else blocked r j t

  parts : (r : Read) (i : ℕ) (ks : List ℕ) → map (λ (p : Part). part_of_answer p.shard (says r (view_at m.base p.slots i))) (parts_found m history ks (map (λ k. n) ks)) ≡ map (λ k. part_of_answer k (says r (view_at m.base s.slots i))) ks
  unfolding parts_found
  parts r i [] = refl
  parts r i (k ∷ ks) =
      λ t. (part_of_view laws m.base k (state_at m history n).slots r i ∙ ap (λ (z : State). part_of_answer k (says r (view_at m.base z.slots i))) whole) t ∷ parts r i ks t

  answer : (r : Read) (i : ℕ) → answer_found m.base (parts_found m history (shards_of r) (map (λ k. n) (shards_of r))) i r ≡ says r (view_at m.base s.slots i)
  answer r i = ap (merged r) (parts r i (shards_of r)) ∙ laws.merged (view_at m.base s.slots i) r (view_rises laws m.base ok.base.set s.slots i)

  row : (i : ℕ) (r : Read) (reply : Reply) → ReadReply m.base s.slots i r reply → ReadFound m.base (state_at m history n).slots (parts_found m history (shards_of r) (map (λ k. n) (shards_of r))) i r reply
  row i r (Blocked j) h = blocked r i ∙ h
  row i r (Answered a) h = (blocked r i ∙ h.0, h.1 ∙ sym (answer r i))
  row i r (Taken k) h = h
  row i r Published h = h
  row i r Begun h = h
  row i r Passed h = h
  row i r Aborted h = h
  row i r Committed h = h
  row i r Given h = h
  row i r Stale h = h
  row i r NotYours h = h
  row i r NotYet h = h

  pub read_in_one_hold : (w i k : ℕ) (r : Read) (reply : Reply) → IsAllowed m.base s w (ReadOf i k r) reply → IsAllowedAfter m history w (ReadOf i k r) reply (n ∷ map (λ k. n) (shards_of r))
  read_in_one_hold w i k r reply h =
      (lengths_kept w (shards_of r), unless_map (execution_refusal (status_of s.slots i) k w) reply _ _ (row i r reply) h)
