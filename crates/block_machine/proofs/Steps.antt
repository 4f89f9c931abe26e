-- How an event keeps what the machine has beside its state.
use Rattle.std.proofs.Common.{◌≡◌, ℕ, ◌+◌, Bool, false, true, List, length, Option, Some, None, max, slice_set, refl, sym, ap, ◌∙◌, subst}
use Rattle.std.specs.Prelude.{◌==◌, is_none, if◌then◌else◌}
use Rattle.std.proofs.lemmas.Bool.{false≢true}
use Rattle.std.proofs.lemmas.List.{get_or_default}
use Rattle.stamp_tree.specs.declared.standing.Standing.{Standing}
use Rattle.reads.specs.Reads.{View, Read}
use Rattle.stamp_tree.specs.declared.standing.Due.{Due}
use Rattle.incarnations.specs.declared.state.Pass.{Pass}
use Rattle.incarnations.specs.declared.state.Status.TheVariants.{Executed}
use Rattle.incarnations.specs.Slots.{Slot, fresh_slot, committed, passed}
use Rattle.incarnations.specs.Statuses.{is_closed}
use Rattle.incarnations.specs.Standings.{due_of, standing_of}
use Rattle.validate.specs.Below.{slot_at}
use Rattle.slots.specs.declared.asked.Asked.{Asked}
use Rattle.slots.specs.declared.asked.Asked.TheVariants as asked
use Rattle.slots.specs.Slots.{status_of, IsAsked}
use Rattle.slots.proofs.SlotLaws.{set_same, status_within}
use Rattle.block_machine.specs.Machine.{State, can_commit}
use Rattle.block_machine.specs.Beside.{KeepsBeside}
use Rattle.block_machine.proofs.Keeps.{open_within, keeps_open, keeps_committed}
use Rattle.block_machine.proofs.Standings.{standings_set, standings_same}

module _ (slots : List Slot) (front latest : ℕ) (standings : List Standing) (k : KeepsBeside slots front latest standings) (i : ℕ) (still : is_closed (status_of slots i) ≡ false) (x : Slot) (after : List Slot) (is : after ≡ slice_set slots i x) where
  at_it : slot_at after i ≡ x
  at_it = ap (λ s. slot_at s i) is ∙ set_same slots i x (open_within slots i still)

  -- a slot is set, and how it stands
  pub keeps_step : (one : Standing) → one ≡ standing_of (slot_at after i) → (next : List Standing) → next ≡ slice_set standings i one → KeepsBeside after front latest next
  keeps_step one stands next e =
      subst (λ s. KeepsBeside s front latest next) (sym is)
      (keeps_open slots front latest standings k i still x next (standings_set slots standings next i x one k.standings_are (stands ∙ ap standing_of at_it) e))

  -- a slot that stands as before
  pub keeps_stand : standing_of x ≡ standing_of (slot_at slots i) → KeepsBeside after front latest standings
  keeps_stand same =
      subst (λ s. KeepsBeside s front latest standings) (sym is)
      (keeps_open slots front latest standings k i still x standings
      (standings_same slots standings i x (slot_at slots i) k.standings_are (sym (get_or_default slots i (slot_at slots i) fresh_slot (open_within slots i still))) same))

-- an executed request whose next note passed stands as before, as long as a pass stands
passing_stands : (x : Slot) (n : ℕ) (stands : Pass) → x.status ≡ Executed n → x.pass ≡ Some stands → is_none (passed x (Some stands)).pass ≡ false → standing_of (passed x (Some stands)) ≡ standing_of x
passing_stands x n stands executed checked = at ((stands.next + 1) == length x.notes)
  where
    next : Pass
    next = record stands { next = stands.next + 1 }

    at : (b : Bool) → is_none (if b then record x { pass = None; stamp = Some stands.start } else record x { pass = Some next }).pass ≡ false
        → standing_of (if b then record x { pass = None; stamp = Some stands.start } else record x { pass = Some next }) ≡ standing_of x
    at true e = absurd (false≢true (sym e))
    at false e =
        ap (λ (d : Due). record { due = d; changed = x.changed })
        (ap (λ st. due_of st (Some next) x.stamp) executed ∙ sym (λ t. due_of (executed t) (checked t) x.stamp))

pub keeps_passing : (slots : List Slot) (front latest : ℕ) (standings : List Standing) → KeepsBeside slots front latest standings → (i n : ℕ) (stands : Pass) → status_of slots i ≡ Some (Executed n) → (slot_at slots i).pass ≡ Some stands
    → (after : List Slot) → after ≡ slice_set slots i (passed (slot_at slots i) (Some stands)) → (pass : Option Pass) → pass ≡ (slot_at after i).pass → is_none pass ≡ false → KeepsBeside after front latest standings
keeps_passing slots front latest standings k i n stands executed checked after is pass shown some =
    let still : is_closed (status_of slots i) ≡ false = ap is_closed executed in
    let x = passed (slot_at slots i) (Some stands) in
    let at_it : slot_at after i ≡ x = ap (λ s. slot_at s i) is ∙ set_same slots i x (open_within slots i still) in
    keeps_stand slots front latest standings k i still x after is
    (passing_stands (slot_at slots i) n stands (status_within slots i (Executed n) executed).1 checked (sym (ap is_none (shown ∙ ap (λ (y : Slot). y.pass) at_it)) ∙ some))

pub keeps_front : (slots : List Slot) (front latest : ℕ) (standings : List Standing) → KeepsBeside slots front latest standings → (i : ℕ) → is_closed (status_of slots i) ≡ false
    → (s : State) → s.slots ≡ slots → s.front ≡ front → can_commit s i ≡ true
    → (after : List Slot) → after ≡ slice_set slots i (committed (slot_at slots i) (slot_at slots i).status) → (one : Standing) → one ≡ standing_of (slot_at after i) → (next : List Standing) → next ≡ slice_set standings i one
    → (later : ℕ) → later ≡ max latest (slot_at slots i).changed → KeepsBeside after (front + 1) later next
keeps_front slots front latest standings k i still s same first can after is one stands next e later l =
    let x = committed (slot_at slots i) (slot_at slots i).status in
    subst (λ s. KeepsBeside s (front + 1) later next) (sym is)
    (keeps_committed slots front latest later standings next k s same first i still can x refl l
    (standings_set slots standings next i x one k.standings_are (stands ∙ ap standing_of (ap (λ s. slot_at s i) is ∙ set_same slots i x (open_within slots i still))) e))

-- a read
pub asked_keeps : (base : View) (old new : List Slot) (front latest : ℕ) (standings : List Standing) (i : ℕ) (read : Read) (found : Asked) → IsAsked base old new i read found → KeepsBeside old front latest standings → is_closed (status_of old i) ≡ false
    → KeepsBeside new front latest standings
asked_keeps base old new front latest standings i read (asked.Blocked j) h k still = subst (λ s. KeepsBeside s front latest standings) (sym h.1) k
asked_keeps base old new front latest standings i read (asked.Answered a) h k still = keeps_stand old front latest standings k i still _ new h.1 refl
