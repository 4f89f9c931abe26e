-- How the deltas that were published at any time stay in the archive, and how a touching list found
-- in a shard names the part of the answer.
use Rattle.std.proofs.Common.{◌≡◌, ℕ, zero, suc, ◌<◌, ◌≤◌, ◌⊎◌, inl, inr, Bool, true, false, ◌&&◌, ◌==◌, if◌then◌else◌, List, [], ◌∷◌, ◌++◌, length, map, Some, slice_set, refl, sym, ap, ◌∙◌, subst, arith, eqb-true, eq-eqb}
use Rattle.std.proofs.lemmas.Bool.{cases_eq}
use Rattle.std.proofs.lemmas.List.{append-nil}
use Rattle.datasets.specs.Id.{id_order}
use Rattle.change_laws.specs.Laws.{IsRising}
use Rattle.reads.specs.Reads.{View, Delta, Read, says, applied, covers, no_change}
use Rattle.reads.proofs.Changes.{uncovered, depends, covers_none}
use Rattle.incarnations.specs.declared.state.Status.{Status}
use Rattle.incarnations.specs.declared.state.Status.TheVariants.{Ready, Executing, Executed}
use Rattle.incarnations.specs.declared.state.Event.{Event}
use Rattle.incarnations.specs.declared.state.Event.TheVariants.{Take, Read as ReadOf, Publish, Begin, Check, Commit, GiveUp}
use Rattle.incarnations.specs.declared.state.Reply.{Reply}
use Rattle.incarnations.specs.declared.state.Reply.TheVariants.{Taken, Answered, Published, Begun, Passed, Aborted, Committed, Given}
use Rattle.incarnations.specs.Slots.{Slot, published}
use Rattle.validate.specs.Below.{slot_at, view_at, touching}
use Rattle.validate.proofs.Overlay.{view_rises}
use Rattle.slots.specs.Slots.{status_of}
use Rattle.slots.proofs.SlotLaws.{set_same, set_other, status_within}
use Rattle.shards.specs.Shards.{cut}
use Rattle.block_machine.specs.Machine.{State, after}
use Rattle.block_machine.specs.Archive.{Archive, along, filed_at, archive_with}
use Rattle.sharded_machine.specs.Histories.{cut_slot}
use Rattle.block_machine.proofs.Theorem.{open_is}
use Rattle.block_machine.proofs.Statuses.{HasStatus}
use Rattle.block_machine.proofs.Archive.{next_of, Below, AgreesOn, along_append, below_append, same_begun, same_passed, closed_committed}
use Rattle.sharded_machine.proofs.Parts.{fresh_cut, slot_cut}

-- ---- what a step does to the archive and the slots

-- a slot's publication is the old one, or it is in the archive and past
abbrev pub Files : Archive → ℕ → (was now : Slot) → Type 0
Files archive j was now = ((now.delta ≡ was.delta) × (now.version ≡ was.version)) ⊎ ((archive j now.version ≡ now.delta) × (now.version < next_of now.status))

pub record Moves (old new : Archive) (was now : List Slot) : Type 0 where
  pub grows : (j : ℕ) → next_of (slot_at was j).status ≤ next_of (slot_at now j).status
  pub agrees : AgreesOn was old new
  pub each : (j : ℕ) → Files new j (slot_at was j) (slot_at now j)

moves_not : (archive : Archive) (slots : List Slot) → Moves archive archive slots slots
moves_not archive slots = record { grows = λ j. (let l : next_of (slot_at slots j).status ≤ next_of (slot_at slots j).status = omega arith in l); agrees = λ j v l. refl; each = λ j. inl (refl, refl) }

moves_set : (old new : Archive) (slots : List Slot) (i : ℕ) (x : Slot) → i < length slots → next_of (slot_at slots i).status ≤ next_of x.status → AgreesOn slots old new → Files new i (slot_at slots i) x → Moves old new slots (slice_set slots i x)
moves_set old new slots i x within le agrees files =
    record {
      grows = λ j.
          elim (cases_eq j i) [
            | inl e ↦
                let now = ap (λ (y : Slot). next_of y.status) (ap (slot_at (slice_set slots i x)) e ∙ set_same slots i x within) in
                let was = ap (λ (y : Slot). next_of y.status) (ap (slot_at slots) e) in
                omega (arith, now, was, le)
            | inr ne ↦ let now = ap (λ (y : Slot). next_of y.status) (set_other slots i j x ne) in omega (arith, now)
          ];
      agrees = agrees;
      each = λ j.
          elim (cases_eq j i) [
            | inl e ↦
                let now : x ≡ slot_at (slice_set slots i x) j = sym (ap (slot_at (slice_set slots i x)) e ∙ set_same slots i x within) in
                subst (λ y. Files new j (slot_at slots j) y) now (subst (λ (n : ℕ). Files new n (slot_at slots n) x) (sym e) files)
            | inr ne ↦
                let same : slot_at (slice_set slots i x) j ≡ slot_at slots j = set_other slots i j x ne in
                inl (ap (λ (y : Slot). y.delta) same, ap (λ (y : Slot). y.version) same)
          ];
    }

-- a publication goes to a place of the archive that no list names
filed_agrees : (archive : Archive) (slots : List Slot) (i n w : ℕ) (delta : Delta) → status_of slots i ≡ Some (Executing n w) → AgreesOn slots archive (filed_at archive i n delta)
filed_agrees archive slots i n w delta is j v l = go (j == i) (v == n) refl refl
  where
    go : (b c : Bool) → (j == i) ≡ b → (v == n) ≡ c → (if b && c then delta else archive j v) ≡ archive j v
    go false c p q = refl
    go true false p q = refl
    go true true p q =
        let same = eqb-true j i p in
        let is_n = eqb-true v n q in
        let next = ap (λ k. next_of (slot_at slots k).status) same in
        let h = ap next_of (status_within slots i (Executing n w) is).1 in
        absurd (omega (arith, l, is_n, next, h))

-- the same archive, and another status, pass or stamp
moves_kept : (archive : Archive) (slots : List Slot) (i : ℕ) (st : Status) (x : Slot) → status_of slots i ≡ Some st → next_of st ≤ next_of x.status → x.delta ≡ (slot_at slots i).delta → x.version ≡ (slot_at slots i).version → Moves archive archive slots (slice_set slots i x)
moves_kept archive slots i st x is le delta version =
    let at = status_within slots i st is in
    let n = ap next_of at.1 in
    moves_set archive archive slots i x at.0 (omega (arith, n, le)) (λ j v l. refl) (inl (delta, version))

pub moves_step : (archive : Archive) (s : State) (w : ℕ) (e : Event) (r : Reply) → HasStatus s.slots w e r → Moves archive (archive_with archive e r) s.slots (after s w e r).slots
moves_step archive s w (Take i) (Taken n) h = moves_kept archive s.slots i (Ready n) _ h (omega arith) refl refl
moves_step archive s w (ReadOf i n read) (Answered a) h =
    let st = ap next_of (status_within s.slots i (Executing n w) h).1 in
    moves_kept archive s.slots i (Executing n w) _ h (omega (arith, st)) refl refl
moves_step archive s w (Publish i n (Some f)) Published h =
    let at = status_within s.slots i (Executing n w) h in
    let st = ap next_of at.1 in
    moves_set archive (filed_at archive i n f.delta) s.slots i (published (slot_at s.slots i) n f s.clock) at.0 (omega (arith, st)) (filed_agrees archive s.slots i n w f.delta h)
    (inr (here, omega arith))
  where
    here : filed_at archive i n f.delta i n ≡ f.delta
    here = ap (λ b. if b && (n == n) then f.delta else archive i n) (eq-eqb i i refl) ∙ ap (λ b. if b then f.delta else archive i n) (eq-eqb n n refl)
moves_step archive s w (Begin i n) Begun h =
    let same = same_begun (slot_at s.slots i) (slot_at s.slots i).notes s.clock in
    let st = ap next_of (same.status ∙ (status_within s.slots i (Executed n) h).1) in
    moves_kept archive s.slots i (Executed n) _ h (omega (arith, st)) same.delta same.version
moves_step archive s w (Check i n) Passed h =
    let same = same_passed (slot_at s.slots i) (slot_at s.slots i).pass in
    let st = ap next_of (same.status ∙ (status_within s.slots i (Executed n) h).1) in
    moves_kept archive s.slots i (Executed n) _ h (omega (arith, st)) same.delta same.version
moves_step archive s w (Check i n) Aborted h = moves_kept archive s.slots i (Executed n) _ h (omega arith) refl refl
moves_step archive s w (Commit i) Committed h =
    let st = open_is (status_of s.slots i) h in
    let closed = closed_committed (slot_at s.slots i) (slot_at s.slots i).status refl in
    let n = ap next_of (status_within s.slots i st.0 st.1).1 in
    let le = closed.next in
    moves_kept archive s.slots i st.0 _ st.1 (omega (arith, n, le)) closed.delta closed.version
moves_step archive s w (GiveUp i n) Given h = moves_kept archive s.slots i (Executing n w) _ h (omega arith) refl refl
moves_step archive s w event reply h = moves_not archive s.slots

-- ---- what was published at any time

-- each delta of the earlier slots is empty, or in the archive, where it stays
abbrev pub Named : Archive → (now was : List Slot) → Type 0
Named archive now was = (j : ℕ) → ((slot_at was j).delta ≡ no_change) ⊎ ((archive j (slot_at was j).version ≡ (slot_at was j).delta) × ((slot_at was j).version < next_of (slot_at now j).status))

pub named_moves : (old new : Archive) (was now slots : List Slot) → Moves old new was now → Named old was slots → Named new now slots
named_moves old new was now slots moves named j = go (named j)
  where
    go : ((slot_at slots j).delta ≡ no_change) ⊎ ((old j (slot_at slots j).version ≡ (slot_at slots j).delta) × ((slot_at slots j).version < next_of (slot_at was j).status))
        → ((slot_at slots j).delta ≡ no_change) ⊎ ((new j (slot_at slots j).version ≡ (slot_at slots j).delta) × ((slot_at slots j).version < next_of (slot_at now j).status))
    go (inl none) = inl none
    go (inr filed) =
        let g = moves.grows j in
        let l = filed.1 in
        inr (moves.agrees j (slot_at slots j).version filed.1 ∙ filed.0, omega (arith, g, l))

pub named_now : (old new : Archive) (was now : List Slot) → Moves old new was now → Named old was was → Named new now now
named_now old new was now moves named j = go (moves.each j) (named_moves old new was now was moves named j)
  where
    go : Files new j (slot_at was j) (slot_at now j)
        → ((slot_at was j).delta ≡ no_change) ⊎ ((new j (slot_at was j).version ≡ (slot_at was j).delta) × ((slot_at was j).version < next_of (slot_at now j).status))
        → ((slot_at now j).delta ≡ no_change) ⊎ ((new j (slot_at now j).version ≡ (slot_at now j).delta) × ((slot_at now j).version < next_of (slot_at now j).status))
    go (inr filed) before = inr filed
    go (inl same) (inl none) = inl (same.0 ∙ none)
    go (inl same) (inr filed) =
        let l = filed.1 in
        let v = same.1 in
        inr (ap (new j) same.1 ∙ filed.0 ∙ sym same.0, omega (arith, l, v))

-- ---- what a touching list names

module _ (base : View) (rising : IsRising id_order base) (archive : Archive) (slots : List Slot) (read : Read) (filed : (j : ℕ) → covers (slot_at slots j).delta read ≡ true → archive j (slot_at slots j).version ≡ (slot_at slots j).delta) where
  listed_next : (i : ℕ) → says read (view_at base slots i) ≡ says read (along archive base (touching slots i read)) → (b : Bool) → covers (slot_at slots i).delta read ≡ b
      → says read (applied (slot_at slots i).delta (view_at base slots i)) ≡ says read (along archive base (touching slots i read ++ (if b then (i, (slot_at slots i).version) ∷ [] else [])))
  listed_next i before true e =
      let ts = touching slots i read in
      depends (slot_at slots i).delta (view_at base slots i) (along archive base ts) read before
      ∙ ap (λ (c : Delta). says read (applied c (along archive base ts))) (sym (filed i e))
      ∙ ap (λ (v : View). says read v) (sym (along_append archive base ts (i, (slot_at slots i).version)))
  listed_next i before false e =
      uncovered (slot_at slots i).delta (view_at base slots i) read (view_rises base slots rising i) e
      ∙ before
      ∙ ap (λ (ts : List (ℕ × ℕ)). says read (along archive base ts)) (sym (append-nil (touching slots i read)))

  -- what a read says of view(i) is what it says along its touching list
  listed : (i : ℕ) → says read (view_at base slots i) ≡ says read (along archive base (touching slots i read))
  unfolding view_at touching
  listed zero = refl
  listed (suc i) = listed_next i (listed i) (covers (slot_at slots i).delta read) refl

module _ (now slots : List Slot) (read : Read) (past : (j : ℕ) → covers (slot_at slots j).delta read ≡ true → (slot_at slots j).version < next_of (slot_at now j).status) where
  past_next : (i : ℕ) → Below now (touching slots i read) → (b : Bool) → covers (slot_at slots i).delta read ≡ b → Below now (touching slots i read ++ (if b then (i, (slot_at slots i).version) ∷ [] else []))
  past_next i before true e = below_append now (touching slots i read) (i, (slot_at slots i).version) before (past i e)
  past_next i before false e = subst (λ (ts : List (ℕ × ℕ)). Below now ts) (sym (append-nil (touching slots i read))) before

  listed_past : (i : ℕ) → Below now (touching slots i read)
  unfolding touching
  listed_past zero = tt
  listed_past (suc i) = past_next i (listed_past i) (covers (slot_at slots i).delta read) refl

-- what the archive has in a shard
abbrev pub archive_in : ℕ → Archive → Archive
archive_in k archive j v = cut k (archive j v)

module _ (archive : Archive) (now was : List Slot) (named : Named archive now was) (k : ℕ) (read : Read) where
  -- a delta that covers a read in the shard
  in_shard : (j : ℕ) → covers (cut_slot k (slot_at was j)).delta read ≡ true → (archive_in k archive j (slot_at was j).version ≡ cut k (slot_at was j).delta) × ((slot_at was j).version < next_of (slot_at now j).status)
  in_shard j e = go (named j)
    where
      go : ((slot_at was j).delta ≡ no_change) ⊎ ((archive j (slot_at was j).version ≡ (slot_at was j).delta) × ((slot_at was j).version < next_of (slot_at now j).status))
          → (archive_in k archive j (slot_at was j).version ≡ cut k (slot_at was j).delta) × ((slot_at was j).version < next_of (slot_at now j).status)
      go (inl none) =
          absurd (let d : true ≡ false = sym e ∙ ap (λ (c : Delta). covers (cut k c) read) none ∙ ap (λ (x : Slot). covers x.delta read) (fresh_cut k) ∙ covers_none read in (cc))
      go (inr filed) = (ap (cut k) filed.0, filed.1)

  covered_cut : (j : ℕ) → covers (slot_at (map (cut_slot k) was) j).delta read ≡ true → covers (cut_slot k (slot_at was j)).delta read ≡ true
  covered_cut j e = ap (λ (x : Slot). covers x.delta read) (sym (slot_cut k was j)) ∙ e

  -- the part of an answer, by its list
  pub part_listed : (base : View) → IsRising id_order base → (i : ℕ) → says read (view_at base (map (cut_slot k) was) i) ≡ says read (along (archive_in k archive) base (touching (map (cut_slot k) was) i read))
  part_listed base rising i =
      listed base rising (archive_in k archive) (map (cut_slot k) was) read
      (λ j e. ap (λ (x : Slot). archive_in k archive j x.version) (slot_cut k was j) ∙ (in_shard j (covered_cut j e)).0 ∙ ap (λ (x : Slot). x.delta) (sym (slot_cut k was j)))
      i

  pub part_past : (i : ℕ) → Below now (touching (map (cut_slot k) was) i read)
  part_past i =
      listed_past now (map (cut_slot k) was) read
      (λ j e.
      let l = (in_shard j (covered_cut j e)).1 in
      let v = ap (λ (x : Slot). x.version) (slot_cut k was j) in
      omega (arith, l, v))
      i
