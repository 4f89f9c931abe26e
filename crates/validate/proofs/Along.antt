-- A walk along the requests whose delta covers a read gives what the walk along all gives.
use Rattle.std.proofs.Common.{◌≡◌, ℕ, zero, suc, ◌<◌, ◌≤◌, inl, inr, false, ◌&&◌, if◌then◌else◌, List, [], ◌∷◌, ◌++◌, length, Option, Some, slice_index_or, ◌+◌, sym, ap, ◌∙◌, subst, arith, append_assoc}
use Rattle.std.proofs.lemmas.Bool.{cases_lt}
use Rattle.std.proofs.lemmas.List.{get_or_default, get_or_past, append-nil}
use Rattle.std.proofs.Math.Bool.{and-false}
use Rattle.datasets.specs.Id.{id_order}
use Rattle.change_laws.specs.Laws.{IsRising}
use Rattle.reads.specs.Reads.{View, Read, Answer, says, applied, covers}
use Rattle.reads.proofs.Changes.{uncovered}
use Rattle.incarnations.specs.declared.state.Slot.{Slot as KeptSlot}
use Rattle.incarnations.specs.Slots.{Slot}
use Rattle.incarnations.specs.Kept.{plain, slot_by}
use Rattle.validate.specs.Below.{slot_at, view_at, blocker, touching}
use Rattle.validate.specs.Kept.{shown}
use Rattle.validate.proofs.Shown.{is_slot}
use Rattle.validate.specs.Lower.{request_at, after_first, Leads}
use Rattle.validate.proofs.Overlay.{view_rises}

-- what each step leaves as it was
skip : {A : Type 0} (f : ℕ → A) (a b : ℕ) → a ≤ b → ((j : ℕ) → a ≤ j → j < b → f (suc j) ≡ f j) → f b ≡ f a
skip f a zero le h = ap f (let e : zero ≡ a = omega arith in e)
skip f a (suc b) le h =
    elim (cases_lt a (suc b)) [
      | inl lt ↦ h b (omega arith) (omega arith) ∙ skip f a b (omega arith) (λ j l m. h j l (omega arith))
      | inr ge ↦ ap f (let e : suc b ≡ a = omega arith in e)
    ]

module _ (slots : List Slot) (read : Read) where
  blocker_skips : (j : ℕ) → covers (slot_at slots j).delta read ≡ false → blocker slots (suc j) read ≡ blocker slots j read
  unfolding blocker
  blocker_skips j h =
      ap (λ c. if (slot_at slots j).estimate && c then Some j else blocker slots j read) h
      ∙ ap (λ c. if c then Some j else blocker slots j read) (and-false (slot_at slots j).estimate)

  touching_skips : (j : ℕ) → covers (slot_at slots j).delta read ≡ false → touching slots (suc j) read ≡ touching slots j read
  unfolding touching
  touching_skips j h =
      ap (λ c. touching slots j read ++ (if c then (j, (slot_at slots j).version) ∷ [] else [])) h ∙ append-nil (touching slots j read)

  says_skips : (base : View) → IsRising id_order base → (j : ℕ) → covers (slot_at slots j).delta read ≡ false → says read (view_at base slots (suc j)) ≡ says read (view_at base slots j)
  unfolding view_at
  says_skips base rising j h = uncovered (slot_at slots j).delta (view_at base slots j) read (view_rises base slots rising j) h

  module _ (low : ℕ) (list : List ℕ) (i : ℕ) (leads : Leads slots read low list i) where
    pub blocker_at : (k : ℕ) → k ≤ length list → blocker slots (request_at list i k) read ≡ blocker slots (after_first low list i k) read
    blocker_at k le =
        skip (λ n. blocker slots n read) (after_first low list i k) (request_at list i k) (leads.rising k le) (λ j l m. blocker_skips j (leads.none k le j l m))

    pub touching_at : (k : ℕ) → k ≤ length list → touching slots (request_at list i k) read ≡ touching slots (after_first low list i k) read
    touching_at k le =
        skip (λ n. touching slots n read) (after_first low list i k) (request_at list i k) (leads.rising k le) (λ j l m. touching_skips j (leads.none k le j l m))

    pub says_at : (base : View) → IsRising id_order base → (k : ℕ) → k ≤ length list → says read (view_at base slots (request_at list i k)) ≡ says read (view_at base slots (after_first low list i k))
    says_at base rising k le =
        skip (λ n. says read (view_at base slots n)) (after_first low list i k) (request_at list i k) (leads.rising k le) (λ j l m. says_skips base rising j (leads.none k le j l m))

    -- past its end

    module _ (k : ℕ) (le : k ≤ length list) (ge : length list ≤ k) where
      at_end : request_at list i k ≡ i
      at_end = get_or_past list k i ge

      pub blocker_all : (found : Option ℕ) → found ≡ blocker slots (after_first low list i k) read → found ≡ blocker slots i read
      blocker_all found e = e ∙ sym (blocker_at k le) ∙ ap (λ n. blocker slots n read) at_end

      pub touching_all : (found : List (ℕ × ℕ)) → touching slots low read ++ found ≡ touching slots (after_first low list i k) read → touching slots low read ++ found ≡ touching slots i read
      touching_all found e = e ∙ sym (touching_at k le) ∙ ap (λ n. touching slots n read) at_end

      pub says_all : (base : View) → IsRising id_order base → (answer : Answer) → answer ≡ says read (view_at base slots (after_first low list i k)) → answer ≡ says read (view_at base slots i)
      says_all base rising answer e = e ∙ sym (says_at base rising k le) ∙ ap (λ n. says read (view_at base slots n)) at_end

-- the next of the list

module _ (kept : List KeptSlot) (read : Read) (low : ℕ) (list : List ℕ) (i : ℕ) (leads : Leads (shown kept) read low list i) (top : i ≤ length kept) (k : ℕ) (lt : k < length list) where
  here : slice_index_or list k 0 ≡ request_at list i k
  here = get_or_default list k 0 i lt

  le : k ≤ length list
  le = omega (arith, lt)

  one_more : suc k ≡ k + 1
  one_more = omega arith

  pub in_slots : slice_index_or list k 0 < length kept
  in_slots = let w = leads.within k lt in subst (λ n. n < length kept) (sym here) (omega (arith, w, top))

  slot_here : (x : KeptSlot) → x ≡ slice_index_or kept (slice_index_or list k 0) x → slot_by plain x ≡ slot_at (shown kept) (request_at list i k)
  slot_here x is = is_slot plain kept (slice_index_or list k 0) x is in_slots ∙ ap (slot_at (shown kept)) here

  pub blocker_more : (x : KeptSlot) (found next : Option ℕ) → x ≡ slice_index_or kept (slice_index_or list k 0) x → found ≡ blocker (shown kept) (after_first low list i k) read
      → next ≡ (if x.estimate && covers x.delta read then Some (slice_index_or list k 0) else found) → next ≡ blocker (shown kept) (after_first low list i (k + 1)) read
  unfolding blocker
  blocker_more x found next is so_far e =
      let at = slot_here x is in
      let same : found ≡ blocker (shown kept) (request_at list i k) read = so_far ∙ sym (blocker_at (shown kept) read low list i leads k le) in
      e ∙ (λ t. if (at t).estimate && covers (at t).delta read then Some (here t) else same t) ∙ ap (λ n. blocker (shown kept) (after_first low list i n) read) one_more

  pub touching_more : (x : KeptSlot) (found next : List (ℕ × ℕ)) → x ≡ slice_index_or kept (slice_index_or list k 0) x → touching (shown kept) low read ++ found ≡ touching (shown kept) (after_first low list i k) read
      → next ≡ found ++ (if covers x.delta read then (slice_index_or list k 0, x.version) ∷ [] else []) → touching (shown kept) low read ++ next ≡ touching (shown kept) (after_first low list i (k + 1)) read
  unfolding touching
  touching_more x found next is so_far e =
      let at = slot_here x is in
      let same : touching (shown kept) low read ++ found ≡ touching (shown kept) (request_at list i k) read = so_far ∙ sym (touching_at (shown kept) read low list i leads k le) in
      ap (λ ts. touching (shown kept) low read ++ ts) e
      ∙ sym (append_assoc (touching (shown kept) low read) found (if covers x.delta read then (slice_index_or list k 0, x.version) ∷ [] else []))
      ∙ (λ t. same t ++ (if covers (at t).delta read then (here t, (at t).version) ∷ [] else [])) ∙ ap (λ n. touching (shown kept) (after_first low list i n) read) one_more

  module _ (base : View) (rising : IsRising id_order base) where
    pub says_more : (x : KeptSlot) (was now : Answer) → x ≡ slice_index_or kept (slice_index_or list k 0) x → was ≡ says read (view_at base (shown kept) (after_first low list i k))
        → ((d : View) → IsRising id_order d → was ≡ says read d → now ≡ says read (applied x.delta d)) → now ≡ says read (view_at base (shown kept) (after_first low list i (k + 1)))
    unfolding view_at
    says_more x was now is so_far step =
        let before = view_at base (shown kept) (request_at list i k) in
        step before (view_rises base (shown kept) rising (request_at list i k)) (so_far ∙ sym (says_at (shown kept) read low list i leads base rising k le))
        ∙ ap (λ (y : Slot). says read (applied y.delta before)) (slot_here x is)
        ∙ ap (λ n. says read (view_at base (shown kept) (after_first low list i n))) one_more
