-- What can be done for a request is lawful, and what is lawful can be done.
use Rattle.std.proofs.Common.{◌≡◌, ℕ, zero, suc, ◌<◌, ◌≤◌, ◌⊎◌, inl, inr, Bool, true, false, ◌&&◌, List, [], ◌∷◌, Option, Some, None, is_some, refl, sym, ap, ◌∙◌, subst, arith, eq-eqb, eqb-true}
use Rattle.std.specs.Prelude.{◌==◌, ◌||◌, not, IfSome}
use Rattle.std.proofs.lemmas.Bool.{cases_lt, false≢true, and_parts, and_from}
use Rattle.std.proofs.lemmas.Option.{none-some, same_Some}
use Rattle.incarnations.specs.declared.state.Status.{Status}
use Rattle.incarnations.specs.declared.state.Status.TheVariants.{Ready, Executing, Executed, Committed}
use Rattle.incarnations.specs.Slots.{Slot}
use Rattle.incarnations.specs.Statuses.{is_closed, is_executed}
use Rattle.validate.specs.Below.{slot_at}
use Rattle.slots.specs.Slots.{status_of}
use Rattle.block_machine.specs.Machine.{State, can_commit, is_stamped}
use Rattle.block_machine.specs.Waiting.{can_go_on, has_work, IsLeastWork}
use Rattle.scheduler.specs.declared.task.Task.{Task}
use Rattle.scheduler.specs.declared.task.Task.TheVariants as task
use Rattle.scheduler.specs.Task.{place_of, IsLawful, IsNext, settling, task_for, task_at, IsFirst}

-- the status of a request of the block is that of its slot
status_slot : (slots : List Slot) (i : ℕ) (status : Status) → status_of slots i ≡ Some status → (slot_at slots i).status ≡ status
status_slot [] i status e = absurd (none-some status e)
status_slot (x ∷ slots) zero status e = same_Some x.status status e
status_slot (x ∷ slots) (suc i) status e = status_slot slots i status e

-- what is no request of the block is not executed
pub none_executed : (slots : List Slot) (i : ℕ) → status_of slots i ≡ None → is_executed (slot_at slots i).status ≡ false
none_executed [] i e = refl
none_executed (x ∷ slots) zero e = absurd (none-some x.status (sym e))
none_executed (x ∷ slots) (suc i) e = none_executed slots i e

module _ (s : State) (i : ℕ) where
  -- it is lawful, and for request i
  abbrev IsFor : Task → Type 0
  IsFor t = IsLawful s t × (place_of t ≡ i)

  executed : (n : ℕ) (t : Task) → status_of s.slots i ≡ Some (Executed n) → (has_pass stamped : Bool) → is_some (slot_at s.slots i).pass ≡ has_pass
      → is_stamped s.slots i (slot_at s.slots i).stamp ≡ stamped → settling i n has_pass stamped ≡ Some t → IsFor t
  executed n t status true stamped pass stamp e = subst IsFor (same_Some (task.Check i n) t e) ((status, pass), refl)
  executed n t status false true pass stamp e = absurd (none-some t e)
  executed n t status false false pass stamp e = subst IsFor (same_Some (task.Begin i n) t e) ((status, pass, stamp), refl)

  of_status : (t : Task) (o : Option Status) → status_of s.slots i ≡ o → task_for i (slot_at s.slots i) (is_stamped s.slots i (slot_at s.slots i).stamp) o ≡ Some t → IsFor t
  of_status t (Some (Ready n)) status e = subst IsFor (same_Some (task.Take i) t e) ((n, status), refl)
  of_status t (Some (Executing n by)) status e = absurd (none-some t e)
  of_status t (Some (Executed n)) status e = executed n t status _ _ refl refl e
  of_status t (Some (Committed n)) status e = absurd (none-some t e)
  of_status t None status e = absurd (none-some t e)

  -- what can be done for a request is lawful
  found_is_lawful : (t : Task) → task_at s.slots i ≡ Some t → IsFor t
  found_is_lawful t e = of_status t (status_of s.slots i) refl e

-- what is lawful is a commit, or can be done
is_found : (s : State) (t : Task) → IsLawful s t → (can_commit s (place_of t) ≡ true) ⊎ ((found : Task) × (task_at s.slots (place_of t) ≡ Some found))
is_found s (task.Commit i) h = inl h
is_found s (task.Take i) h = inr (task.Take i, ap (task_for i (slot_at s.slots i) (is_stamped s.slots i (slot_at s.slots i).stamp)) h.1)
is_found s (task.Begin i n) h =
    inr (
      task.Begin i n,
      ap (task_for i (slot_at s.slots i) (is_stamped s.slots i (slot_at s.slots i).stamp)) h.0 ∙ (λ t. settling i n (h.1 t) (h.2 t)),
    )
is_found s (task.Check i n) h =
    inr (
      task.Check i n,
      ap (task_for i (slot_at s.slots i) (is_stamped s.slots i (slot_at s.slots i).stamp)) h.0
          ∙ ap (λ has. settling i n has (is_stamped s.slots i (slot_at s.slots i).stamp)) h.1,
    )

module _ (s : State) (closed : (j : ℕ) → j < s.front → is_closed (Some (slot_at s.slots j).status) ≡ true) where
  open_above : (i : ℕ) (status : Status) → status_of s.slots i ≡ Some status → is_closed (Some status) ≡ false → s.front ≤ i
  open_above i status e still =
      elim (cases_lt i s.front) [
        | inl lt ↦ absurd (false≢true (sym still ∙ ap (λ x. is_closed (Some x)) (sym (status_slot s.slots i status e)) ∙ closed i lt))
        | inr ge ↦ ge
      ]

  commit_is : (i : ℕ) → can_commit s i ≡ true → i ≡ s.front
  commit_is i h = eqb-true i s.front (and_parts (i == s.front) (is_executed (slot_at s.slots i).status && is_stamped s.slots i (slot_at s.slots i).stamp) h).0

  -- nothing can be done for a committed request
  above : (t : Task) → IsLawful s t → s.front ≤ place_of t
  above (task.Commit i) h = let here = commit_is i h in omega (arith, here)
  above (task.Take i) h = open_above i (Ready h.0) h.1 refl
  above (task.Begin i n) h = open_above i (Executed n) h.0 refl
  above (task.Check i n) h = open_above i (Executed n) h.0 refl

  -- the front is committed
  pub commits : (can : Bool) → can ≡ (is_executed (slot_at s.slots s.front).status && is_stamped s.slots s.front (slot_at s.slots s.front).stamp)
      → can ≡ true → IsNext s (Some (task.Commit s.front))
  commits can is does =
      record {
        lawful = and_from (s.front == s.front) _ (eq-eqb s.front s.front refl) (sym is ∙ does);
        commits = λ i h. ap (λ k. Some (task.Commit k)) (sym (commit_is i h));
        least = above;
        none = λ e. absurd (none-some (task.Commit s.front) (sym e));
      }

  module _ (can : Bool) (is : can ≡ (is_executed (slot_at s.slots s.front).status && is_stamped s.slots s.front (slot_at s.slots s.front).stamp)) (not : can ≡ false) where
    none_commits : (i : ℕ) → can_commit s i ≡ true → ⊥
    none_commits i h =
        let here = commit_is i h in
        let at : can_commit s s.front ≡ true = subst (λ k. can_commit s k ≡ true) here h in
        false≢true (sym not ∙ is ∙ (and_parts (s.front == s.front) _ at).1)

    -- what is lawful can be done
    lawful_is_found : (t : Task) → IsLawful s t → (found : Task) × (task_at s.slots (place_of t) ≡ Some found)
    lawful_is_found t h = elim (is_found s t h) [ inl can_be ↦ absurd (none_commits (place_of t) can_be) | inr found ↦ found ]

    -- what is found for the least request, or nothing
    pub first_is_next : (next : Option Task) → IfSome next (IsFirst s.slots s.front) → (next ≡ None → (j : ℕ) → s.front ≤ j → task_at s.slots j ≡ None) → IsNext s next
    first_is_next None some none =
        record {
          lawful = tt;
          commits = λ i h. absurd (none_commits i h);
          least = tt;
          none = λ e t h. let found = lawful_is_found t h in none-some found.0 (sym (none refl (place_of t) (above t h)) ∙ found.1);
        }
    first_is_next (Some next) some none =
        let own = found_is_lawful s some.place next some.is in
        record {
          lawful = own.0;
          commits = λ i h. absurd (none_commits i h);
          least = λ t h.
              elim (cases_lt (place_of t) some.place) [
                | inl lt ↦ (let found = lawful_is_found t h in absurd (none-some found.0 (sym (some.none (place_of t) (above t h) lt) ∙ found.1)))
                | inr ge ↦ (let at = own.1 in omega (arith, ge, at))
              ];
          none = λ e. absurd (none-some next (sym e));
        }

-- ---- the least request with something to do

settled_none : (i n : ℕ) (has stamped : Bool) → (has || not stamped) ≡ false → settling i n has stamped ≡ None
settled_none i n true stamped e = absurd (false≢true (sym e))
settled_none i n false true e = refl
settled_none i n false false e = absurd (false≢true (sym e))

idle_at : (i : ℕ) (x : Slot) (stamped : Bool) (o : Option Status) → can_go_on o (is_some x.pass) stamped ≡ false → task_for i x stamped o ≡ None
idle_at i x stamped (Some (Ready n)) e = absurd (false≢true (sym e))
idle_at i x stamped (Some (Executing n by)) e = refl
idle_at i x stamped (Some (Executed n)) e = settled_none i n (is_some x.pass) stamped e
idle_at i x stamped (Some (Committed n)) e = refl
idle_at i x stamped None e = refl

-- nothing can be done where there is no work
idle_none : (slots : List Slot) (j : ℕ) → has_work slots j ≡ false → task_at slots j ≡ None
idle_none slots j e = idle_at j (slot_at slots j) (is_stamped slots j (slot_at slots j).stamp) (status_of slots j) e

closed_idle : (o : Option Status) (has stamped : Bool) → is_closed o ≡ true → can_go_on o has stamped ≡ false
closed_idle (Some (Ready n)) has stamped e = absurd (false≢true e)
closed_idle (Some (Executing n by)) has stamped e = absurd (false≢true e)
closed_idle (Some (Executed n)) has stamped e = absurd (false≢true e)
closed_idle (Some (Committed n)) has stamped e = refl
closed_idle None has stamped e = refl

-- a committed request has no work
work_above : (slots : List Slot) (front place : ℕ) → ((j : ℕ) → j < front → is_closed (Some (slot_at slots j).status) ≡ true) → has_work slots place ≡ true → front ≤ place
work_above slots front place closed has =
    elim (cases_lt place front) [
      | inl lt ↦ absurd (false≢true (sym (closed_idle (status_of slots place) _ _ (shut (status_of slots place) refl lt)) ∙ has))
      | inr ge ↦ ge
    ]
  where
    shut : (o : Option Status) → status_of slots place ≡ o → place < front → is_closed o ≡ true
    shut (Some status) e lt = ap (λ x. is_closed (Some x)) (sym (status_slot slots place status e)) ∙ closed place lt
    shut None e lt = refl

module _ (s : State) (slots : List Slot) (front : ℕ) (slots_are : slots ≡ s.slots) (front_is : front ≡ s.front) (closed : (j : ℕ) → j < s.front → is_closed (Some (slot_at s.slots j).status) ≡ true)
    (can : Bool) (is : can ≡ (is_executed (slot_at slots front).status && is_stamped slots front (slot_at slots front).stamp)) (not_can : can ≡ false) where
  own : can ≡ (is_executed (slot_at s.slots s.front).status && is_stamped s.slots s.front (slot_at s.slots s.front).stamp)
  own =
      let same : ◌≡◌ {A = List Slot × ℕ} (slots, front) (s.slots, s.front) = λ t. (slots_are t, front_is t) in
      subst (λ (p : List Slot × ℕ). can ≡ (is_executed (slot_at p.0 p.1).status && is_stamped p.0 p.1 (slot_at p.0 p.1).stamp)) same is

  -- the work of the least request that has any is next
  pub next_some : (place : ℕ) (found : Task) → IsLeastWork s.slots place → task_at slots place ≡ Some found → IsNext s (Some found)
  next_some place found least work =
      let first : IsFirst s.slots s.front found =
      record {
        place = place;
        above = work_above s.slots s.front place closed least.has;
        is = ap (λ (xs : List Slot). task_at xs place) (sym slots_are) ∙ work;
        none = λ j above below. idle_none s.slots j (least.none j below);
      } in
      first_is_next s closed can own not_can (Some found) first (λ e. absurd (none-some found (sym e)))
