-- How requests stand: after a step, and which of them is the least with something to do.
use Rattle.std.proofs.Common.{◌≡◌, ℕ, zero, suc, ◌<◌, ◌≤◌, inl, inr, Bool, true, false, ◌&&◌, List, [], ◌∷◌, length, map, Option, Some, None, is_some, max, replicate, slice_set, slice_index_or, refl, sym, ap, ◌∙◌, subst, arith, leb-true}
use Rattle.std.specs.Prelude.{nat_le, nat_lt, not, option_map, if◌then◌else◌, IfSome}
use Rattle.std.specs.Cmp.{both_ways}
use Rattle.std.proofs.lemmas.Bool.{cases_lt, ltb-true}
use Rattle.std.proofs.lemmas.List.{map-set}
use Rattle.std.proofs.Math.Seq.{map-set_same}
use Rattle.stamp_tree.specs.declared.standing.Standing.{Standing}
use Rattle.stamp_tree.specs.Standings.{is_due, first_due}
use Rattle.incarnations.specs.declared.state.Pass.{Pass}
use Rattle.incarnations.specs.declared.state.Status.{Status}
use Rattle.incarnations.specs.declared.state.Status.TheVariants.{Ready, Executing, Executed, Committed}
use Rattle.incarnations.specs.Slots.{Slot, fresh_slot}
use Rattle.incarnations.specs.Standings.{due_of, standing_of}
use Rattle.validate.specs.Below.{slot_at}
use Rattle.slots.specs.Slots.{status_of}
use Rattle.block_machine.specs.Machine.{is_current, is_stamped}
use Rattle.block_machine.specs.Waiting.{can_go_on, has_work, IsLeastWork}
use Rattle.block_machine.proofs.Keeps.{max_le}

-- ---- after a step

pub standings_new : (slots : List Slot) (standings : List Standing) (size n : ℕ) (x : Slot) (one : Standing) → size ≡ n → x ≡ fresh_slot → one ≡ standing_of x → slots ≡ replicate n fresh_slot → standings ≡ replicate size one → standings ≡ map standing_of slots
standings_new slots standings size n x one whole fresh is e f =
    f ∙ (λ t. replicate (whole t) (is t)) ∙ (λ t. replicate n (standing_of (fresh t))) ∙ go n ∙ ap (map standing_of) (sym e)
  where
    go : (n : ℕ) → replicate n (standing_of fresh_slot) ≡ map standing_of (replicate n fresh_slot)
    go zero = refl
    go (suc n) = ap (λ xs. standing_of fresh_slot ∷ xs) (go n)

pub standings_set : (slots : List Slot) (standings next : List Standing) (i : ℕ) (x : Slot) (new : Standing) → standings ≡ map standing_of slots → new ≡ standing_of x → next ≡ slice_set standings i new → next ≡ map standing_of (slice_set slots i x)
standings_set slots standings next i x new old is e = e ∙ (λ t. slice_set (old t) i (is t)) ∙ sym (map-set standing_of slots i x)

-- a slot that stands as before
pub standings_same : (slots : List Slot) (standings : List Standing) (i : ℕ) (x y : Slot) → standings ≡ map standing_of slots → y ≡ slice_index_or slots i y → standing_of x ≡ standing_of y → standings ≡ map standing_of (slice_set slots i x)
standings_same slots standings i x y old at same = old ∙ sym (map-set_same standing_of slots i x y (same ∙ ap standing_of at))

-- ---- the least request with something to do

module _ (m : ℕ) where
  current_cons : (x : Slot) (slots : List Slot) (j : ℕ) → is_current (x ∷ slots) (suc j) m ≡ (nat_le x.changed m && is_current slots j m)
  unfolding is_current
  current_cons x slots zero = refl
  current_cons x slots (suc j) =
      ap (λ b. nat_le (slot_at slots j).changed m && b) (current_cons x slots j)
      ∙ swapped (nat_le (slot_at slots j).changed m) (nat_le x.changed m) (is_current slots j m)
    where
      swapped : (a b c : Bool) → (a && (b && c)) ≡ (b && (a && c))
      swapped true true c = refl
      swapped true false c = refl
      swapped false true c = refl
      swapped false false c = refl

-- whether a stamp holds, where the requests before the list last changed at this moment
abbrev stamped_behind : ℕ → List Slot → ℕ → Option ℕ → Bool
stamped_behind latest slots j None = false
stamped_behind latest slots j (Some moment) = nat_le latest moment && is_current slots j moment

abbrev work_behind : ℕ → List Slot → ℕ → Bool
work_behind latest slots j = can_go_on (status_of slots j) (is_some (slot_at slots j).pass) (stamped_behind latest slots j (slot_at slots j).stamp)

stamped_cons : (latest : ℕ) (x : Slot) (slots : List Slot) (j : ℕ) (stamp : Option ℕ) → stamped_behind latest (x ∷ slots) (suc j) stamp ≡ stamped_behind (max latest x.changed) slots j stamp
stamped_cons latest x slots j None = refl
stamped_cons latest x slots j (Some m) =
    ap (λ b. nat_le latest m && b) (current_cons m x slots j)
    ∙ regrouped (nat_le latest m) (nat_le x.changed m) (is_current slots j m)
    ∙ ap (λ b. b && is_current slots j m) (max_le latest x.changed m)
  where
    regrouped : (a b c : Bool) → (a && (b && c)) ≡ ((b && a) && c)
    regrouped true true c = refl
    regrouped true false c = refl
    regrouped false true c = refl
    regrouped false false c = refl

work_cons : (latest : ℕ) (x : Slot) (slots : List Slot) (j : ℕ) → work_behind latest (x ∷ slots) (suc j) ≡ work_behind (max latest x.changed) slots j
work_cons latest x slots j = ap (can_go_on (status_of slots j) (is_some (slot_at slots j).pass)) (stamped_cons latest x slots j (slot_at slots j).stamp)

late : (latest m : ℕ) → not (nat_le latest m && true) ≡ nat_lt m latest
late latest m =
    both_ways (not (nat_le latest m && true)) (nat_lt m latest)
    (λ e. elim (cases_lt m latest) [ inl lt ↦ grind (arith, lt) | inr ge ↦ absurd (no (nat_le latest m) (le ge) e) ])
    (λ e. let lt = ltb-true m latest e in yes (nat_le latest m) refl lt)
  where
    le : latest ≤ m → nat_le latest m ≡ true
    le ge = grind (arith, ge)

    no : (b : Bool) → b ≡ true → not (b && true) ≡ true → ⊥
    no true e f = let g : false ≡ true = f in absurd (cc)
    no false e f = absurd (cc)

    yes : (b : Bool) → nat_le latest m ≡ b → m < latest → not (b && true) ≡ true
    yes true e lt = let k = leb-true latest m e in absurd (omega (arith, k, lt))
    yes false e lt = refl

work_first : (latest : ℕ) (x : Slot) (slots : List Slot) → work_behind latest (x ∷ slots) zero ≡ is_due latest (standing_of x).due
unfolding is_current
work_first latest x slots = go x.status x.pass x.stamp
  where
    go : (status : Status) (pass : Option Pass) (stamp : Option ℕ) → can_go_on (Some status) (is_some pass) (stamped_behind latest (x ∷ slots) zero stamp) ≡ is_due latest (due_of status pass stamp)
    go (Ready n) pass stamp = refl
    go (Executing n by) pass stamp = refl
    go (Committed n) pass stamp = refl
    go (Executed n) (Some p) stamp = refl
    go (Executed n) None None = refl
    go (Executed n) None (Some moment) = late latest moment

record IsLeastBehind (latest : ℕ) (slots : List Slot) (i : ℕ) : Type 0 where
  within : i < length slots
  has : work_behind latest slots i ≡ true
  none : (j : ℕ) → j < i → work_behind latest slots j ≡ false

abbrev Found : ℕ → List Slot → Option ℕ → Type 0
Found latest slots None = (j : ℕ) → work_behind latest slots j ≡ false
Found latest slots (Some i) = IsLeastBehind latest slots i

found_next : (latest : ℕ) (x : Slot) (slots : List Slot) (o : Option ℕ) → work_behind latest (x ∷ slots) zero ≡ false → Found (max latest x.changed) slots o → Found latest (x ∷ slots) (option_map (λ place. suc place) o)
found_next latest x slots None here h = go
  where
    go : (j : ℕ) → work_behind latest (x ∷ slots) j ≡ false
    go zero = here
    go (suc j) = work_cons latest x slots j ∙ h j
found_next latest x slots (Some i) here h =
    record { within = omega (arith, h.within); has = work_cons latest x slots i ∙ h.has; none = go }
  where
    go : (j : ℕ) → j < suc i → work_behind latest (x ∷ slots) j ≡ false
    go zero lt = here
    go (suc j) lt = work_cons latest x slots j ∙ h.none j (omega (arith, lt))

found_more : (latest : ℕ) (x : Slot) (slots : List Slot) (b : Bool) (o : Option ℕ) → work_behind latest (x ∷ slots) zero ≡ b → Found (max latest x.changed) slots o → Found latest (x ∷ slots) (if b then Some 0 else option_map (λ place. suc place) o)
found_more latest x slots true o e h = record { within = omega arith; has = e; none = λ j lt. absurd (omega (arith, lt)) }
found_more latest x slots false o e h = found_next latest x slots o e h

found : (latest : ℕ) (slots : List Slot) → Found latest slots (first_due latest (map standing_of slots))
unfolding first_due
found latest [] = λ j. refl
found latest (x ∷ slots) =
    found_more latest x slots (is_due latest (standing_of x).due) (first_due (max latest x.changed) (map standing_of slots)) (work_first latest x slots) (found (max latest x.changed) slots)

-- behind no change it is the same
work_is : (slots : List Slot) (j : ℕ) → work_behind 0 slots j ≡ has_work slots j
work_is slots j = ap (can_go_on (status_of slots j) (is_some (slot_at slots j).pass)) (go (slot_at slots j).stamp)
  where
    zero_le : (m : ℕ) → nat_le 0 m ≡ true
    zero_le m = grind arith

    go : (stamp : Option ℕ) → stamped_behind 0 slots j stamp ≡ is_stamped slots j stamp
    go None = refl
    go (Some m) = ap (λ b. b && is_current slots j m) (zero_le m)

module _ (slots : List Slot) (standings : List Standing) (is : standings ≡ map standing_of slots) (result : Option ℕ) (first : result ≡ first_due 0 standings) where
  found_result : Found 0 slots result
  found_result = subst (λ o. Found 0 slots o) (sym (first ∙ ap (first_due 0) is)) (found 0 slots)

  pub least_some : IfSome result (IsLeastWork slots)
  least_some = go result found_result
    where
      go : (o : Option ℕ) → Found 0 slots o → IfSome o (IsLeastWork slots)
      go None h = tt
      go (Some i) h = record { within = h.within; has = sym (work_is slots i) ∙ h.has; none = λ j lt. sym (work_is slots j) ∙ h.none j lt }

  pub least_none : result ≡ None → (j : ℕ) → has_work slots j ≡ false
  least_none e j = sym (work_is slots j) ∙ subst (λ o. Found 0 slots o) e found_result j
