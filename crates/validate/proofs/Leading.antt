-- The requests that were found lead to all whose delta covers the read.
use Rattle.std.proofs.Common.{◌≡◌, ℕ, zero, suc, ◌+◌, ◌<◌, ◌≤◌, ◌⊎◌, inl, inr, Bool, true, false, if◌then◌else◌, List, [], ◌∷◌, ◌++◌, length, get_or, slice_index_or, refl, sym, ap, ◌∙◌, subst, arith}
use Rattle.std.specs.Prelude.{◌||◌}
use Rattle.std.specs.declared.cmp.Ordering.TheVariants.{Less}
use Rattle.std.specs.List.Sorted.{IsStrictlySortedBy}
use Rattle.std.specs.Ordering.{nat_cmp, eq_by_cmp, is_eq}
use Rattle.std.specs.Cmp.{tied_itself, nat_cmp_is}
use Rattle.std.proofs.lemmas.Cmp.{nat_cmp_total}
use Rattle.std.proofs.lemmas.List.{get_or_past}
use Rattle.std.proofs.lemmas.List.Folds.{list_any-append}
use Rattle.std.proofs.lemmas.Bool.{cases_lt, false≢true, false_from_ne_true, or_right}
use Rattle.std.proofs.Math.Bool.{or-true}
use Rattle.std.proofs.lemmas.Map.Keys.{below_from_sorted, sorted_head, sorted_tail}
use Rattle.std.proofs.lemmas.Map.Lookups.{exact_unsigned}
use Rattle.sets.specs.Sets.{has}
use Rattle.sets.proofs.SetLaws.{exact_by, sorted-cons, sorted-empty}
use Rattle.sets.proofs.Every.{all_joined}
use Rattle.reads.specs.Reads.{Read, covers}
use Rattle.incarnations.specs.declared.state.Slot.{Slot as KeptSlot}
use Rattle.incarnations.specs.Slots.{Slot}
use Rattle.incarnations.specs.Kept.{plain}
use Rattle.validate.specs.Below.{slot_at}
use Rattle.validate.specs.Kept.{shown}
use Rattle.validate.specs.Lower.{request_at, after_first, Leads, NoneCovers}
use Rattle.validate.proofs.Shown.{is_slot}

-- ---- a list with one more number, above all others

sorted_push : (xs : List ℕ) (n : ℕ) → IsStrictlySortedBy nat_cmp xs → ((j : ℕ) → has nat_cmp xs j ≡ true → j < n) → IsStrictlySortedBy nat_cmp (xs ++ n ∷ [])
sorted_push [] n s below = sorted-cons nat_cmp n [] tt (sorted-empty nat_cmp)
sorted_push (x ∷ xs) n s below =
    let first : x < n = below x (ap (λ r. is_eq r || has nat_cmp xs x) (tied_itself nat_cmp_total x)) in
    sorted-cons nat_cmp x (xs ++ n ∷ []) (all_joined (λ z. nat_cmp x z ≡ Less) xs (n ∷ []) (sorted_head nat_cmp x xs s) (sym (nat_cmp_is x n Less first), tt))
    (sorted_push xs n (sorted_tail nat_cmp x xs s) (λ j h. below j (or_right (eq_by_cmp nat_cmp j x) _ h)))

has-push : (xs : List ℕ) (n j : ℕ) → has nat_cmp (xs ++ n ∷ []) j ≡ (has nat_cmp xs j || (eq_by_cmp nat_cmp j n || false))
has-push xs n j = list_any-append (eq_by_cmp nat_cmp j) xs (n ∷ [])

old_or_last : (xs : List ℕ) (n j : ℕ) → has nat_cmp (xs ++ n ∷ []) j ≡ true → (has nat_cmp xs j ≡ true) ⊎ (j ≡ n)
old_or_last xs n j e = at (has nat_cmp xs j) (eq_by_cmp nat_cmp j n) refl refl (sym (has-push xs n j) ∙ e)
  where
    at : (a b : Bool) → has nat_cmp xs j ≡ a → eq_by_cmp nat_cmp j n ≡ b → (a || (b || false)) ≡ true → (has nat_cmp xs j ≡ true) ⊎ (j ≡ n)
    at true b f g h = inl f
    at false true f g h = inr (exact_by nat_cmp_total exact_unsigned j n g)
    at false false f g h = absurd (false≢true h)

has_old : (xs : List ℕ) (n j : ℕ) → has nat_cmp xs j ≡ true → has nat_cmp (xs ++ n ∷ []) j ≡ true
has_old xs n j e = has-push xs n j ∙ ap (λ b. b || (eq_by_cmp nat_cmp j n || false)) e

has_last : (xs : List ℕ) (n : ℕ) → has nat_cmp (xs ++ n ∷ []) n ≡ true
has_last xs n = has-push xs n n ∙ ap (λ r. has nat_cmp xs n || (is_eq r || false)) (tied_itself nat_cmp_total n) ∙ or-true (has nat_cmp xs n)

-- ---- those whose delta covers the read, one after another

-- a rising list of requests from `from` on and below k that has all of them whose delta covers the
-- read
pub record Gathers (slots : List Slot) (read : Read) (from k : ℕ) (found : List ℕ) : Type 0 where
  pub sorted : IsStrictlySortedBy nat_cmp found
  pub begins : (j : ℕ) → has nat_cmp found j ≡ true → from ≤ j
  pub below : (j : ℕ) → has nat_cmp found j ≡ true → j < k
  pub all : (j : ℕ) → from ≤ j → j < k → covers (slot_at slots j).delta read ≡ true → has nat_cmp found j ≡ true

pub gathers_none : (slots : List Slot) (read : Read) (from : ℕ) (found : List ℕ) → found ≡ [] → Gathers slots read from from found
gathers_none slots read from found none =
    subst (Gathers slots read from from) (sym none)
    (record { sorted = sorted-empty nat_cmp; begins = λ j e. absurd (false≢true e); below = λ j e. absurd (false≢true e); all = λ j ge lt e. absurd (omega (arith, ge, lt)) })

pub gathers_more : (xs : List KeptSlot) (read : Read) (from k : ℕ) (y : KeptSlot) (found more : List ℕ) → y ≡ slice_index_or xs k y → k < length xs → from ≤ k
    → more ≡ (if covers y.delta read then found ++ k ∷ [] else found) → Gathers (shown xs) read from k found → Gathers (shown xs) read from (k + 1) more
gathers_more xs read from k y found more at lt ge is g = subst (Gathers (shown xs) read from (k + 1)) (sym is) (go (covers y.delta read) refl)
  where
    here : covers y.delta read ≡ covers (slot_at (shown xs) k).delta read
    here = ap (λ (z : Slot). covers z.delta read) (is_slot plain xs k y at lt)

    go : (b : Bool) → covers y.delta read ≡ b → Gathers (shown xs) read from (k + 1) (if b then found ++ k ∷ [] else found)
    go true e = record {
      sorted = sorted_push found k g.sorted g.below;
      begins = λ j h. elim (old_or_last found k j h) [ inl old ↦ g.begins j old | inr last ↦ omega (arith, last, ge) ];
      below = λ j h. elim (old_or_last found k j h) [ inl old ↦ (let b = g.below j old in omega (arith, b)) | inr last ↦ omega (arith, last) ];
      all = λ j from_j to_j c. elim (cases_lt j k) [
        | inl lower ↦ has_old found k j (g.all j from_j lower c)
        | inr upper ↦ (let last : k ≡ j = omega (arith, upper, to_j) in subst (λ n. has nat_cmp (found ++ k ∷ []) n ≡ true) last (has_last found k))
      ];
    }
    go false e = record {
      sorted = g.sorted;
      begins = g.begins;
      below = λ j h. (let b = g.below j h in omega (arith, b));
      all = λ j from_j to_j c. elim (cases_lt j k) [
        | inl lower ↦ g.all j from_j lower c
        | inr upper ↦ (let last : k ≡ j = omega (arith, upper, to_j) in absurd (false≢true (sym e ∙ here ∙ ap (λ n. covers (slot_at (shown xs) n).delta read) last ∙ c)))
      ];
    }

-- ---- from a set to a lead

at-has : (xs : List ℕ) (k d : ℕ) → k < length xs → has nat_cmp xs (get_or xs k d) ≡ true
at-has [] k d lt = absurd (omega arith)
at-has (x ∷ xs) zero d lt = ap (λ r. is_eq r || has nat_cmp xs x) (tied_itself nat_cmp_total x)
at-has (x ∷ xs) (suc k) d lt = or_right (eq_by_cmp nat_cmp (get_or xs k d) x) _ (at-has xs k d (omega arith))

record Place (xs : List ℕ) (d j : ℕ) : Type 0 where
  place : ℕ
  within : place < length xs
  is : get_or xs place d ≡ j

place_of : (xs : List ℕ) (d j : ℕ) → has nat_cmp xs j ≡ true → Place xs d j
place_of [] d j e = absurd (false≢true e)
place_of (x ∷ xs) d j e = at (eq_by_cmp nat_cmp j x) refl e (place_of xs d j)
  where
    at : (b : Bool) → eq_by_cmp nat_cmp j x ≡ b → (b || has nat_cmp xs j) ≡ true → (has nat_cmp xs j ≡ true → Place xs d j) → Place (x ∷ xs) d j
    at true e f rest = record { place = 0; within = omega arith; is = sym (exact_by nat_cmp_total exact_unsigned j x e) }
    at false e f rest = let p = rest f in record { place = suc p.place; within = omega (arith, p.within); is = p.is }

module _ (slots : List Slot) (read : Read) (low : ℕ) (list : List ℕ) (i : ℕ) (rises : low ≤ i) (sorted : IsStrictlySortedBy nat_cmp list) (begins : (j : ℕ) → has nat_cmp list j ≡ true → low ≤ j)
    (within : (j : ℕ) → has nat_cmp list j ≡ true → j < i) (all : (j : ℕ) → low ≤ j → j < i → covers (slot_at slots j).delta read ≡ true → has nat_cmp list j ≡ true) where
  at_within : (k : ℕ) → k < length list → request_at list i k < i
  at_within k lt = within (get_or list k i) (at-has list k i lt)

  rises_to : (n m : ℕ) → n ≤ m → m < length list → request_at list i n ≤ request_at list i m
  rises_to n m le lt =
      elim (cases_lt n m) [
        | inl less ↦ (let b = below_from_sorted list n m i sorted less lt in omega (arith, b))
        | inr ge ↦ (let e : n ≡ m = omega (arith, le, ge) in subst (λ z. request_at list i n ≤ request_at list i z) e (omega arith))
      ]

  at_rising : (k : ℕ) → k ≤ length list → after_first low list i k ≤ request_at list i k
  at_rising zero le =
      elim (cases_lt 0 (length list)) [
        | inl lt ↦ begins (get_or list 0 i) (at-has list 0 i lt)
        | inr ge ↦ subst (λ z. low ≤ z) (sym (get_or_past list 0 i ge)) rises
      ]
  at_rising (suc k) le =
      let here = at_within k (omega (arith, le)) in
      elim (cases_lt (suc k) (length list)) [
        | inl lt ↦ below_from_sorted list k (suc k) i sorted (omega arith) lt
        | inr ge ↦ subst (λ z. suc (request_at list i k) ≤ z) (sym (get_or_past list (suc k) i ge)) here
      ]

  at_none : (k : ℕ) → k ≤ length list → NoneCovers slots read (after_first low list i k) (request_at list i k)
  at_none k le j down high = false_from_ne_true _ (λ e. no k le down high (place_of list i j (all j (from_low k le down) (below_i k le high) e)))
    where
      below_i : (k : ℕ) → k ≤ length list → j < request_at list i k → j < i
      below_i k le high =
          elim (cases_lt k (length list)) [
            | inl lt ↦ (let w = at_within k lt in omega (arith, w, high))
            | inr ge ↦ subst (λ z. j < z) (get_or_past list k i ge) high
          ]

      from_low : (k : ℕ) → k ≤ length list → after_first low list i k ≤ j → low ≤ j
      from_low zero le down = down
      from_low (suc k) le down =
          let b = begins (get_or list k i) (at-has list k i (omega (arith, le))) in
          let d : suc (get_or list k i) ≤ j = down in
          omega (arith, b, d)

      no : (k : ℕ) → k ≤ length list → after_first low list i k ≤ j → j < request_at list i k → Place list i j → ⊥
      no zero le down high p =
          let r = rises_to zero p.place (omega arith) p.within in
          let same : request_at list i p.place ≡ j = p.is in
          absurd (omega (arith, r, same, high))
      no (suc k) le down high p =
          let same : request_at list i p.place ≡ j = p.is in
          elim (cases_lt k p.place) [
            | inl lt ↦ (let r = rises_to (suc k) p.place (omega (arith, lt)) p.within in absurd (omega (arith, r, same, high)))
            | inr ge ↦ (let r = rises_to p.place k ge (omega (arith, le)) in absurd (omega (arith, r, same, down)))
          ]

  leads_all : Leads slots read low list i
  leads_all = record { within = at_within; rising = at_rising; none = at_none }

pub leads_gathered : (slots : List Slot) (read : Read) (from k i : ℕ) (found : List ℕ) → from ≤ i → k ≡ i → Gathers slots read from k found → Leads slots read from found i
leads_gathered slots read from k i found rises top g =
    leads_all slots read from found i rises g.sorted g.begins (λ j e. (let b = g.below j e in omega (arith, b, top))) (λ j ge lt c. g.all j ge (omega (arith, lt, top)) c)

-- where no delta covers the read
pub leads_none : (slots : List Slot) (read : Read) (from i : ℕ) (found : List ℕ) → found ≡ [] → from ≤ i → ((j : ℕ) → covers (slot_at slots j).delta read ≡ false) → Leads slots read from found i
leads_none slots read from i found none rises uncovered =
    subst (λ list. Leads slots read from list i) (sym none)
    (leads_all slots read from [] i rises (sorted-empty nat_cmp) (λ j e. absurd (false≢true e)) (λ j e. absurd (false≢true e)) (λ j ge lt c. absurd (false≢true (sym (uncovered j) ∙ c))))
