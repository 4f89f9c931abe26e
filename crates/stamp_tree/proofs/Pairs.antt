-- How a list and its pairs stand.
use Rattle.std.proofs.Common.{◌≡◌, ℕ, zero, suc, ◌<◌, ◌≤◌, ◌+◌, ◌/◌, max, Bool, true, false, List, [], ◌∷◌, ◌++◌, length, get_or, take, drop, slice_set, Option, Some, None, is_some, inl, inr, ◌⊎◌, refl, sym, ap, ◌∙◌, subst, arith, length-set}
use Rattle.std.specs.Prelude.{option_map, if◌then◌else◌, ◌||◌}
use Rattle.std.proofs.lemmas.Bool.{false≢true, cases_lt}
use Rattle.std.proofs.lemmas.List.{drop_more, drop_all, get_or_append_left, length-append}
use Rattle.std.proofs.Math.Seq.{get_or-append_seam}
use Rattle.stamp_tree.specs.declared.standing.Standing.{Standing}
use Rattle.stamp_tree.specs.Standings.{is_due, first_due, latest_after, StandsFor}
use Rattle.stamp_tree.specs.Pairs.{ArePairs, IsPaired}
use Rattle.stamp_tree.specs.Leading.{Leads}
use Rattle.stamp_tree.proofs.Joins.{stands_one, stands_joined, first_left, first_right, first_within}

-- ---- two of a list

two_at : (list : List Standing) (place : ℕ) (d e : Standing) → place + 1 < length list → take 2 (drop place list) ≡ get_or list place d ∷ get_or list (place + 1) e ∷ []
two_at list place d e lt =
    ap (take 2) (drop_more list place d (omega (arith, lt)) ∙ ap (λ (rest : List Standing). get_or list place d ∷ rest) (drop_more list (place + 1) e lt))

one_at : (list : List Standing) (place : ℕ) (d : Standing) → place < length list → length list ≤ place + 1 → take 2 (drop place list) ≡ get_or list place d ∷ []
one_at list place d lt le =
    ap (take 2) (drop_more list place d lt ∙ ap (λ (rest : List Standing). get_or list place d ∷ rest) (drop_all (place + 1) list le))

pub stands_alone : (list : List Standing) (place : ℕ) (d : Standing) → place < length list → length list ≤ place + 1 → StandsFor (get_or list place d) (take 2 (drop place list))
stands_alone list place d lt le = subst (λ (xs : List Standing). StandsFor (get_or list place d) xs) (sym (one_at list place d lt le)) (stands_one (get_or list place d))

pub stand_both : (list : List Standing) (place : ℕ) (d e whole : Standing) → place + 1 < length list
    → ((latest : ℕ) → is_due latest whole.due ≡ (is_due latest (get_or list place d).due || is_due (max latest (get_or list place d).changed) (get_or list (place + 1) e).due))
    → whole.changed ≡ max (get_or list place d).changed (get_or list (place + 1) e).changed → StandsFor whole (take 2 (drop place list))
stand_both list place d e whole lt due changed =
    subst (λ (xs : List Standing). StandsFor whole xs) (sym (two_at list place d e lt))
    (stands_joined whole (get_or list place d) (get_or list (place + 1) e) _ _ (stands_one (get_or list place d)) (stands_one (get_or list (place + 1) e)) due changed)

twice_more : (k : ℕ) → suc k + suc k ≡ suc (suc (k + k))
twice_more k = omega arith

-- ---- the pairs of a list

pub paired : (list pairs : List Standing) → length pairs + length pairs ≤ length list + 1 → length list ≤ length pairs + length pairs
    → ((k : ℕ) (d : Standing) → k < length pairs → StandsFor (get_or pairs k d) (take 2 (drop (k + k) list))) → ArePairs list pairs
paired [] [] most least each = tt
paired [] (w ∷ ws) most least each = absurd (omega (arith, most))
paired (x ∷ xs) [] most least each = absurd (omega (arith, least))
paired (x ∷ []) (w ∷ []) most least each = each 0 w (omega arith)
paired (x ∷ []) (w ∷ v ∷ ws) most least each = absurd (omega (arith, most))
paired (x ∷ y ∷ xs) (w ∷ ws) most least each = (
  each 0 w (omega arith),
  paired xs ws (omega (arith, most)) (omega (arith, least))
      (λ k d lt. subst (λ n. StandsFor (get_or ws k d) (take 2 (drop n (x ∷ y ∷ xs)))) (twice_more k) (each (suc k) d (omega (arith, lt)))),
)

pub most_pairs : (list pairs : List Standing) → ArePairs list pairs → length pairs + length pairs ≤ length list + 1
most_pairs [] [] are = omega arith
most_pairs [] (w ∷ ws) are = absurd are
most_pairs (x ∷ xs) [] are = absurd are
most_pairs (x ∷ []) (w ∷ []) are = omega arith
most_pairs (x ∷ []) (w ∷ v ∷ ws) are = absurd are
most_pairs (x ∷ y ∷ xs) (w ∷ ws) are = let rest = most_pairs xs ws are.1 in omega (arith, rest)

pub least_pairs : (list pairs : List Standing) → ArePairs list pairs → length list ≤ length pairs + length pairs
least_pairs [] [] are = omega arith
least_pairs [] (w ∷ ws) are = absurd are
least_pairs (x ∷ xs) [] are = absurd are
least_pairs (x ∷ []) (w ∷ []) are = omega arith
least_pairs (x ∷ []) (w ∷ v ∷ ws) are = absurd are
least_pairs (x ∷ y ∷ xs) (w ∷ ws) are = let rest = least_pairs xs ws are.1 in omega (arith, rest)

-- ---- one of a list is set, and its pair

pub set_paired : (list pairs : List Standing) (place pair : ℕ) (x w : Standing) → ArePairs list pairs → place < length list → pair + pair ≤ place → place ≤ pair + pair + 1
    → StandsFor w (take 2 (drop (pair + pair) (slice_set list place x))) → ArePairs (slice_set list place x) (slice_set pairs pair w)
set_paired [] pairs place pair x w are lt low high stands = absurd (omega (arith, lt))
set_paired (y ∷ ys) [] place pair x w are lt low high stands = absurd are
set_paired (y ∷ []) (v ∷ u ∷ us) place pair x w are lt low high stands = absurd are
set_paired (y ∷ []) (v ∷ []) zero zero x w are lt low high stands = stands
set_paired (y ∷ []) (v ∷ []) zero (suc k) x w are lt low high stands = absurd (omega (arith, low))
set_paired (y ∷ []) (v ∷ []) (suc p) pair x w are lt low high stands = absurd (omega (arith, lt))
set_paired (y ∷ z ∷ zs) (v ∷ vs) zero zero x w are lt low high stands = (stands, are.1)
set_paired (y ∷ z ∷ zs) (v ∷ vs) zero (suc k) x w are lt low high stands = absurd (omega (arith, low))
set_paired (y ∷ z ∷ zs) (v ∷ vs) (suc zero) zero x w are lt low high stands = (stands, are.1)
set_paired (y ∷ z ∷ zs) (v ∷ vs) (suc zero) (suc k) x w are lt low high stands = absurd (omega (arith, low))
set_paired (y ∷ z ∷ zs) (v ∷ vs) (suc (suc p)) zero x w are lt low high stands = absurd (omega (arith, high))
set_paired (y ∷ z ∷ zs) (v ∷ vs) (suc (suc p)) (suc k) x w are lt low high stands = (
  are.0,
  set_paired zs vs p k x w are.1 (omega (arith, lt)) (omega (arith, low)) (omega (arith, high))
      (subst (λ n. StandsFor w (take 2 (drop n (y ∷ z ∷ slice_set zs p x)))) (twice_more k) stands),
)

-- ---- the first that is due, in a list and in its pairs

if_some : (b : Bool) (o : Option ℕ) → is_some (if b then Some 0 else option_map (λ (place : ℕ). suc place) o) ≡ false → (b ≡ false) × (is_some o ≡ false)
if_some true o e = absurd (false≢true (sym e))
if_some false None e = (refl, refl)
if_some false (Some p) e = absurd (false≢true (sym e))

is_none : (o : Option ℕ) → is_some o ≡ false → o ≡ None
is_none None e = refl
is_none (Some p) e = absurd (false≢true (sym e))

-- none of the pairs, and none of the list
pub none_due : (list pairs : List Standing) (start : ℕ) → ArePairs list pairs → first_due start pairs ≡ None → first_due start list ≡ None
unfolding first_due latest_after
none_due [] pairs start are none = refl
none_due (x ∷ xs) [] start are none = absurd are
none_due (x ∷ []) (w ∷ v ∷ ws) start are none = absurd are
none_due (x ∷ []) (w ∷ []) start are none =
    let parts = if_some (is_due start w.due) None (ap is_some none) in
    is_none (first_due start (x ∷ [])) (are.due start ∙ parts.0)
none_due (x ∷ y ∷ xs) (w ∷ ws) start are none =
    let parts = if_some (is_due start w.due) (first_due (max start w.changed) ws) (ap is_some none) in
    first_right start (max start w.changed) (x ∷ y ∷ []) xs (are.0.due start ∙ parts.0) (are.0.changed start)
    ∙ ap (option_map (λ place. 2 + place)) (none_due xs ws (max start w.changed) are.1 (is_none (first_due (max start w.changed) ws) parts.1))

-- one pair more
pub each_more : (list pairs new : List Standing) (w : Standing) (n : ℕ) → length pairs ≡ n → new ≡ pairs ++ w ∷ [] → StandsFor w (take 2 (drop (n + n) list))
    → ((k : ℕ) (d : Standing) → k < length pairs → StandsFor (get_or pairs k d) (take 2 (drop (k + k) list)))
    → (k : ℕ) (d : Standing) → k < length new → StandsFor (get_or new k d) (take 2 (drop (k + k) list))
each_more list pairs new w n many made here each k d lt = go (cases_lt k (length pairs))
  where
    go : (k < length pairs) ⊎ (length pairs ≤ k) → StandsFor (get_or new k d) (take 2 (drop (k + k) list))
    go (inl before) =
        subst (λ (x : Standing). StandsFor x (take 2 (drop (k + k) list)))
        (sym (ap (λ (xs : List Standing). get_or xs k d) made ∙ get_or_append_left pairs (w ∷ []) d k before)) (each k d before)
    go (inr ge) =
        let is : k ≡ length pairs = omega (arith, lt, ge, ap length made, length-append pairs (w ∷ [])) in
        subst (λ (x : Standing). StandsFor x (take 2 (drop (k + k) list)))
        (sym (ap (λ (xs : List Standing). get_or xs k d) made ∙ ap (λ i. get_or (pairs ++ w ∷ []) i d) is ∙ get_or-append_seam pairs w [] d))
        (subst (λ i. StandsFor w (take 2 (drop (i + i) list))) (sym (is ∙ many)) here)

-- ---- the first that is due

if_zero : (b : Bool) (o : Option ℕ) → (if b then Some 0 else option_map (λ (place : ℕ). suc place) o) ≡ Some 0 → b ≡ true
if_zero true o e = refl
if_zero false None e = absurd (let f : None ≡ Some 0 = e in (cc))
if_zero false (Some p) e = absurd (let f : Some (suc p) ≡ Some 0 = e in (cc))

if_suc : (b : Bool) (o : Option ℕ) (p : ℕ) → (if b then Some 0 else option_map (λ (place : ℕ). suc place) o) ≡ Some (suc p) → (b ≡ false) × (o ≡ Some p)
if_suc true o p e = absurd (let f : Some 0 ≡ Some (suc p) = e in (cc))
if_suc false None p e = absurd (let f : None ≡ Some (suc p) = e in (cc))
if_suc false (Some q) p e = (refl, (let f : Some (suc q) ≡ Some (suc p) = e in (cc)))

one_due : (b : Bool) → b ≡ false → is_some (if b then Some 0 else option_map (λ (place : ℕ). suc place) None) ≡ true → ⊥
one_due true e f = false≢true (sym e)
one_due false e f = false≢true f

second_due : (b c : Bool) → b ≡ false → is_some (if b then Some 0 else option_map (λ (place : ℕ). suc place) (if c then Some 0 else option_map (λ (place : ℕ). suc place) None)) ≡ true
    → (if b then Some 0 else option_map (λ (place : ℕ). suc place) (if c then Some 0 else option_map (λ (place : ℕ). suc place) None)) ≡ Some 1
second_due true c e f = absurd (false≢true (sym e))
second_due false true e f = refl
second_due false false e f = absurd (false≢true f)

two_places : (k : ℕ) → 2 + (k + k) ≡ suc k + suc k
two_places k = omega arith

two_places_behind : (k : ℕ) → 2 + (k + k + 1) ≡ suc k + suc k + 1
two_places_behind k = omega arith

-- of one request at most
pub none_alone : (list : List Standing) (d : Standing) → length list ≤ 1 → is_due 0 (get_or list 0 d).due ≡ false → first_due 0 list ≡ None
unfolding first_due
none_alone [] d few e = refl
none_alone (x ∷ []) d few e = ap (λ b. if b then Some 0 else option_map (λ (place : ℕ). suc place) None) e
none_alone (x ∷ y ∷ xs) d few e = absurd (omega (arith, few))

pub none_empty : (list : List Standing) → length list ≡ 0 → first_due 0 list ≡ None
unfolding first_due
none_empty [] e = refl
none_empty (x ∷ xs) e = absurd (omega (arith, e))

pub lead_alone : (list : List Standing) (d : Standing) → 0 < length list → is_due 0 (get_or list 0 d).due ≡ true → Leads 0 list 0 0
unfolding first_due latest_after
lead_alone [] d some e = absurd (omega (arith, some))
lead_alone (x ∷ xs) d some e = (ap (λ b. if b then Some 0 else option_map (λ (place : ℕ). suc place) (first_due (max 0 x.changed) xs)) e, refl)

-- a pair leads, and so does the first of it where that is due
pub lead_first : (list pairs : List Standing) (start place latest : ℕ) (d : Standing) → ArePairs list pairs → Leads start pairs place latest
    → is_due latest (get_or list (place + place) d).due ≡ true → Leads start list (place + place) latest
unfolding first_due latest_after
lead_first [] [] start place latest d are h e = absurd (let f : None ≡ Some place = h.0 in (cc))
lead_first [] (w ∷ ws) start place latest d are h e = absurd are
lead_first (x ∷ xs) [] start place latest d are h e = absurd are
lead_first (x ∷ []) (w ∷ v ∷ ws) start place latest d are h e = absurd are
lead_first (x ∷ []) (w ∷ []) start zero latest d are h e =
    (ap (λ b. if b then Some 0 else option_map (λ (place : ℕ). suc place) None) (ap (λ n. is_due n x.due) h.1 ∙ e), h.1)
lead_first (x ∷ []) (w ∷ []) start (suc p) latest d are h e =
    absurd (let parts = if_suc (is_due start w.due) None p h.0 in let f : None ≡ Some p = parts.1 in (cc))
lead_first (x ∷ y ∷ xs) (w ∷ ws) start zero latest d are h e =
    (ap (λ b. if b then Some 0 else option_map (λ (place : ℕ). suc place) (first_due (max start x.changed) (y ∷ xs))) (ap (λ n. is_due n x.due) h.1 ∙ e), h.1)
lead_first (x ∷ y ∷ xs) (w ∷ ws) start (suc p) latest d are h e =
    let next = max start w.changed in
    let parts = if_suc (is_due start w.due) (first_due next ws) p h.0 in
    let rest = lead_first xs ws next p latest d are.1 (parts.1, h.1) (ap (λ n. is_due latest (get_or (x ∷ y ∷ xs) n d).due) (sym (twice_more p)) ∙ e) in (
      first_right start next (x ∷ y ∷ []) xs (are.0.due start ∙ parts.0) (are.0.changed start) ∙ ap (option_map (λ place. 2 + place)) rest.0 ∙ ap (λ n. Some n) (two_places p),
      ap (λ n. latest_after start (take n (x ∷ y ∷ xs))) (twice_more p) ∙ ap (λ n. latest_after n (take (p + p) xs)) (are.0.changed start) ∙ rest.1,
    )

behind_more : (k : ℕ) → suc k + suc k + 1 ≡ suc (suc (k + k + 1))
behind_more k = omega arith

-- else the second of it does
pub lead_second : (list pairs : List Standing) (start place latest : ℕ) (d : Standing) → ArePairs list pairs → Leads start pairs place latest
    → is_due latest (get_or list (place + place) d).due ≡ false → Leads start list (place + place + 1) (max latest (get_or list (place + place) d).changed)
unfolding first_due latest_after
lead_second [] [] start place latest d are h e = absurd (let f : None ≡ Some place = h.0 in (cc))
lead_second [] (w ∷ ws) start place latest d are h e = absurd are
lead_second (x ∷ xs) [] start place latest d are h e = absurd are
lead_second (x ∷ []) (w ∷ v ∷ ws) start place latest d are h e = absurd are
lead_second (x ∷ []) (w ∷ []) start zero latest d are h e =
    absurd (one_due (is_due start x.due) (ap (λ n. is_due n x.due) h.1 ∙ e) (are.due start ∙ if_zero (is_due start w.due) None h.0))
lead_second (x ∷ []) (w ∷ []) start (suc p) latest d are h e =
    absurd (let parts = if_suc (is_due start w.due) None p h.0 in let f : None ≡ Some p = parts.1 in (cc))
lead_second (x ∷ y ∷ xs) (w ∷ ws) start zero latest d are h e =
    let some = are.0.due start ∙ if_zero (is_due start w.due) (first_due (max start w.changed) ws) h.0 in (
      first_left start (x ∷ y ∷ []) xs some ∙ second_due (is_due start x.due) (is_due (max start x.changed) y.due) (ap (λ n. is_due n x.due) h.1 ∙ e) some,
      ap (λ n. max n x.changed) h.1,
    )
lead_second (x ∷ y ∷ xs) (w ∷ ws) start (suc p) latest d are h e =
    let next = max start w.changed in
    let parts = if_suc (is_due start w.due) (first_due next ws) p h.0 in
    let rest = lead_second xs ws next p latest d are.1 (parts.1, h.1) (ap (λ n. is_due latest (get_or (x ∷ y ∷ xs) n d).due) (sym (twice_more p)) ∙ e) in (
      first_right start next (x ∷ y ∷ []) xs (are.0.due start ∙ parts.0) (are.0.changed start) ∙ ap (option_map (λ place. 2 + place)) rest.0 ∙ ap (λ n. Some n) (two_places_behind p),
      ap (λ n. latest_after start (take n (x ∷ y ∷ xs))) (behind_more p) ∙ ap (λ n. latest_after n (take (p + p + 1) xs)) (are.0.changed start) ∙ rest.1
          ∙ ap (λ n. max latest (get_or (x ∷ y ∷ xs) n d).changed) (sym (twice_more p)),
    )

-- what leads has its pair within the list
pub lead_within : (list pairs shown : List Standing) (place latest : ℕ) → ArePairs list pairs → shown ≡ pairs → Leads 0 shown place latest → place + place < length list
lead_within list pairs shown place latest are is h =
    let most = most_pairs list pairs are in
    let within = first_within 0 shown place h.0 in
    omega (arith, most, within, ap length is)

-- one of a list is set, and its pair
pub set_summed : (list pairs pairs' : List Standing) (place : ℕ) (x w : Standing) → IsPaired list pairs → place < length list
    → StandsFor w (take 2 (drop (place / 2 + place / 2) (slice_set list place x))) → pairs' ≡ slice_set pairs (place / 2) w → IsPaired (slice_set list place x) pairs'
set_summed list pairs pairs' place x w is lt stands e =
    let count : length (slice_set list place x) ≡ length list = length-set list place x in
    let above : length pairs' ≡ length pairs = ap length e ∙ length-set pairs (place / 2) w in
    record {
      several = omega (arith, is.several, count);
      fewer = omega (arith, is.fewer, count, above);
      pairs_are = subst (λ (ws : List Standing). ArePairs (slice_set list place x) ws) (sym e) (set_paired list pairs place (place / 2) x w is.pairs_are lt (omega arith) (omega arith) stands);
    }
