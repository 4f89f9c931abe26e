-- One change in place of neighbours.
use Rattle.std.proofs.Common.{◌≡◌, ℕ, suc, set, arith, ◌<◌, ◌≤◌, ◌+◌, ◌-◌, List, [], ◌∷◌, ◌++◌, length, take, drop, get_or, append_assoc, length-drop, refl, ap, sym, subst, ◌∙◌}
use Rattle.std.proofs.Math.Seq.{take-set-lt, take-append-add, take-append_seam, drop-append_seam, drop-cons}
use Rattle.std.proofs.lemmas.List.{set-append_right, take_more_set, take-take, take-append-drop}
use Rattle.std.proofs.lemmas.List.Folds.{drop_split}
use Rattle.std.proofs.lemmas.List.Sums.{sum_by-cons}
use Rattle.std.specs.List.{slice_range}
use Rattle.reads.specs.Reads.{View, Delta, applied}
use Rattle.version_overlay.specs.Joined.{Joined, none, one, size_of, size_of_all}
use Rattle.version_overlay.specs.Settled.{changed_by}
use Rattle.version_overlay.proofs.Changing.{changed_by-append}

-- LISTS

-- the items from a place on and before another, with one more at the front
pub one_before : {X : Type 0} (xs : List X) (k past : ℕ) (x : X) → k < past → k < length xs → slice_range xs k past ≡ get_or xs k x ∷ slice_range xs (suc k) past
one_before xs k past x lt within =
    let e : past - k ≡ suc (past - suc k) = omega (arith, lt) in
    λ i. take (e i) (drop-cons xs k x within i)

set_last : {X : Type 0} (i : ℕ) (xs : List X) (x : X) → i < length xs → set (take (i + 1) xs) i x ≡ take i xs ++ x ∷ []
set_last i xs x lt = sym (take-set-lt (i + 1) xs i x (omega arith)) ∙ take_more_set xs i x lt

-- the neighbours before a place turned behind the others, cut off behind the first of them, that
-- one replaced, and all turned back
pub replaced : {X : Type 0} (first past behind cut : ℕ) (xs turned short whole : List X) (x : X) → first < past → past + behind ≡ length xs → turned ≡ drop past xs ++ take past xs
    → cut ≡ behind + first + 1 → short ≡ take cut turned → whole ≡ set short (behind + first) x → drop behind whole ++ take behind whole ≡ take first xs ++ x ∷ drop past xs
replaced first past behind cut xs turned short whole x lt len turned_is cut_is short_is whole_is =
    let ys = drop past xs in
    let own = length-drop past xs in
    let b : length ys ≡ behind = omega (arith, own, len) in
    let n : cut ≡ length ys + (first + 1) = omega (arith, cut_is, b) in
    let k : behind + first - behind ≡ first = omega arith in
    let short_as : short ≡ ys ++ take (first + 1) xs =
    short_is ∙ (λ i. take (n i) (turned_is i)) ∙ take-append-add ys (take past xs) (first + 1) ∙ ap (λ zs. ys ++ zs) (take-take (first + 1) past xs (omega (arith, lt))) in
    let whole_as : whole ≡ ys ++ (take first xs ++ x ∷ []) =
    whole_is ∙ ap (λ zs. set zs (behind + first) x) short_as
    ∙ set-append_right ys (take (first + 1) xs) behind (behind + first) x b (omega arith)
    ∙ ap (λ j. ys ++ set (take (first + 1) xs) j x) k
    ∙ ap (λ zs. ys ++ zs) (set_last first xs x (omega (arith, lt, len))) in
    ap (λ zs. drop behind zs ++ take behind zs) whole_as
    ∙ ap (λ j. drop j (ys ++ (take first xs ++ x ∷ [])) ++ take j (ys ++ (take first xs ++ x ∷ []))) (sym b)
    ∙ (λ i. drop-append_seam ys (take first xs ++ x ∷ []) i ++ take-append_seam ys (take first xs ++ x ∷ []) i)
    ∙ append_assoc (take first xs) (x ∷ []) ys

split_at : {X : Type 0} (xs : List X) (first past : ℕ) → first ≤ past → xs ≡ take first xs ++ slice_range xs first past ++ drop past xs
split_at xs first past le =
    sym (take-append-drop first xs) ∙ ap (λ ys. take first xs ++ ys) (drop_split xs first past le) ∙ sym (append_assoc (take first xs) (slice_range xs first past) (drop past xs))

-- CHANGES

one_then : (c : Delta) (cs : List Delta) (v : View) → changed_by (c ∷ cs) v ≡ changed_by cs (applied c v)
unfolding changed_by
one_then c cs v = refl

-- one change in place of neighbours that it is as
pub one_for : (cs : List Delta) (first past : ℕ) (c : Delta) → first ≤ past → ((v : View) → applied c v ≡ changed_by (slice_range cs first past) v) → (v : View) → changed_by (take first cs ++ c ∷ drop past cs) v ≡ changed_by cs v
one_for cs first past c le same v =
    let before = changed_by (take first cs) v in
    changed_by-append (take first cs) (c ∷ drop past cs) v ∙ one_then c (drop past cs) before ∙ ap (changed_by (drop past cs)) (same before)
    ∙ sym (changed_by-append (slice_range cs first past) (drop past cs) before) ∙ ap (λ xs. changed_by xs before) (sym (drop_split cs first past le))
    ∙ sym (changed_by-append (take first cs) (drop first cs) v) ∙ ap (λ xs. changed_by xs v) (take-append-drop first cs)

-- HOW MANY ARE JOINED

pub none_before : (cs : List Delta) (place room : ℕ) → size_of_all (slice_range cs place place) + room ≡ room
none_before cs place room =
    let e : place - place ≡ 0 = omega arith in
    let sizes : size_of_all (slice_range cs place place) ≡ 0 = ap (λ n. size_of_all (take n (drop place cs))) e in
    omega (arith, sizes)

pub more_before : (cs : List Delta) (place first past : ℕ) (c : Delta) (left rest room : ℕ) → place + 1 ≡ first → first ≤ past → place < length cs → c ≡ get_or cs place c → size_of c + rest ≡ left
    → size_of_all (slice_range cs first past) + left ≡ room → size_of_all (slice_range cs place past) + rest ≡ room
more_before cs place first past c left rest room next le lt is beside so_far =
    let n : first ≡ suc place = omega (arith, next) in
    let sizes : size_of_all (slice_range cs place past) ≡ size_of (get_or cs place c) + size_of_all (slice_range cs (suc place) past) =
    ap size_of_all (one_before cs place past c (omega (arith, next, le)) lt) ∙ sum_by-cons size_of (get_or cs place c) (slice_range cs (suc place) past) in
    let own : size_of (get_or cs place c) ≡ size_of c = ap size_of (sym is) in
    let others : size_of_all (slice_range cs (suc place) past) ≡ size_of_all (slice_range cs first past) = ap (λ k. size_of_all (slice_range cs k past)) (sym n) in
    omega (arith, sizes, own, others, beside, so_far)

pub joined_once : (cs ds : List Delta) (first past : ℕ) (c : Delta) → first ≤ past → ds ≡ take first cs ++ c ∷ drop past cs → Joined cs (size_of_all (slice_range cs first past)) ds
joined_once cs ds first past c le is =
    let run = slice_range cs first past in
    subst (λ xs. Joined cs (size_of_all run) xs) (sym is)
    (one {some = 0} (take first cs) run (drop past cs) c (subst (λ xs. Joined cs 0 xs) (split_at cs first past le) none) (omega arith))

pub joined_within : {cs ds : List Delta} {some : ℕ} (most : ℕ) → Joined cs some ds → some ≤ most → Joined cs most ds
joined_within most none le = none
joined_within most (one front run back c before h) le = one front run back c before (omega (arith, h, le))

pub joined_then : {bs cs ds : List Delta} {some more : ℕ} (most : ℕ) → Joined bs some cs → Joined cs more ds → some + more ≤ most → Joined bs most ds
joined_then most first none le = joined_within most first (omega (arith, le))
joined_then {some = k} most first (one {some = n} front run back c before h) le = one front run back c (joined_then (k + n) first before (omega arith)) (omega (arith, h, le))
