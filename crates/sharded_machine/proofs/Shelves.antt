-- A shard's part stays as it is until an entry touches the shard.
use Rattle.std.proofs.Common.{◌≡◌, ℕ, ◌+◌, ◌≤◌, inl, inr, Bool, true, false, ◌||◌, ◌==◌, if◌then◌else◌, List, [], ◌∷◌, ◌++◌, length, length-append, take, drop, Some, refl, sym, ap, ◌∙◌, subst, arith, eqb-true}
use Rattle.std.proofs.Math.Nat.{le_refl}
use Rattle.std.proofs.lemmas.Bool.{false≢true, or_parts, cases_lt}
use Rattle.std.proofs.lemmas.List.{append_assoc, append-nil, take_all, take-append-drop, length-take}
use Rattle.std.specs.List.{list_any}
use Rattle.reads.specs.Reads.{Delta, no_change}
use Rattle.incarnations.specs.declared.state.Event.{Event}
use Rattle.incarnations.specs.declared.state.Event.TheVariants.{Publish}
use Rattle.incarnations.specs.declared.state.Reply.{Reply}
use Rattle.incarnations.specs.declared.state.Reply.TheVariants.{Published}
use Rattle.incarnations.specs.declared.state.Entry.{Entry}
use Rattle.shards.specs.Shards.{cut, speaks, speaks_in}
use Rattle.sharded_machine.specs.Shelves.{Shelved, nothing_shelved, shelf_with, shelf_after, shelf, shelved_in, part_after, touches_by, touches, last_touch_after, last_touch}

-- ---- a change that speaks of nothing in a shard

no_elements : {A : Type 0} (xs : List A) → list_any (λ x. true) xs ≡ false → xs ≡ []
no_elements [] h = refl
no_elements (x ∷ xs) h = absurd (false≢true (sym h))

pub silent : (c : Delta) → speaks c ≡ false → c ≡ no_change
silent c h =
    let both = or_parts (list_any (λ q. true) c.present || list_any (λ q. true) c.absent) (list_any (λ g. true) c.there || list_any (λ g. true) c.gone) h in
    let quads = or_parts (list_any (λ q. true) c.present) (list_any (λ q. true) c.absent) both.0 in
    let names = or_parts (list_any (λ g. true) c.there) (list_any (λ g. true) c.gone) both.1 in
    λ t. record { present = no_elements c.present quads.0 t; absent = no_elements c.absent quads.1 t; there = no_elements c.there names.0 t; gone = no_elements c.gone names.1 t }

silent_in : (k : ℕ) (x : Shelved) → speaks_in k x.delta ≡ false → shelved_in k x ≡ record { delta = no_change; version = 0 }
silent_in k x h = λ t. record { delta = silent (cut k x.delta) h t; version = if h t then x.version else 0 }

-- ---- one entry more

pub shelf_push : (j : ℕ) (x : Shelved) (es : List Entry) (e : Entry) → shelf_after j x (es ++ e ∷ []) ≡ shelf_with j (shelf_after j x es) e.event e.reply
unfolding shelf_after
shelf_push j x [] e = refl
shelf_push j x (y ∷ ys) e = shelf_push j (shelf_with j x y.event y.reply) ys e

kept_in : (k j : ℕ) (before : List Entry) (e : Event) (r : Reply) → touches_by k before e r ≡ false → shelved_in k (shelf_with j (shelf j before) e r) ≡ shelved_in k (shelf j before)
kept_in k j before (Publish i n (Some f)) Published h = go (i == j) refl
  where
    new : Shelved
    new = record { delta = f.delta; version = n }

    parts : (speaks_in k f.delta ≡ false) × (speaks_in k (shelf i before).delta ≡ false)
    parts = or_parts (speaks_in k f.delta) (speaks_in k (shelf i before).delta) h

    go : (b : Bool) → (i == j) ≡ b → shelved_in k (if b then new else shelf j before) ≡ shelved_in k (shelf j before)
    go false e = refl
    go true e =
        let same : i ≡ j = eqb-true i j e in
        silent_in k new parts.0 ∙ sym (silent_in k (shelf j before) (ap (λ (l : ℕ). speaks_in k (shelf l before).delta) (sym same) ∙ parts.1))
kept_in k j before e r h = refl

-- An entry that does not touch a shard leaves its part as it was.
pub untouched_part : (k : ℕ) (before : List Entry) (e : Entry) → touches k before e ≡ false → (j : ℕ) → part_after k (before ++ e ∷ []) j ≡ part_after k before j
untouched_part k before e h j = ap (shelved_in k) (shelf_push j nothing_shelved before e) ∙ kept_in k j before e.event e.reply h

-- ---- the last touch

last_push : (k : ℕ) (before : List Entry) (last : ℕ) (es : List Entry) (e : Entry)
    → last_touch_after k before last (es ++ e ∷ []) ≡ (if touches k (before ++ es) e then length (before ++ es) + 1 else last_touch_after k before last es)
unfolding last_touch_after
last_push k before last [] e = λ t. if touches k (sym (append-nil before) t) e then length (sym (append-nil before) t) + 1 else last
last_push k before last (x ∷ xs) e =
    last_push k (before ++ x ∷ []) (if touches k before x then length before + 1 else last) xs e
    ∙ (λ t. if touches k (append_assoc before (x ∷ []) xs t) e then length (append_assoc before (x ∷ []) xs t) + 1 else last_touch_after k (before ++ x ∷ []) (if touches k before x then length before + 1 else last) xs)

pub untouched_last : (k : ℕ) (before : List Entry) (e : Entry) → touches k before e ≡ false → last_touch k (before ++ e ∷ []) ≡ last_touch k before
untouched_last k before e h = last_push k [] 0 before e ∙ ap (λ b. if b then length before + 1 else last_touch k before) h

pub touched_last : (k : ℕ) (before : List Entry) (e : Entry) → touches k before e ≡ true → last_touch k (before ++ e ∷ []) ≡ length before + 1
touched_last k before e h = last_push k [] 0 before e ∙ ap (λ b. if b then length before + 1 else last_touch k before) h

-- the last touch is no less than one before, and within the history
last_grows : (k : ℕ) (before : List Entry) (last : ℕ) (es : List Entry) → last ≤ length before → (last ≤ last_touch_after k before last es) × (last_touch_after k before last es ≤ length (before ++ es))
unfolding last_touch_after
last_grows k before last [] h = (le_refl last, (let l = ap length (append-nil before) in omega (arith, l, h)))
last_grows k before last (e ∷ es) h = go (touches k before e) (λ b le. last_grows k (before ++ e ∷ []) (next b) es le)
  where
    next : Bool → ℕ
    next b = if b then length before + 1 else last

    Grows : Bool → Type 0
    Grows b = (last ≤ last_touch_after k (before ++ e ∷ []) (next b) es) × (last_touch_after k (before ++ e ∷ []) (next b) es ≤ length (before ++ e ∷ es))

    go : (b : Bool) → ((c : Bool) → next c ≤ length (before ++ e ∷ []) → (next c ≤ last_touch_after k (before ++ e ∷ []) (next c) es) × (last_touch_after k (before ++ e ∷ []) (next c) es ≤ length ((before ++ e ∷ []) ++ es))) → Grows b
    go true g =
        let l = length-append before (e ∷ []) in
        let a = g true (omega (arith, l)) in
        let p = a.0 in
        (omega (arith, h, p), subst (λ (xs : List Entry). last_touch_after k (before ++ e ∷ []) (next true) es ≤ length xs) (append_assoc before (e ∷ []) es) a.1)
    go false g =
        let l = length-append before (e ∷ []) in
        let a = g false (omega (arith, l, h)) in
        (a.0, subst (λ (xs : List Entry). last_touch_after k (before ++ e ∷ []) (next false) es ≤ length xs) (append_assoc before (e ∷ []) es) a.1)

-- with no touch from here on, the part is the one here
quiet : (k : ℕ) (before : List Entry) (last : ℕ) (es : List Entry) → last ≤ length before → last_touch_after k before last es ≤ length before → (j : ℕ) → part_after k (before ++ es) j ≡ part_after k before j
unfolding last_touch_after
quiet k before last [] le h j = ap (λ (xs : List Entry). part_after k xs j) (append-nil before)
quiet k before last (e ∷ es) le h j = go (touches k before e) refl h (λ l m. quiet k (before ++ e ∷ []) last es l m j)
  where
    shorter : last ≤ length before → last ≤ length (before ++ e ∷ [])
    shorter a = let l = length-append before (e ∷ []) in omega (arith, l, a)

    go : (b : Bool) → touches k before e ≡ b → last_touch_after k (before ++ e ∷ []) (if b then length before + 1 else last) es ≤ length before
        → (last ≤ length (before ++ e ∷ []) → last_touch_after k (before ++ e ∷ []) last es ≤ length (before ++ e ∷ []) → part_after k ((before ++ e ∷ []) ++ es) j ≡ part_after k (before ++ e ∷ []) j)
        → part_after k (before ++ e ∷ es) j ≡ part_after k before j
    go true t m rest =
        let l = length-append before (e ∷ []) in
        let g = (last_grows k (before ++ e ∷ []) (length before + 1) es (omega (arith, l))).0 in
        absurd (omega (arith, g, m))
    go false t m rest =
        let l = length-append before (e ∷ []) in
        ap (λ (xs : List Entry). part_after k xs j) (sym (append_assoc before (e ∷ []) es)) ∙ rest (shorter le) (omega (arith, l, m)) ∙ untouched_part k before e t j

last_append : (k : ℕ) (before : List Entry) (last : ℕ) (es more : List Entry) → last_touch_after k before last (es ++ more) ≡ last_touch_after k (before ++ es) (last_touch_after k before last es) more
unfolding last_touch_after
last_append k before last [] more = ap (λ (xs : List Entry). last_touch_after k xs last more) (sym (append-nil before))
last_append k before last (e ∷ es) more =
    last_append k (before ++ e ∷ []) (if touches k before e then length before + 1 else last) es more
    ∙ ap (λ (xs : List Entry). last_touch_after k xs (last_touch_after k (before ++ e ∷ []) (if touches k before e then length before + 1 else last) es) more) (append_assoc before (e ∷ []) es)

-- The part is the one after any beginning that has the last touch.
pub part_since : (k : ℕ) (history : List Entry) (n : ℕ) → last_touch k history ≤ n → (j : ℕ) → part_after k (take n history) j ≡ part_after k history j
part_since k history n h j =
    elim (cases_lt (length history) n) [
      | inl past ↦ ap (λ (xs : List Entry). part_after k xs j) (take_all n history (omega (arith, past)))
      | inr within ↦
          let len = length-take n history in
          let is : length (take n history) ≡ n = omega (arith, len, within) in
          let first = (last_grows k [] 0 (take n history) (omega arith)).1 in
          let parted : last_touch k history ≡ last_touch_after k (take n history) (last_touch k (take n history)) (drop n history) =
          ap (last_touch k) (sym (take-append-drop n history)) ∙ last_append k [] 0 (take n history) (drop n history) in
          sym (quiet k (take n history) (last_touch k (take n history)) (drop n history) first (omega (arith, is, h, parted)) j)
          ∙ ap (λ (xs : List Entry). part_after k xs j) (take-append-drop n history)
    ]
