-- Steps of loops over lists.
use Rattle.std.specs.Prelude.{map, filter, if◌then◌else◌}
use Rattle.std.specs.List.{flat_map}
use Rattle.std.proofs.Common.{◌≡◌, ℕ, suc, ◌<◌, Bool, true, false, List, [], ◌∷◌, ◌++◌, length, drop, get_or, sym, ap, ◌∙◌, append_assoc, drop-cons, add-one, ◌+◌, refl}
use Rattle.std.proofs.lemmas.List.Elements.{filter-append}

-- a loop's step: the next, and those behind it
pub next_of : {A : Type 0} (xs : List A) (i : ℕ) (d : A) → i < length xs → drop i xs ≡ get_or xs i d ∷ drop (i + 1) xs
next_of xs i d h = rw add-one (drop-cons xs i d h)

-- what stands behind nothing
pub behind_none : {A : Type 0} (now start new : List A) → now ≡ start ++ new → start ≡ [] → now ≡ new
behind_none now start new e none = e ∙ ap (λ xs. xs ++ new) none

-- a loop's step, where what passes a test is put at the end
pub filtered_more : {A : Type 0} (p : A → Bool) (xs : List A) (i : ℕ) (d : A) (b : Bool) (now next all : List A) → i < length xs → b ≡ p (get_or xs i d)
    → next ≡ now ++ (if b then get_or xs i d ∷ [] else []) → now ++ filter p (drop i xs) ≡ all → next ++ filter p (drop (i + 1) xs) ≡ all
filtered_more {A} p xs i d b now next all h e pushed before =
    let x = get_or xs i d in
    let rest : List A = filter p (drop (i + 1) xs) in
    let split : drop i xs ≡ x ∷ drop (i + 1) xs = next_of xs i d h in
    ap (λ z. z ++ rest) pushed
    ∙ append_assoc now (if b then x ∷ [] else []) rest
    ∙ ap (λ z. now ++ z) (one b rest x ∙ ap (λ c. if c then x ∷ rest else rest) e)
    ∙ ap (λ z. now ++ filter p z) (sym split)
    ∙ before
  where
    one : {A : Type 0} (b : Bool) (ys : List A) (x : A) → (if b then x ∷ [] else []) ++ ys ≡ (if b then x ∷ ys else ys)
    one true ys x = refl
    one false ys x = refl

-- a loop's step, where what a function makes of what passes a test is put at the end
pub mapped_more : {A B : Type 0} (f : A → B) (p : A → Bool) (xs : List A) (i : ℕ) (d : A) (b : Bool) (now next all : List B) → i < length xs → b ≡ p (get_or xs i d)
    → next ≡ now ++ (if b then f (get_or xs i d) ∷ [] else []) → now ++ map f (filter p (drop i xs)) ≡ all → next ++ map f (filter p (drop (i + 1) xs)) ≡ all
mapped_more {A} f p xs i d b now next all h e pushed before =
    let x = get_or xs i d in
    let rest : List A = filter p (drop (i + 1) xs) in
    let split : drop i xs ≡ x ∷ drop (i + 1) xs = next_of xs i d h in
    ap (λ z. z ++ map f rest) pushed
    ∙ append_assoc now (if b then f x ∷ [] else []) (map f rest)
    ∙ ap (λ z. now ++ z) (one f b rest x ∙ ap (λ c. map f (if c then x ∷ rest else rest)) e)
    ∙ ap (λ z. now ++ map f (filter p z)) (sym split)
    ∙ before
  where
    one : {A B : Type 0} (f : A → B) (b : Bool) (ys : List A) (x : A) → (if b then f x ∷ [] else []) ++ map f ys ≡ map f (if b then x ∷ ys else ys)
    one f true ys x = refl
    one f false ys x = refl

-- a loop's step, where those of a lot that pass a test are put at the end
pub filtered_lot : {A : Type 0} (p : A → Bool) (left lot later now next all : List A) → left ≡ lot ++ later → next ≡ now ++ filter p lot → now ++ filter p left ≡ all → next ++ filter p later ≡ all
filtered_lot p left lot later now next all split pushed before =
    ap (λ z. z ++ filter p later) pushed ∙ append_assoc now (filter p lot) (filter p later) ∙ ap (λ z. now ++ z) (sym (ap (filter p) split ∙ filter-append p lot later)) ∙ before

-- a loop's step, where a list for each member is put at the end
pub listed_more : {X A : Type 0} (f : X → List A) (xs : List X) (i : ℕ) (x : X) (now next all : List A) → i < length xs → x ≡ get_or xs i x
    → next ≡ now ++ f x → now ++ flat_map f (drop i xs) ≡ all → next ++ flat_map f (drop (i + 1) xs) ≡ all
listed_more {X} f xs i x now next all h is pushed before =
    let split : drop i xs ≡ x ∷ drop (i + 1) xs = rw add-one (drop-cons xs i x h ∙ ap (λ y. y ∷ drop (suc i) xs) (sym is)) in
    ap (λ z. z ++ flat_map f (drop (i + 1) xs)) pushed
    ∙ append_assoc now (f x) (flat_map f (drop (i + 1) xs))
    ∙ ap (λ z. now ++ flat_map f z) (sym split)
    ∙ before
