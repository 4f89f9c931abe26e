-- How two lists stand, one behind the other.
use Rattle.std.proofs.Common.{◌≡◌, ℕ, suc, ◌<◌, ◌+◌, max, Bool, true, false, List, [], ◌∷◌, ◌++◌, length, Option, Some, None, is_some, refl, sym, ap, ◌∙◌, arith}
use Rattle.std.specs.Prelude.{option_map, if◌then◌else◌, ◌||◌}
use Rattle.stamp_tree.specs.declared.standing.Standing.{Standing}
use Rattle.stamp_tree.specs.Standings.{is_due, first_due, latest_after, StandsFor}

pub latest-append : (latest : ℕ) (xs ys : List Standing) → latest_after latest (xs ++ ys) ≡ latest_after (latest_after latest xs) ys
unfolding latest_after
latest-append latest [] ys = refl
latest-append latest (x ∷ xs) ys = latest-append (max latest x.changed) xs ys

-- the first one of two lists
abbrev pub or_behind : Option ℕ → ℕ → Option ℕ → Option ℕ
or_behind (Some place) count other = Some place
or_behind None count other = option_map (λ place. count + place) other

moved : (o other : Option ℕ) (count : ℕ) → option_map (λ place. suc place) (or_behind o count other) ≡ or_behind (option_map (λ place. suc place) o) (suc count) other
moved (Some place) other count = refl
moved None None count = refl
moved None (Some place) count = ap (λ n. Some n) (omega arith)

if_behind : (b : Bool) (o other : Option ℕ) (count : ℕ) (both : Option ℕ) → both ≡ or_behind o count other
    → (if b then Some 0 else option_map (λ place. suc place) both) ≡ or_behind (if b then Some 0 else option_map (λ place. suc place) o) (suc count) other
if_behind true o other count both e = refl
if_behind false o other count both e = ap (option_map (λ place. suc place)) e ∙ moved o other count

none_behind : (o : Option ℕ) → o ≡ or_behind None 0 o
none_behind None = refl
none_behind (Some place) = ap (λ n. Some n) (omega arith)

pub first-append : (latest : ℕ) (xs ys : List Standing) → first_due latest (xs ++ ys) ≡ or_behind (first_due latest xs) (length xs) (first_due (latest_after latest xs) ys)
unfolding first_due latest_after
first-append latest [] ys = none_behind (first_due latest ys)
first-append latest (x ∷ xs) ys =
    if_behind (is_due latest x.due) (first_due (max latest x.changed) xs) (first_due (latest_after (max latest x.changed) xs) ys) (length xs) _ (first-append (max latest x.changed) xs ys)

some_behind : (o other : Option ℕ) (count : ℕ) → is_some (or_behind o count other) ≡ (is_some o || is_some other)
some_behind (Some place) other count = refl
some_behind None None count = refl
some_behind None (Some place) count = refl

-- a standing that joins two, each for its list
pub stands_joined : (whole first second : Standing) (xs ys : List Standing) → StandsFor first xs → StandsFor second ys
    → ((latest : ℕ) → is_due latest whole.due ≡ (is_due latest first.due || is_due (max latest first.changed) second.due)) → whole.changed ≡ max first.changed second.changed → StandsFor whole (xs ++ ys)
stands_joined whole first second xs ys h k due changed =
    record {
      due = λ latest.
          ap is_some (first-append latest xs ys)
          ∙ some_behind (first_due latest xs) (first_due (latest_after latest xs) ys) (length xs)
          ∙ (λ t. h.due latest t || (ap (λ n. is_some (first_due n ys)) (h.changed latest) ∙ k.due (max latest first.changed)) t)
          ∙ sym (due latest);
      changed = λ latest.
          latest-append latest xs ys
          ∙ ap (λ n. latest_after n ys) (h.changed latest)
          ∙ k.changed (max latest first.changed)
          ∙ (let more : max (max latest first.changed) second.changed ≡ max latest whole.changed = omega (arith, changed) in more);
    }

if_is : (b : Bool) → is_some (if b then Some 0 else option_map (λ (place : ℕ). suc place) None) ≡ b
if_is true = refl
if_is false = refl

pub stands_one : (x : Standing) → StandsFor x (x ∷ [])
unfolding first_due latest_after
stands_one x = record { due = λ latest. if_is (is_due latest x.due); changed = λ latest. refl }

within_map : (o : Option ℕ) (n place : ℕ) → ((j : ℕ) → o ≡ Some j → j < n) → option_map (λ j. suc j) o ≡ Some place → place < suc n
within_map None n place h e = absurd (let f : None ≡ Some place = e in (cc))
within_map (Some j) n place h e = let f : Some (suc j) ≡ Some place = e in let g : suc j ≡ place = cc in let k = h j refl in omega (arith, g, k)

within_if : (b : Bool) (o : Option ℕ) (n place : ℕ) → ((j : ℕ) → o ≡ Some j → j < n) → (if b then Some 0 else option_map (λ j. suc j) o) ≡ Some place → place < suc n
within_if true o n place h e = let f : Some 0 ≡ Some place = e in let g : 0 ≡ place = cc in omega (arith, g)
within_if false o n place h e = within_map o n place h e

pub first_within : (latest : ℕ) (xs : List Standing) (place : ℕ) → first_due latest xs ≡ Some place → place < length xs
unfolding first_due
first_within latest [] place e = absurd (let f : None ≡ Some place = e in (cc))
first_within latest (x ∷ xs) place e = within_if (is_due latest x.due) (first_due (max latest x.changed) xs) (length xs) place (λ j h. first_within (max latest x.changed) xs j h) e

-- the first one lies in the first list, where there is one
pub first_left : (latest : ℕ) (xs ys : List Standing) → is_some (first_due latest xs) ≡ true → first_due latest (xs ++ ys) ≡ first_due latest xs
first_left latest xs ys e = first-append latest xs ys ∙ go (first_due latest xs) e
  where
    go : (o : Option ℕ) → is_some o ≡ true → or_behind o (length xs) (first_due (latest_after latest xs) ys) ≡ o
    go (Some place) e = refl
    go None e = absurd (let f : false ≡ true = e in (cc))

-- else in the second one
pub first_right : (latest next : ℕ) (xs ys : List Standing) → is_some (first_due latest xs) ≡ false → latest_after latest xs ≡ next
    → first_due latest (xs ++ ys) ≡ option_map (λ place. length xs + place) (first_due next ys)
first_right latest next xs ys e f =
    first-append latest xs ys ∙ go (first_due latest xs) e ∙ ap (λ n. option_map (λ place. length xs + place) (first_due n ys)) f
  where
    go : (o : Option ℕ) → is_some o ≡ false → or_behind o (length xs) (first_due (latest_after latest xs) ys) ≡ option_map (λ place. length xs + place) (first_due (latest_after latest xs) ys)
    go (Some place) e = absurd (let f : true ≡ false = e in (cc))
    go None e = refl
