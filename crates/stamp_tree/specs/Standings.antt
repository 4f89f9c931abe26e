-- Which request of a list is the first for which something is to be done.
use Rattle.std.specs.Prelude.{◌≡◌, ℕ, suc, max, Bool, true, false, List, [], ◌∷◌, Option, Some, None, option_map, is_some, nat_lt, if◌then◌else◌}
use Rattle.stamp_tree.specs.declared.standing.Due.{Due}
use Rattle.stamp_tree.specs.declared.standing.Due.TheVariants.{Now, After, Never}
use Rattle.stamp_tree.specs.declared.standing.Standing.{Standing}

-- whether something is to be done, where the lower requests last changed at this moment
abbrev pub is_due : ℕ → Due → Bool
is_due latest Now = true
is_due latest (After moment) = nat_lt moment latest
is_due latest Never = false

-- the place of the first one for which something is to be done, where those before the list last
-- changed at this moment
unfoldable pub first_due : ℕ → List Standing → Option ℕ
first_due latest [] = None
first_due latest (x ∷ xs) =
    if is_due latest x.due then Some 0 else option_map (λ place. suc place) (first_due (max latest x.changed) xs)

-- the last change, in the list and before it
unfoldable pub latest_after : ℕ → List Standing → ℕ
latest_after latest [] = latest
latest_after latest (x ∷ xs) = latest_after (max latest x.changed) xs

-- it says of a list whether something is to be done in it, and when it last changed
pub record StandsFor (whole : Standing) (list : List Standing) : Type 0 where
  pub due : (latest : ℕ) → is_some (first_due latest list) ≡ is_due latest whole.due
  pub changed : (latest : ℕ) → latest_after latest list ≡ max latest whole.changed
