-- The members of a set on both sides of a value, and the changes of a set in their order.
use Rattle.std.specs.Prelude.{◌≡◌, ◌≢◌, ◌<◌, ◌≤◌, ◌∷◌, ◌++◌, Bool, true, false, ℕ, List, length}
use Rattle.std.proofs.Common.{get_or}
use Rattle.std.specs.List.{AllByRecursion}
use Rattle.std.specs.declared.cmp.Ordering.{Ordering}
use Rattle.std.specs.declared.cmp.Ordering.TheVariants.{Less, Equal}

module _ {A : Type 0} (R : A → A → Ordering) where
  -- so many of the first members are below the value, and the next one is not
  pub record AreLessTo (v : A) (set : List A) (count : ℕ) : Type 0 where
    pub within : count ≤ length set
    pub less : (k : ℕ) (d : A) → k < count → R (get_or set k d) v ≡ Less
    pub next : (d : A) → count < length set → R (get_or set count d) v ≡ Less → ⊥

  -- the members below a value and those above, where no other is none that equals it
  pub record IsParted (set : List A) (v : A) (below above : List A) : Type 0 where
    pub middle : List A
    pub cut : set ≡ below ++ (middle ++ above)
    pub less : AllByRecursion (λ x. R x v ≡ Less) below
    pub same : AllByRecursion (λ x. R x v ≡ Equal) middle
    pub greater : AllByRecursion (λ x. R v x ≡ Less) above

  -- the members below the value, and the others
  pub record IsCut (set : List A) (v : A) (below others : List A) : Type 0 where
    pub whole : set ≡ below ++ others
    pub less : AllByRecursion (λ x. R x v ≡ Less) below
    pub rest : AllByRecursion (λ x. R x v ≢ Less) others

  -- of what goes and what comes, the value is the least, and comes if it is of what comes; these go
  -- and come after it
  abbrev pub IsFirstChange : List A → List A → A → Bool → List A → List A → Type 0
  IsFirstChange gone more v false gone' more' = (gone ≡ v ∷ gone') × (more ≡ more') × AllByRecursion (λ x. R v x ≡ Less) more
  IsFirstChange gone more v true gone' more' = (gone ≡ gone') × (more ≡ v ∷ more') × AllByRecursion (λ x. R x v ≢ Less) gone
