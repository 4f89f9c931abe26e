-- What a set of members is: the list that rises strictly and has these members.
use Rattle.std.specs.Prelude.{◌≡◌, ◌↔◌, List}
use Rattle.std.specs.List.{Contains}
use Rattle.std.specs.List.Sorted.{IsStrictlySortedBy}
use Rattle.std.specs.declared.cmp.Ordering.{Ordering}
use Rattle.std.specs.declared.cmp.Ordering.TheVariants.{Equal}
use Rattle.std.specs.Cmp.{IsTotalOrder}
use Rattle.sets.specs.Sets.{set_of}

module _ {A : Type 0} where
  -- an order that is total and tells any two values apart
  pub record TellsApart (R : A → A → Ordering) : Type 0 where
    pub total : IsTotalOrder R
    pub exact : (x y : A) → R x y ≡ Equal → x ≡ y

  -- the list rises strictly, and has what the other one has
  pub record IsSetOf (R : A → A → Ordering) (xs members : List A) : Type 0 where
    pub rises : IsStrictlySortedBy R xs
    pub has : (x : A) → Contains xs x ↔ Contains members x

-- the set of a list's members is so
abbrev pub SetsHaveMembers : Type 0 → Type 0
SetsHaveMembers A = (R : A → A → Ordering) (xs : List A) → TellsApart R → IsSetOf R (set_of R xs) xs

-- and nothing else is: lists that rise strictly and have the same members are one
abbrev pub MembersMakeSets : Type 0 → Type 0
MembersMakeSets A = (R : A → A → Ordering) (xs ys members : List A) → TellsApart R → IsSetOf R xs members → IsSetOf R ys members → xs ≡ ys
