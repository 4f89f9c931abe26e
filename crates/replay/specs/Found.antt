-- What is looked up by its terms.
use Rattle.std.specs.Prelude.{◌≡◌, Bool, true, Option, Some}
use Rattle.std.specs.Option.{IfSome}

-- the one by numbers of the dictionary that stands for what is looked up, or none where there is
-- none
pub record IsFound {X Y : Type 0} (known : X → Bool) (named : X → Y) (sought : Y) (found : Option X) : Type 0 where
  pub stands : IfSome found (λ x. named x ≡ sought)
  pub is_known : IfSome found (λ x. known x ≡ true)
  pub only : (x : X) → known x ≡ true → named x ≡ sought → found ≡ Some x
