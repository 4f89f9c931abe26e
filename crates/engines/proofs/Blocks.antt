-- A block that was cut has few requests, and none has too many operations.
use Rattle.std.proofs.Common.{◌≡◌, ℕ, zero, suc, ◌≤◌, arith, List, length, Some, None, Ok, Err, refl, ap, subst}
use Rattle.std.specs.Prelude.{IfOk}
use Rattle.terms.specs.declared.term.Term.{Term}
use Rattle.meaning.specs.Run.{Request}
use Rattle.rules.specs.Requests.{AreChecked, none, more}
use Rattle.rules.specs.Refusal.{IsChecked}
use Rattle.update.specs.Asked.{IsShort}
use Rattle.update.specs.Asked.{AreShort}

pub checked_length : {texts : List (List ℕ)} {cs : List (Request Term)} → AreChecked texts cs → length cs ≡ length texts
checked_length none = refl
checked_length (more first rest) = ap suc (checked_length rest)

short_one : (c : Request Term) → IfOk c (λ operations. length operations ≤ 256) → IsShort c
short_one (Err kind) h = tt
short_one (Ok operations) h = omega (arith, h)

-- where an accepted request has at most 256 operations
module _ (few : (text : List ℕ) (c : Request Term) → IsChecked text c → IfOk c (λ operations. length operations ≤ 256)) where
  pub checked_short : {texts : List (List ℕ)} {cs : List (Request Term)} → AreChecked texts cs → AreShort cs
  checked_short none i r e = absurd (let n : None ≡ Some r = e in (cc))
  checked_short (more {text} {texts} {c} {cs} first rest) zero r e = at c r e (short_one c (few text c first))
    where
      at : (c r : Request Term) → Some c ≡ Some r → IsShort c → IsShort r
      at c r e h = let P : Request Term → Type 0 = λ x. IsShort x in subst P (let is : c ≡ r = cc in is) h
  checked_short (more first rest) (suc i) r e = checked_short rest i r e
