-- What follows a sign, and whether there is one.
use Rattle.std.proofs.Common.{◌≡◌, ℕ, zero, suc, true, cond, eqb, List, [], ◌∷◌, Option, Some, None, refl, sym, ap, ◌∙◌}
use Rattle.std.proofs.lemmas.Bool.{eqb-true}
use Rattle.std.proofs.lemmas.Option.{same_Some, cond_some}
use Rattle.lexer.specs.declared.token.Token.{Token}
use Rattle.lexer.specs.declared.token.Token.TheVariants as token
use Rattle.lexer.specs.declared.token.Sign.{Sign}
use Rattle.lexer.specs.declared.token.Sign.TheVariants as signs
use Rattle.productions.specs.Signs.{sign_number, is_sign, sign_at}

nth : List Sign → ℕ → Option Sign
nth [] n = None
nth (s ∷ ss) zero = Some s
nth (s ∷ ss) (suc n) = nth ss n

sign_of_number : ℕ → Option Sign
sign_of_number = nth (signs.OpenBrace ∷ signs.CloseBrace ∷ signs.OpenParen ∷ signs.CloseParen ∷ signs.Dot ∷ signs.Semicolon ∷ signs.Comma ∷ signs.Carets ∷ signs.Equal ∷ signs.NotEqual ∷ signs.Less ∷ signs.Greater ∷ signs.LessEqual ∷ signs.GreaterEqual ∷ signs.Ampersands ∷ signs.Bars ∷ signs.Bang ∷ signs.Plus ∷ signs.Minus ∷ signs.Star ∷ [])

number_again : (s : Sign) → sign_of_number (sign_number s) ≡ Some s
unfolding sign_of_number nth
number_again signs.OpenBrace = refl
number_again signs.CloseBrace = refl
number_again signs.OpenParen = refl
number_again signs.CloseParen = refl
number_again signs.Dot = refl
number_again signs.Semicolon = refl
number_again signs.Comma = refl
number_again signs.Carets = refl
number_again signs.Equal = refl
number_again signs.NotEqual = refl
number_again signs.Less = refl
number_again signs.Greater = refl
number_again signs.LessEqual = refl
number_again signs.GreaterEqual = refl
number_again signs.Ampersands = refl
number_again signs.Bars = refl
number_again signs.Bang = refl
number_again signs.Plus = refl
number_again signs.Minus = refl
number_again signs.Star = refl

same_sign : (s t : Sign) → eqb (sign_number s) (sign_number t) ≡ true → s ≡ t
same_sign s t e = same_Some s t (sym (number_again s) ∙ ap sign_of_number (eqb-true (sign_number s) (sign_number t) e) ∙ number_again t)

pub is_sign_found : (s : Sign) (t : Token) → is_sign s t ≡ true → t ≡ token.Sign s
is_sign_found s (token.Sign t) e = ap token.Sign (same_sign t s e)
is_sign_found s t e = absurd cc

pub sign_found : (s : Sign) (ts rest : List Token) → sign_at s ts ≡ Some rest → ts ≡ token.Sign s ∷ rest
sign_found s [] rest e = absurd cc
sign_found s (t ∷ ts) rest e =
    let g = cond_some (is_sign s t) ts rest e in
    ap (λ (u : Token). u ∷ ts) (is_sign_found s t g.0) ∙ ap (λ (r : List Token). token.Sign s ∷ r) g.1
