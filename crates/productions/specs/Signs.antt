-- What follows a sign.
use Rattle.std.specs.Prelude.{ℕ, ◌==◌, Bool, false, List, [], ◌∷◌, Option, Some, None, if◌then◌else◌}
use Rattle.lexer.specs.declared.token.Token.{Token}
use Rattle.lexer.specs.declared.token.Token.TheVariants as token
use Rattle.lexer.specs.declared.token.Sign.{Sign}
use Rattle.lexer.specs.declared.token.Sign.TheVariants as signs

-- signs are told apart by number
abbrev pub sign_number : Sign → ℕ
sign_number signs.OpenBrace = 0
sign_number signs.CloseBrace = 1
sign_number signs.OpenParen = 2
sign_number signs.CloseParen = 3
sign_number signs.Dot = 4
sign_number signs.Semicolon = 5
sign_number signs.Comma = 6
sign_number signs.Carets = 7
sign_number signs.Equal = 8
sign_number signs.NotEqual = 9
sign_number signs.Less = 10
sign_number signs.Greater = 11
sign_number signs.LessEqual = 12
sign_number signs.GreaterEqual = 13
sign_number signs.Ampersands = 14
sign_number signs.Bars = 15
sign_number signs.Bang = 16
sign_number signs.Plus = 17
sign_number signs.Minus = 18
sign_number signs.Star = 19

abbrev pub is_sign : Sign → Token → Bool
is_sign s (token.Sign t) = sign_number t == sign_number s
is_sign s t = false

abbrev pub sign_at : Sign → List Token → Option (List Token)
sign_at s [] = None
sign_at s (t ∷ ts) = if is_sign s t then Some ts else None
