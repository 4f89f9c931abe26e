-- Where a step of a request may end: at a `;` outside braces.
use Rattle.std.specs.Prelude.{ℕ, ◌≡◌, ◌+◌, ◌-◌, ◌==◌, Bool, false, List, [], ◌∷◌, ◌++◌, if◌then◌else◌}
use Rattle.lexer.specs.declared.token.Token.{Token}
use Rattle.lexer.specs.declared.token.Token.TheVariants as token
use Rattle.lexer.specs.declared.token.Sign.TheVariants as signs

-- how many braces are open behind a token, where so many are before it
abbrev pub depth_after : Token → ℕ → ℕ
depth_after (token.Sign signs.OpenBrace) n = n + 1
depth_after (token.Sign signs.CloseBrace) n = n - 1
depth_after t n = n

-- a `;`, and no brace is open
abbrev pub is_end : Token → ℕ → Bool
is_end (token.Sign signs.Semicolon) n = n == 0
is_end t n = false

-- what follows the first end, where so many braces are open before the tokens
abbrev pub after_end : ℕ → List Token → List Token
after_end n [] = []
after_end n (t ∷ ts) = if is_end t n then ts else after_end (depth_after t n) ts

-- the tokens end with their first end
abbrev pub AreEnded : List Token → Type 0
AreEnded ts = (later : List Token) → after_end 0 (ts ++ later) ≡ later
