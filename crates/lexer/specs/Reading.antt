-- Reading a token from left to right.
use Rattle.std.specs.Prelude.{ℕ, ◌≡◌, ◌<◌, ◌+◌, ◌==◌, ◌-◌, ◌&&◌, ◌||◌, Bool, true, false, List, [], ◌∷◌, length, take, drop, map, Option, Some, None, unwrap_or, is_some, if◌then◌else◌}
use Rattle.std.specs.Option.{option_map}
use Rattle.std.specs.Str.{is_utf8}
use Rattle.std.specs.Char.{to_ascii_lowercase}
use Rattle.iris.specs.Iri.{is_letter, is_digit, is_iri_byte, is_iri}
use Rattle.iris.specs.Runs.{run_of, rest_of}
use Rattle.iris.specs.Forms.{short_escape}
use Rattle.lexer.specs.declared.token.Token.{Token}
use Rattle.lexer.specs.declared.token.Token.TheVariants as token
use Rattle.lexer.specs.declared.token.Sign.{Sign}
use Rattle.lexer.specs.declared.token.Sign.TheVariants as signs
use Rattle.lexer.specs.Names.{is_name_byte, is_local_start, is_variable_start, is_variable_byte}
use Rattle.lexer.specs.Strings.{is_quote, ends_plain, unescaped}
use Rattle.lexer.specs.Cut.{is_space, is_inner}
use Rattle.lexer.specs.Form.{is_variable_mark, continues_integer}

-- what follows white space and comments, inside a comment or not
abbrev pub skip_from : Bool → List ℕ → List ℕ
skip_from inside [] = []
skip_from true (b ∷ bs) = if is_inner b then skip_from true bs else skip_from false bs
skip_from false (b ∷ bs) = if is_space b then skip_from false bs else if b == 35 then skip_from true bs else b ∷ bs

-- ---- names, words, variables, labels and integers

-- the local part and what follows it
unfoldable pub local_at : List ℕ → List ℕ × List ℕ
local_at [] = ([], [])
local_at (b ∷ bs) = if is_local_start b then (run_of is_name_byte (b ∷ bs), rest_of is_name_byte (b ∷ bs)) else ([], b ∷ bs)

-- a prefixed name, whose prefix and what follows it are given
unfoldable pub name_after : List ℕ → List ℕ → Option (Token × List ℕ)
name_after p [] = None
name_after p (b ∷ bs) = if b == 58 then Some (token.Name p (local_at bs).0, (local_at bs).1) else None

-- a colon is first
abbrev pub begins_with_colon : List ℕ → Bool
begins_with_colon [] = false
begins_with_colon (b ∷ bs) = b == 58

-- no run of name bytes that begins before the last so many bytes is a prefix
abbrev pub NoneAhead : List ℕ → ℕ → Type 0
NoneAhead text edge = (n : ℕ) → edge < length (drop n text) → begins_with_colon (rest_of is_name_byte (drop n text)) ≡ false

-- a prefixed name, and else a word
unfoldable pub name_or_word : List ℕ → Token × List ℕ
name_or_word text = unwrap_or (name_after (run_of is_name_byte text) (rest_of is_name_byte text)) (token.Word (run_of is_letter text), rest_of is_letter text)

-- a variable, whose mark was read
unfoldable pub variable_at : List ℕ → Option (Token × List ℕ)
variable_at [] = None
variable_at (b ∷ bs) =
    if is_variable_start b then Some (token.Variable (run_of is_variable_byte (b ∷ bs)), rest_of is_variable_byte (b ∷ bs)) else None

-- a label, whose `_:` was read; its bytes are those of a variable
unfoldable pub label_at : List ℕ → Option (Token × List ℕ)
label_at [] = None
label_at (b ∷ bs) = if is_variable_byte b then Some (token.Blank (run_of is_variable_byte (b ∷ bs)), rest_of is_variable_byte (b ∷ bs)) else None

-- a blank node label, whose `_` was read
unfoldable pub blank_at : List ℕ → Option (Token × List ℕ)
blank_at [] = None
blank_at (b ∷ bs) = if b == 58 then label_at bs else None

unfoldable pub integer_at : List ℕ → Option (Token × List ℕ)
integer_at text = if continues_integer (rest_of is_digit text) then None else Some (token.Integer (run_of is_digit text), rest_of is_digit text)

-- ---- tags

-- a letter or a digit is first
abbrev pub begins_group : List ℕ → Bool
begins_group [] = false
begins_group (b ∷ bs) = is_letter b || is_digit b

-- the longest tag, in its first part or a later one, and what follows it
abbrev pub tag_of : Bool → List ℕ → List ℕ
tag_of later [] = []
tag_of later (b ∷ bs) = if is_letter b || (later && is_digit b) then b ∷ tag_of later bs else if (b == 45) && begins_group bs then b ∷ tag_of true bs else []

abbrev pub tag_end : Bool → List ℕ → List ℕ
tag_end later [] = []
tag_end later (b ∷ bs) = if is_letter b || (later && is_digit b) then tag_end later bs else if (b == 45) && begins_group bs then tag_end true bs else b ∷ bs

-- a tag, whose `@` was read
unfoldable pub tag_at : List ℕ → Option (Token × List ℕ)
tag_at [] = None
tag_at (b ∷ bs) = if is_letter b then Some (token.Tag (map to_ascii_lowercase (tag_of false (b ∷ bs))), tag_end false (b ∷ bs)) else None

-- ---- strings

-- what follows a string's closing quote, where a backslash came before or didn't
abbrev pub string_end : ℕ → Bool → List ℕ → Option (List ℕ)
string_end quote escaped [] = None
string_end quote true (b ∷ bs) = if is_some (short_escape b) then string_end quote false bs else None
string_end quote false (b ∷ bs) = if b == 92 then string_end quote true bs else if b == quote then Some bs else if ends_plain quote b then None else string_end quote false bs

-- two such quotes are first
abbrev pub begins_with_two : ℕ → List ℕ → Bool
begins_with_two quote [] = false
begins_with_two quote (b ∷ []) = false
begins_with_two quote (b ∷ c ∷ bs) = (b == quote) && (c == quote)

-- the string of these bytes, with what follows its closing quote
abbrev pub quoted : List ℕ → List ℕ → Option (Token × List ℕ)
quoted written rest = if is_utf8 written then Some (token.Text (unescaped written), rest) else None

abbrev pub quoted_at : List ℕ → Option (List ℕ) → Option (Token × List ℕ)
quoted_at text None = None
quoted_at text (Some rest) = quoted (take (length text - (length rest + 1)) text) rest

-- a string, whose opening quote was read
unfoldable pub string_at : ℕ → List ℕ → Option (Token × List ℕ)
string_at quote text = if begins_with_two quote text then None else quoted_at text (string_end quote false text)

-- ---- signs

-- the sign of two bytes, and of one
abbrev pub two_of : ℕ → ℕ → Option Sign
two_of b c = if (b == 94) && (c == 94) then Some signs.Carets else if (b == 33) && (c == 61) then Some signs.NotEqual
    else if (b == 60) && (c == 61) then Some signs.LessEqual else if (b == 62) && (c == 61) then Some signs.GreaterEqual
    else if (b == 38) && (c == 38) then Some signs.Ampersands else if (b == 124) && (c == 124) then Some signs.Bars else None

abbrev pub one_of : ℕ → Option Sign
one_of b = if b == 123 then Some signs.OpenBrace else if b == 125 then Some signs.CloseBrace else if b == 40 then Some signs.OpenParen
    else if b == 41 then Some signs.CloseParen else if b == 46 then Some signs.Dot else if b == 59 then Some signs.Semicolon
    else if b == 44 then Some signs.Comma else if b == 61 then Some signs.Equal else if b == 60 then Some signs.Less
    else if b == 62 then Some signs.Greater else if b == 33 then Some signs.Bang else if b == 43 then Some signs.Plus
    else if b == 45 then Some signs.Minus else if b == 42 then Some signs.Star else None

abbrev pub pair_at : ℕ → List ℕ → Option (Sign × List ℕ)
pair_at b [] = None
pair_at b (c ∷ cs) = option_map (λ s. (s, cs)) (two_of b c)

-- a sign, the longer where two begin here; its first byte was read
abbrev pub longer_sign : Option (Sign × List ℕ) → Option (Sign × List ℕ) → Option (Token × List ℕ)
longer_sign (Some x) one = Some (token.Sign x.0, x.1)
longer_sign None one = option_map (λ x. (token.Sign x.0, x.1)) one

unfoldable pub sign_at : ℕ → List ℕ → Option (Token × List ℕ)
sign_at b bs = longer_sign (pair_at b bs) (option_map (λ s. (s, bs)) (one_of b))

-- ---- all

-- an IRI or a sign, whose `<` was read: the bytes after it that an IRI may hold, and what follows
-- those
abbrev pub bracketed : List ℕ → List ℕ → List ℕ → Option (Token × List ℕ)
bracketed iri [] text = sign_at 60 text
bracketed iri (c ∷ rest) text =
    if c == 62 then (if is_iri iri then (if is_utf8 iri then Some (token.Iri iri, rest) else sign_at 60 text) else None) else sign_at 60 text

unfoldable pub angle_at : List ℕ → Option (Token × List ℕ)
angle_at text = bracketed (run_of is_iri_byte text) (rest_of is_iri_byte text) text

-- a token that begins with neither a quote nor `<`
unfoldable pub plain_at : List ℕ → Option (Token × List ℕ)
plain_at [] = None
plain_at (b ∷ bs) = if is_letter b then Some (name_or_word (b ∷ bs))
    else if is_digit b then integer_at (b ∷ bs)
    else if b == 58 then name_after [] (b ∷ bs)
    else if is_variable_mark b then variable_at bs
    else if b == 95 then blank_at bs
    else if b == 64 then tag_at bs
    else sign_at b bs

unfoldable pub token_at : List ℕ → Option (Token × List ℕ)
token_at [] = None
token_at (b ∷ bs) = if is_quote b then string_at b bs else if b == 60 then angle_at bs else plain_at (b ∷ bs)
