-- Reading strings and IRIs from left to right, with their escapes undone.
use Rattle.std.specs.Prelude.{ℕ, suc, zero, ◌≡◌, ◌==◌, ◌+◌, ◌*◌, nat_lt, Bool, List, [], ◌∷◌, ◌++◌, Option, Some, None, if◌then◌else◌}
use Rattle.std.specs.Char.{encode_utf8, is_ascii_hexdigit, digit_value}
use Rattle.std.specs.Str.{all_scalars}
use Rattle.iris.specs.Iri.{is_iri_byte}
use Rattle.iris.specs.Forms.{short_escape}
use Rattle.iris.specs.Bracketed.{◌>>=◌, iri_of}
use Rattle.nquads_lines.specs.Escapes.{is_plain}
use Rattle.nquads_lines.specs.declared.escapes.Quote.{Quote}
use Rattle.nquads_lines.specs.declared.escapes.Quote.TheVariants.{String, Iri}

-- What a function returned, seen by view, is what reading gives.
abbrev pub Finds : {X Y : Type 0} → (X → Y) → Option X → Option Y → Type 0
Finds view None read = read ≡ None
Finds view (Some x) read = read ≡ Some (view x)

-- the first byte, if it is in ASCII, and what follows it
unfoldable pub ascii_at : List ℕ → Option (ℕ × List ℕ)
ascii_at [] = None
ascii_at (b ∷ bs) = if nat_lt b 128 then Some (b, bs) else None

-- what follows this byte
abbrev pub after : ℕ → List ℕ → Option (List ℕ)
after c text = ascii_at text >>= λ x. if x.0 == c then Some x.1 else None

-- a number with one more hexadecimal digit, and with n more
abbrev pub digit_at : ℕ → List ℕ → Option (ℕ × List ℕ)
digit_at value text = ascii_at text >>= λ x. if is_ascii_hexdigit x.0 then Some (16 * value + digit_value x.0, x.1) else None

abbrev pub digits_at : ℕ → ℕ → List ℕ → Option (ℕ × List ℕ)
digits_at zero value text = Some (value, text)
digits_at (suc n) value text = digit_at value text >>= λ x. digits_at n x.0 x.1

abbrev pub scalar_of : ℕ → Option ℕ
scalar_of code = if all_scalars (code ∷ []) then Some code else None

-- the bytes of the character that four and that eight digits name
abbrev pub small_at : List ℕ → Option (List ℕ × List ℕ)
small_at text = do
  x ← digits_at 4 0 text
  c ← scalar_of x.0
  Some (encode_utf8 c, x.1)

abbrev pub large_at : List ℕ → Option (List ℕ × List ℕ)
large_at text = do
  h ← digits_at 4 0 text
  x ← digits_at 4 h.0 h.1
  c ← scalar_of x.0
  Some (encode_utf8 c, x.1)

-- the short escapes are those of strings
abbrev pub short_of : Quote → ℕ → Option ℕ
short_of String = short_escape
short_of Iri = λ b. None

-- what the escape behind a backslash stands for, and what follows it
unfoldable pub escape_at : Quote → List ℕ → Option (List ℕ × List ℕ)
escape_at q text = ascii_at text >>= λ x.
    if x.0 == 117 then small_at x.1 else if x.0 == 85 then large_at x.1 else (short_of q x.0 >>= λ c. Some (c ∷ [], x.1))

-- how many bytes it takes
abbrev pub escape_len : List ℕ → ℕ
escape_len [] = 0
escape_len (b ∷ bs) = if b == 117 then 5 else if b == 85 then 9 else 1

-- the byte that ends what is quoted
abbrev pub closing : Quote → ℕ
closing String = 34
closing Iri = 62

-- the bytes that may stand as they are
abbrev pub is_open : Quote → ℕ → Bool
is_open String = is_plain
is_open Iri = is_iri_byte

-- with these bytes in front
abbrev pub before : List ℕ → Option (List ℕ × List ℕ) → Option (List ℕ × List ℕ)
before front o = o >>= λ x. Some (front ++ x.0, x.1)

-- what is quoted behind the first n bytes, up to the closing byte, and what follows
unfoldable pub quoted_from : Quote → ℕ → List ℕ → Option (List ℕ × List ℕ)
quoted_from q n [] = None
quoted_from q (suc n) (b ∷ bs) = quoted_from q n bs
quoted_from q zero (b ∷ bs) =
    if is_open q b then before (b ∷ []) (quoted_from q 0 bs)
    else if b == closing q then Some ([], bs)
    else if b == 92 then (escape_at q bs >>= λ e. before e.0 (quoted_from q (escape_len bs) bs))
    else None

abbrev pub quoted_at : Quote → List ℕ → Option (List ℕ × List ℕ)
quoted_at q text = quoted_from q 0 text

-- an IRI in angle brackets
unfoldable pub iri_at : List ℕ → Option (List ℕ × List ℕ)
iri_at text = do
  t ← after 60 text
  x ← quoted_at Iri t
  i ← iri_of x.0
  Some (i, x.1)
