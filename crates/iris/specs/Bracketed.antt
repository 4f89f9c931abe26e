-- The IRI that bytes are, and steps that may fail.
use Rattle.std.specs.Prelude.{ℕ, ◌&&◌, List, Option, Some, None, option_and_then, if◌then◌else◌}
use Rattle.std.specs.Str.{is_utf8}
use Rattle.iris.specs.Iri.{is_iri}

infixl 10 ◌>>=◌
abbrev pub ◌>>=◌ : {A B : Type 0} → Option A → (A → Option B) → Option B
o >>= f = option_and_then f o

unfoldable pub iri_of : List ℕ → Option (List ℕ)
iri_of text = if is_utf8 text && is_iri text then Some text else None
