-- What a failed reading of bytes as a text says of them, and a successful one.
use Rattle.std.proofs.Common.{◌≡◌, ℕ, true, false, List, refl, IsUtf8}
use Rattle.std.specs.Str.{is_utf8}
use Rattle.std.proofs.lemmas.Str.{IsUtf8-from_is_utf8, is_utf8-from_IsUtf8}

pub not_utf8 : (bs : List ℕ) → (IsUtf8 bs → ⊥) → is_utf8 bs ≡ false
not_utf8 bs h = elim (is_utf8 bs) as (λ b. is_utf8 bs ≡ b → b ≡ false) [ true ↦ λ e. absurd (h (IsUtf8-from_is_utf8 bs e)) | false ↦ λ e. refl ] refl

pub ruleset text_laws = (not_utf8, is_utf8-from_IsUtf8)
