-- Forms that N-Quads and requests share: language tags, blank node labels and the short escapes of
-- strings (RDF 1.1 N-Quads, productions 144s, 141s and 153s; a label narrowed to letters, digits
-- and `_`).
use Rattle.std.specs.Prelude.{ℕ, ◌==◌, ◌&&◌, ◌||◌, nat_le, nat_lt, Bool, true, false, List, [], ◌∷◌, length, Option, Some, None, if◌then◌else◌}
use Rattle.std.specs.List.{list_all}
use Rattle.iris.specs.Iri.{is_letter, is_digit}

abbrev pub is_small_letter : ℕ → Bool
is_small_letter b = nat_le 97 b && nat_le b 122

-- where a tag may stand: in its first part, after a `-`, in a later part
pub data InTag : Type 0 where
  start : InTag
  first : InTag
  dash : InTag
  later : InTag

-- letters in lower case, then groups of `-` and letters in lower case or digits
abbrev pub is_tag_from : InTag → List ℕ → Bool
is_tag_from start [] = false
is_tag_from start (b ∷ bs) = is_small_letter b && is_tag_from first bs
is_tag_from first [] = true
is_tag_from first (b ∷ bs) = (is_small_letter b && is_tag_from first bs) || ((b == 45) && is_tag_from dash bs)
is_tag_from dash [] = false
is_tag_from dash (b ∷ bs) = (is_small_letter b || is_digit b) && is_tag_from later bs
is_tag_from later [] = true
is_tag_from later (b ∷ bs) = ((is_small_letter b || is_digit b) && is_tag_from later bs) || ((b == 45) && is_tag_from dash bs)

abbrev pub is_tag : List ℕ → Bool
is_tag bs = is_tag_from start bs

abbrev pub is_label_byte : ℕ → Bool
is_label_byte b = is_letter b || is_digit b || (b == 95)

abbrev pub is_label : List ℕ → Bool
is_label bs = nat_lt 0 (length bs) && list_all is_label_byte bs

-- the byte that `\t \b \n \r \f \" \' \\` stand for, by the byte after the backslash
abbrev pub short_escape : ℕ → Option ℕ
short_escape b = if b == 116 then Some 9 else if b == 98 then Some 8 else if b == 110 then Some 10 else if b == 114 then Some 13
    else if b == 102 then Some 12 else if b == 34 then Some 34 else if b == 39 then Some 39 else if b == 92 then Some 92 else None
