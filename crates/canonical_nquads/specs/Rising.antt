-- A text as it is made of lines that rise.
use Rattle.std.specs.Prelude.{◌≡◌, ℕ, true, List, ◌++◌, map}
use Rattle.std.specs.List.{flat_map, list_all, AllByRecursion}
use Rattle.std.specs.List.Sorted.{IsPermutation, IsStrictlySortedBy}
use Rattle.std.specs.declared.cmp.Ordering.TheVariants.{Less}
use Rattle.terms.specs.Term.{text_cmp}
use Rattle.datasets.specs.declared.quad.Quad.{Quad}
use Rattle.terms.specs.Placed.{is_quad_within}
use Rattle.canonical_nquads.specs.Canonical.{ended, text_of_pieces}
use Rattle.canonical_nquads.specs.Placed.{quad_text_at}
use Rattle.canonical_nquads.specs.declared.rising.Rising.{Rising}
use Rattle.canonical_nquads.specs.declared.rising_pieces.RisingInPieces.{RisingInPieces}
use Rattle.canonical_nquads.specs.declared.text_parts.OrderedPart.{OrderedPart}

-- these are its lines, each above those before it, and what is above its last line is above them
-- all
pub record IsRising (lines : List (List ℕ)) (made : Rising) : Type 0 where
  pub text : made.text.items ≡ flat_map ended lines
  pub rises : IsStrictlySortedBy text_cmp lines
  pub last : (above : List ℕ) → text_cmp made.last.items above ≡ Less → AllByRecursion (λ line. text_cmp line above ≡ Less) lines

-- the same of a text in pieces
pub record IsRisingInPieces (lines : List (List ℕ)) (made : RisingInPieces) : Type 0 where
  pub text : text_of_pieces made.pieces.items ≡ flat_map ended lines
  pub rises : IsStrictlySortedBy text_cmp lines
  pub last : (above : List ℕ) → text_cmp made.last.items above ≡ Less → AllByRecursion (λ line. text_cmp line above ≡ Less) lines

-- these are quads, in an order in which their lines rise, and these lines
pub record AreInOrder (texts : List (List ℕ)) (quads : List (Quad ℕ)) (part : OrderedPart) : Type 0 where
  pub moved : IsPermutation quads part.quads.items
  pub within : list_all (is_quad_within texts) part.quads.items ≡ true
  pub lines : IsRisingInPieces (map (quad_text_at texts) part.quads.items) part.made

-- behind lines of a text stand those of quads, in some order
pub record StandBehind (texts : List (List ℕ)) (quads : List (Quad ℕ)) (lines : List (List ℕ)) (made : RisingInPieces) : Type 0 where
  pub order : List (Quad ℕ)
  pub moved : IsPermutation quads order
  pub rise : IsRisingInPieces (lines ++ map (quad_text_at texts) order) made
