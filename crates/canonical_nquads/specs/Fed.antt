-- What a text feeds a hasher.
use Rattle.std.specs.Prelude.{◌≡◌, ℕ, List, [], ◌∷◌, IsTrue}
use Rattle.std.proofs.Common.{ap}
use Rattle.std.specs.Ordering.{eq_by_cmp}
use Rattle.std.specs.Cmp.{Equal-is}
use Rattle.terms.specs.Term.{text_cmp}
use Rattle.terms.specs.TermLaws.{text_exact}

abbrev pub fed_bytes : List ℕ → List (List ℕ)
fed_bytes text = text ∷ []

pub fed_alike : (a b : List ℕ) → IsTrue (eq_by_cmp text_cmp a b) → fed_bytes a ≡ fed_bytes b
fed_alike a b e = ap fed_bytes (text_exact a b ((Equal-is (text_cmp a b)).0 e))
