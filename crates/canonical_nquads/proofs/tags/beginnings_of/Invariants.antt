use Rattle.std.proofs.Common.{◌≡◌, ℕ, List, take}
use Rattle.std.specs.HashSet.{contains}
use Rattle.std.specs.List.{list_any}
use Rattle.std.specs.Ordering.{eq_by_cmp}
use Rattle.terms.specs.Term.{text_cmp}
use Rattle.terms.specs.Placed.{quad_at}
use Rattle.canonical_nquads.specs.Beginning.{is_begun_in}
use Rattle.canonical_nquads.proofs.tags.beginnings_of.Given as goal

abbrev pub invariant-loop-quad : goal.invariant-loop-quad
invariant-loop-quad l = (text : List ℕ) → contains (eq_by_cmp text_cmp) l.beginnings text ≡ list_any (λ q. is_begun_in text (quad_at l.terms q)) (take l.quad-index l.quads)
