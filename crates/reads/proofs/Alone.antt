-- An answer that tells of one quad alone is the answer that it is there.
use Rattle.std.proofs.Common.{◌≡◌, true, List, [], ◌∷◌, Some, None, sym, ap, ◌∙◌}
use Rattle.datasets.specs.declared.id.Id.{Id}
use Rattle.datasets.specs.declared.quad.Quad.{Quad}
use Rattle.datasets.specs.Dataset.{Quads, Is, Names}
use Rattle.reads.specs.Reads.{Answer, told_quads}

pub told_alone : (a : Answer) (quads : List (Quad Id)) (q : Quad Id) → Some quads ≡ told_quads a → quads ≡ q ∷ [] → Quads (q ∷ []) ≡ a
told_alone (Quads found) quads q e h =
    let same : quads ≡ found = cc in
    ap (λ (x : List (Quad Id)). Quads x) (sym h ∙ same)
told_alone (Is so) quads q e h = absurd (cc)
told_alone (Names names) quads q e h = absurd (cc)
