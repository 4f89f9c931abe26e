use Rattle.std.specs.HashSet.{contains}
use Rattle.std.specs.Prelude.{not, nat_eq}
use Rattle.std.proofs.Common.{◌∙◌, ℕ, ap, map, filter}
use Rattle.std.specs.List.{flat_map}
use Rattle.std.proofs.lemmas.List.Sorted.{IsPermutation-refl}
use Rattle.canonical_nquads.specs.Canonical.{ended}
use Rattle.canonical_nquads.specs.Placed.{graph_line_at, quad_text_at}
use Rattle.canonical_nquads.proofs.RisingLaws.{pieces_whole, same_lines}
use Rattle.canonical_nquads.proofs.text_pieces.rising_pieces_by.Goals as goal

pub returns-in-Some-2 : goal.returns-in-Some-2
returns-in-Some-2 g c =
    let texts = c.args.texts.now in
    let kept = λ (name : ℕ). not (contains nat_eq c.args.full.now name) in
    let graphs = map (graph_line_at texts) (filter kept c.args.names.now) in
    let front = rw c.in-Some.is at c.in_ok-front.ensures in
    let behind = rw c.in-Some-2.is at c.in_ok-whole.ensures in
    let stand = behind graphs front in
    pieces_whole c.in-Some-2.whole graphs (map (quad_text_at texts) stand.order) stand.rise
    ∙ ap (flat_map ended) (same_lines (quad_text_at texts) (graph_line_at texts) kept c.args.quads.now stand.order c.args.names.now c.args.names.now stand.moved (IsPermutation-refl c.args.names.now))
