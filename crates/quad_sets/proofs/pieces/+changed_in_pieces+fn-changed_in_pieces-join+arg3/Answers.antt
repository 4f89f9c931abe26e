use Rattle.std.proofs.Common.{◌≡◌, ◌++◌, ◌∷◌, [], List, map, ap, sym, ◌∙◌}
use Rattle.std.proofs.lemmas.List.{append-nil, map-append}
use Rattle.std.proofs.lemmas.List.Concat.{flat_map-append}
use Rattle.std.proofs.lemmas.Result.{IfOk-at_ok}
use Rattle.sets.specs.Sets.{union, without}
use Rattle.datasets.specs.declared.id.Id.{Id}
use Rattle.datasets.specs.declared.quad.Quad.{Quad}
use Rattle.quad_lists.specs.Known.{quad_of}
use Rattle.quad_lists.specs.KnownOrder.{known_order, known_total, known_exact}
use Rattle.quad_lists.specs.declared.known.KnownQuad.{KnownQuad}
use Rattle.quad_sets.specs.Pieces.{quads_in_pieces}
use Rattle.quad_sets.proofs.Cuts.{changed_cut}
use Rattle.quad_sets.proofs.pieces.+changed_in_pieces+fn-changed_in_pieces-join+arg3.Goals as goal

-- what one piece more behind others makes of the whole
one_more : (pieces now : List (List (Quad Id))) (last : List (Quad Id)) (lower higher : List KnownQuad)
    → now ≡ pieces ++ last ∷ [] → quads_in_pieces pieces ≡ map quad_of lower → last ≡ map quad_of higher → quads_in_pieces now ≡ map quad_of (lower ++ higher)
one_more pieces now last lower higher is below above =
    ap quads_in_pieces is
    ∙ flat_map-append (λ piece. piece) pieces (last ∷ []) ∙ ap (λ list. quads_in_pieces pieces ++ list) (append-nil last)
    ∙ (λ i. below i ++ above i)
    ∙ sym (map-append quad_of lower higher)

pub returns : goal.returns
returns g t c =
    let lower = union known_order (without known_order c.cut.result.0.now c.cut-2.result.0.now) c.cut-3.result.0.now in
    let higher = union known_order (without known_order c.cut.result.1.now c.cut-2.result.1.now) c.cut-3.result.1.now in
    let below = IfOk-at_ok (λ pieces. quads_in_pieces pieces.items ≡ map quad_of lower) c.in_ok-pieces.was c.join-last.ensures.second in
    let above = IfOk-at_ok (λ (list : List (Quad Id)). list ≡ map quad_of higher) c.in_ok-last.was c.join-last.ensures.first in
    one_more c.in_ok-pieces.pieces.items c.push.new.self.items c.in_ok-last.field-0 lower higher c.in_ok-push.ensures.items below above
    ∙ ap (map quad_of) (sym (changed_cut known_total known_exact _ c.args.set.now c.args.gone.now c.args.more.now _ _ _ _ _ _ c.cut.ensures.cut c.cut-2.ensures.cut c.cut-3.ensures.cut))
