use Rattle.std.proofs.Common.{◌++◌, List, take, ap, subst, ◌∙◌}
use Rattle.std.specs.List.{list_all}
use Rattle.datasets.specs.declared.id.Id.{Id}
use Rattle.datasets.specs.declared.quad.Quad.{Quad}
use Rattle.dict.specs.Dictionary.{is_known}
use Rattle.meaning_laws.specs.Renaming.{quad_known}
use Rattle.quad_sets.specs.Pieces.{quads_in_pieces}
use Rattle.numbering.specs.Tables.{StandFor}
use Rattle.numbering.proofs.Places.{further, piece_known, piece_passes, pieces_next}
use Rattle.numbering.proofs.naming.place_quads.Goals as goal

pub push_quads-requires : goal.push_quads-requires
push_quads-requires c =
    ap (list_all (quad_known (is_known c.loop-piece.table))) (c.lent.ensures ∙ c.piece-item.is)
    ∙ piece_known c.terms_keep_places.ensures c.args.table.now c.loop-piece.table c.loop-piece.invariant.0 c.args.pieces.now c.loop-piece.piece-index _ c.loop-piece-test.true c.requires

pub loop-piece-preserved : goal.loop-piece-preserved
loop-piece-preserved c =
    let table = c.args.table.now in
    let pieces = c.args.pieces.now in
    let i = c.loop-piece.piece-index in
    let done = quads_in_pieces (take i pieces) in
    let known = quad_known (is_known table) in
    let here = ap (list_all known) (c.lent.ensures ∙ c.piece-item.is) ∙ piece_passes known pieces i _ c.loop-piece-test.true c.requires in
    let more = c.in_ok-push_quads.ensures.stands table done c.loop-piece.invariant.0 here c.loop-piece.invariant.1 in (
      further table c.loop-piece.table c.push_quads.new.table c.loop-piece.invariant.0 c.in_ok-push_quads.ensures.kept,
      pieces_next (StandFor table c.push_quads.new.table c.push_quads.new.list.items) pieces i _ c.loop-piece-test.true
          (subst (λ (qs : List (Quad Id)). StandFor table c.push_quads.new.table c.push_quads.new.list.items (done ++ qs)) (c.lent.ensures ∙ c.piece-item.is) more),
    )
