use Rattle.std.proofs.Common.{subst, ◌∙◌, ◌++◌, take}
use Rattle.std.proofs.lemmas.Result.{err_from_is_err_and}
use Rattle.std.specs.Io.KnownBytes.{Appends}
use Rattle.std.specs.Vec.Iter.{into_iter_items}
use Rattle.canonical_nquads.specs.Canonical.{text_of_pieces}
use Rattle.engines.proofs.Bytes.{left_behind, one_more, part_of_one}
use Rattle.engines.proofs.outputs.write_pieces.Goals as goal

pub loop-piece-preserved : goal.loop-piece-preserved
loop-piece-preserved g c =
    let contents = g.W.Write.contents in
    let so_far = c.loop-piece.invariant.2 in
    let old = into_iter_items c.loop-piece.piece-iterator in
    let rest = into_iter_items c.next.new.self in (
      tt,
      tt,
      record {
        done = so_far.done ++ c.in-Some.piece.items;
        written = one_more (text_of_pieces c.args.pieces.items) so_far.done c.in-Some.piece old rest so_far.left c.in-Some.ensures.steps.0
            (contents c.args.writer.now.inner) (contents c.loop-piece.writer.inner) (contents c.write_all.new.self.inner) so_far.written
            (subst (Appends (contents c.loop-piece.writer.inner) (contents c.write_all.new.self.inner)) c.as_slice.ensures.value c.in_ok-write_all.ensures.ok);
        left = left_behind (text_of_pieces c.args.pieces.items) so_far.done c.in-Some.piece old rest so_far.left c.in-Some.ensures.steps.0;
        count = c.in_ok-write_all.ensures.count ∙ so_far.count;
      },
    )

pub returns-in_err-write_all-clause-part : goal.returns-in_err-write_all-clause-part
returns-in_err-write_all-clause-part g c =
    let contents = g.W.Write.contents in
    let so_far = c.loop-piece.invariant.2 in
    let p = err_from_is_err_and c.from_residual.result c.from_residual.ensures.1 in
    let part = c.in_err-write_all.ensures.err in
    rw p.1
    (part_of_one (text_of_pieces c.args.pieces.items) so_far.done c.in-Some.piece (into_iter_items c.loop-piece.piece-iterator) (into_iter_items c.next.new.self) so_far.left c.in-Some.ensures.steps.0
    (contents c.args.writer.now.inner) (contents c.loop-piece.writer.inner) (contents c.write_all.new.self.inner) part.0 so_far.written
    (subst (λ t. Appends (contents c.loop-piece.writer.inner) (contents c.write_all.new.self.inner) (take part.0 t)) c.as_slice.ensures.value part.1))
