use Rattle.std.proofs.Common.{◌≡◌, length, refl, sym, ◌∙◌, subst, arith}
use Rattle.std.proofs.lemmas.Result.{err_from_is_err_and}
use Rattle.devices.proofs.WrittenLaws.{IsWritten, nothing_written, more_written, all_written, front_written}
use Rattle.devices.proofs.watched.Watched.write_all.Goals as goal

pub loop-rest-init : goal.loop-rest-init
loop-rest-init g c = record { written = nothing_written (g.W.Write.contents c.args.self.now.inner) c.args.text.now; count = refl; flushed = refl }

pub returns-in_err-count-clause-err : goal.returns-in_err-count-clause-err
returns-in_err-count-clause-err g c =
    let p = err_from_is_err_and c.from_residual.result c.from_residual.ensures.1 in
    rw p.1
    (front_written (g.W.Write.contents c.args.self.now.inner) (g.W.Write.contents c.loop-rest.self.inner) (g.W.Write.contents c.write.new.self.inner) c.args.text.now c.loop-rest.rest.now
    c.loop-rest.invariant.written c.in_err-count.ensures.err)

pub loop-rest-preserved : goal.loop-rest-preserved
loop-rest-preserved g c = record {
  written = subst (IsWritten (g.W.Write.contents c.args.self.now.inner) (g.W.Write.contents c.write.new.self.inner) c.args.text.now) (sym c.split_at.ensures.back)
      (more_written (g.W.Write.contents c.args.self.now.inner) (g.W.Write.contents c.loop-rest.self.inner) (g.W.Write.contents c.write.new.self.inner) c.args.text.now c.loop-rest.rest.now
      c.in_ok-count.count c.loop-rest.invariant.written c.in_ok-count.ensures.bytes);
  count = c.in_ok-count.ensures.count ∙ c.loop-rest.invariant.count;
  flushed = c.in_ok-count.ensures.flushed;
}

pub returns-clause-ok : goal.returns-clause-ok
returns-clause-ok g c =
    let empty : length c.loop-rest.rest.now ≡ 0 = omega arith in
    all_written (g.W.Write.contents c.args.self.now.inner) (g.W.Write.contents c.loop-rest.self.inner) c.args.text.now c.loop-rest.rest.now c.loop-rest.invariant.written empty
