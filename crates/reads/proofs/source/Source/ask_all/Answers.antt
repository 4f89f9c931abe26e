use Rattle.std.proofs.Common.{arith}
use Rattle.std.proofs.lemmas.List.{drop_more, drop_all}
use Rattle.reads.proofs.Asking.{went_nowhere, went_on, went_through, went_until, went_short}
use Rattle.reads.proofs.source.Source.ask_all.Goals as goal

pub returns-in_err-reserve : goal.returns-in_err-reserve
returns-in_err-reserve g c =
    went_short _ (went_nowhere c.args.self.now c.args.reads.now c.args.notes.now.items _ c.in_err-reserve.ensures.items) c.from_residual.ensures.1

pub loop-read-init : goal.loop-read-init
loop-read-init g c = record {
  went = went_nowhere c.args.self.now c.args.reads.now c.args.notes.now.items _ c.in_ok-reserve.ensures.items;
  room = omega (arith, c.in_ok-reserve.ensures.ok);
}

pub loop-read-preserved : goal.loop-read-preserved
loop-read-preserved g c = record {
  went =
      went_on c.loop-read.invariant.went _ _ _ (drop_more c.args.reads.now c.loop-read.read-index _ c.loop-read-test.true) c.push_reserved.ensures.items c.in_ok-answer.ensures;
  room = omega arith;
}

pub returns-in_err-answer : goal.returns-in_err-answer
returns-in_err-answer g c =
    went_until _ c.loop-read.invariant.went _ _ (drop_more c.args.reads.now c.loop-read.read-index _ c.loop-read-test.true) c.in_err-answer.ensures c.from_residual-in_err-answer.ensures.1

pub returns : goal.returns
returns g c = went_through _ c.loop-read.invariant.went (drop_all c.loop-read.read-index c.args.reads.now (omega arith))
