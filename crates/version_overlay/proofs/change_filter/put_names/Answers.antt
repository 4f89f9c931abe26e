use Rattle.std.proofs.Common.{arith}
use Rattle.version_overlay.specs.Seen.{is_seen}
use Rattle.version_overlay.proofs.Speaking.{one_more}
use Rattle.version_overlay.proofs.change_filter.put_names.Goals as goal

pub loop-name-preserved : goal.loop-name-preserved
loop-name-preserved c = record {
  added =
      one_more c.args.names.now c.loop-name.name-index _ (λ x. is_seen c.put.new.self x) (omega arith)
      (λ x e. c.put.ensures.kept x (c.loop-name.invariant.added x e)) c.in_ok-put.ensures.added;
  kept = λ x e. c.put.ensures.kept x (c.loop-name.invariant.kept x e);
}

pub returns-in_err-put-clause-kept : goal.returns-in_err-put-clause-kept
returns-in_err-put-clause-kept c x e = c.put.ensures.kept x (c.loop-name.invariant.kept x e)
