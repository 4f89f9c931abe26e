use denote.Text.{Utf8}
use denote.Shadow.{shadow}
use Rattle.std.proofs.Common.{◌+◌, cond, length}
use Rattle.rules.specs.Cuts.{IsCut}
use Rattle.rules.proofs.CutLaws.{SoFar}
use Rattle.rules.proofs.splitting.cut_texts.Given as goal

abbrev pub invariant-loop-goes_on : goal.invariant-loop-goes_on
invariant-loop-goes_on l = shadow (Utf8 l.rest) × SoFar IsCut l.fn.text l.goes_on l.found.items l.rest

abbrev pub decreases-loop-goes_on : goal.decreases-loop-goes_on
decreases-loop-goes_on l = cond l.goes_on (length l.rest + 1) 0
