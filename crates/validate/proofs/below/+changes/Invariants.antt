use Rattle.std.proofs.Common.{◌-◌}
use Rattle.validate.proofs.below.+changes.Given as goal

abbrev pub decreases-changes : goal.decreases-changes
decreases-changes l = l.high - l.low
