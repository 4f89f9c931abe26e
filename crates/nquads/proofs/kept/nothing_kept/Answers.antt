use Rattle.std.proofs.Common.{refl}
use Rattle.nquads.proofs.KeptLaws.{nothing_keeps}
use Rattle.nquads.proofs.kept.nothing_kept.Goals as goal

pub returns-clause-kept : goal.returns-clause-kept
returns-clause-kept c = nothing_keeps _ c.new.ensures refl refl c.new-2.ensures.items
