use Rattle.terms.proofs.PlacedLaws.{term_kept, within_kept}
use Rattle.terms.proofs.laws.terms_keep_places.Goals as goal

pub returns : goal.returns
returns c = λ old new on place h. (term_kept old new on place h, within_kept old new on place h)
