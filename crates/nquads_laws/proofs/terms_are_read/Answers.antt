use Rattle.std.proofs.Common.{◌∷◌, ◌++◌}
use Rattle.terms.specs.Canonical.{term_text}
use Rattle.nquads_laws.specs.Named.{named_term}
use Rattle.nquads_laws.proofs.TermTexts.{object_front}
use Rattle.nquads_laws.proofs.terms_are_read.Goals as goal

pub returns : goal.returns
returns c tag t rest is = c.objects_are_read.ensures (term_text tag t ++ 32 ∷ rest) (32 ∷ rest) (named_term tag t) (object_front tag t rest is)
