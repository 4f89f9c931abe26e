use Rattle.std.proofs.Common.{◌≡◌, map, take}
use Rattle.terms.specs.Canonical.{term_text}
use Rattle.canonical_nquads.proofs.canonical.texts_of.Given as goal

abbrev pub invariant-loop-term : goal.invariant-loop-term
invariant-loop-term l = l.texts.items ≡ map (term_text l.tag) (take l.term-index l.terms)
