use Rattle.std.proofs.Common.{take}
use Rattle.numbering.specs.Gathered.{HasTerms}
use Rattle.numbering.proofs.gathered.add_terms.Given as goal

abbrev pub invariant-loop-term : goal.invariant-loop-term
invariant-loop-term l = HasTerms l.set.keys (take l.term-index l.terms)
