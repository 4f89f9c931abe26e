use Rattle.std.proofs.Common.{drop}
use Rattle.dict.specs.Dictionary.{term_of, is_known}
use Rattle.meaning_laws.specs.Renaming.{renamed_pattern, pattern_known}
use Rattle.store.specs.Held.{is_held}
use Rattle.store.proofs.Loops.{SoFar}
use Rattle.numbering.proofs.plans.number_patterns.Given as goal

abbrev pub invariant-loop-pattern : goal.invariant-loop-pattern
invariant-loop-pattern l = SoFar (renamed_pattern (term_of l.numbers)) (pattern_known (is_known l.numbers)) (pattern_known (is_held l.numbers)) l.list.items (drop l.pattern-index l.patterns) l.patterns
