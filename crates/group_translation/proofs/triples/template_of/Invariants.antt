use Rattle.std.proofs.Common.{◌≡◌, ◌++◌, drop}
use Rattle.group_translation.specs.Triples.{template_of}
use Rattle.group_translation.proofs.triples.template_of.Given as goal

abbrev pub invariant-loop-block : goal.invariant-loop-block
invariant-loop-block l = l.found ++ template_of l.scope.prefixes.now l.scope.variables.now l.scope.labels.now l.with (drop l.block-index l.blocks) ≡ template_of l.scope.prefixes.now l.scope.variables.now l.scope.labels.now l.with l.blocks
