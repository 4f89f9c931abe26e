use Rattle.std.proofs.Common.{◌≡◌, ◌++◌, drop, map}
use Rattle.algebra.specs.Expressions.{expression_of}
use Rattle.syntax_trees.specs.Groups.{parts_of, group}
use Rattle.group_translation.specs.Groups.{filters_of}
use Rattle.group_translation.proofs.groups.filters_of.Given as goal

abbrev pub invariant-loop-element : goal.invariant-loop-element
invariant-loop-element l = map expression_of l.found.items ++ filters_of l.scope.prefixes.now l.scope.variables.now (group (parts_of (drop l.element-index l.elements)))
    ≡ filters_of l.scope.prefixes.now l.scope.variables.now (group (parts_of l.elements))
