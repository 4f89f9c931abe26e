-- Variables of an operation by their numbers, and its basic graph patterns.
use Rattle.std.specs.Prelude.{◌<◌, ◌≤◌, List}
use Rattle.std.specs.List.{AllByRecursion}
use Rattle.datasets.specs.declared.quad.Quad.{Quad}
use Rattle.algebra.specs.declared.pattern.TriplePattern.{TriplePattern}
use Rattle.algebra.specs.declared.update.Operation.{Operation}
use Rattle.algebra.specs.declared.update.Operation.TheVariants as operation
use Rattle.algebra.specs.Plans.{Plan, Basic, Join, LeftJoin, Union, Minus, Filter, InGraph}
use Rattle.meaning.specs.Vocabulary.{Vocabulary}
use Rattle.meaning.specs.Solutions.{basic_solutions}
use Rattle.meaning_laws.specs.BasicPatterns.{AreSolutions}
use Rattle.translation_laws.specs.Each.{EachOfPlan, EachOfQuad}

module _ {K : Type 0} where
  -- the variables of the pattern, with those of its filters, are below the width; those of the
  -- templates are too, or are the width itself, which no solution binds
  abbrev pub IsWithinWidth : Operation K → Type 0
  IsWithinWidth (operation.Modify m) =
      EachOfPlan (λ t. Unit {0}) (λ v. v < m.width) m.pattern
      × AllByRecursion (EachOfQuad (λ t. Unit {0}) (λ v. v ≤ m.width) (λ l. Unit {0})) m.delete
      × AllByRecursion (EachOfQuad (λ t. Unit {0}) (λ v. v ≤ m.width) (λ l. Unit {0})) m.insert
  IsWithinWidth (operation.Graphs silent op) = Unit {0}

  -- each basic graph pattern in a pattern is so
  abbrev pub EachBasic : (List (TriplePattern K) → Type 0) → Plan K → Type 0
  EachBasic P (Basic ts) = P ts
  EachBasic P (Join a b) = EachBasic P a × EachBasic P b
  EachBasic P (LeftJoin a b es) = EachBasic P a × EachBasic P b
  EachBasic P (Union a b) = EachBasic P a × EachBasic P b
  EachBasic P (Minus a b) = EachBasic P a × EachBasic P b
  EachBasic P (Filter es a) = EachBasic P a
  EachBasic P (InGraph n a) = EachBasic P a

  -- the joined solutions of each basic graph pattern, from these triples, are its solutions in the
  -- standard's words
  abbrev pub IsSolved : Vocabulary K → List (Quad K) → Operation K → Type 0
  IsSolved V triples (operation.Modify m) =
      EachBasic (λ ts. AreSolutions V.order m.width ts triples (basic_solutions V.order m.width ts triples)) m.pattern
  IsSolved V triples (operation.Graphs silent op) = Unit {0}
