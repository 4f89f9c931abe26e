-- Datasets with quads that are put in one after another.
use Rattle.std.specs.Prelude.{List}
use Rattle.std.specs.List.{fold}
use Rattle.datasets.specs.declared.quad.Quad.{Quad}
use Rattle.datasets.specs.Dataset.{Dataset}
use Rattle.terms.specs.declared.term.Term.{Term}
use Rattle.terms.specs.DataSet.{with_quad}

abbrev pub with_quads : Dataset Term → List (Quad Term) → Dataset Term
with_quads d quads = fold (λ e q. with_quad q e) d quads
