-- What is seen of an index: a set of quads, and the orders in which it keeps them.
use Rattle.std.specs.Prelude.{List}
use Rattle.datasets.specs.declared.id.Id.{Id}
use Rattle.datasets.specs.declared.quad.Quad.{Quad}
use Rattle.quad_lists.specs.declared.key.Arrangement.{Arrangement}

pub record Indexed : Type 0 where
  pub quads : List (Quad Id)
  pub orders : List Arrangement
