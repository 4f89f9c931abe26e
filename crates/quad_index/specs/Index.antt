-- What the orders of an index have: each quad of the set once.
use Rattle.std.specs.Prelude.{◌≡◌, List, map}
use Rattle.std.specs.List.{All}
use Rattle.std.specs.List.Sorted.{IsPermutation, IsStrictlySortedBy}
use Rattle.datasets.specs.Id.{id_order}
use Rattle.datasets.specs.Dataset.{quad_order}
use Rattle.datasets.specs.declared.id.Id.{Id}
use Rattle.datasets.specs.declared.quad.Quad.{Quad}
use Rattle.quad_lists.specs.declared.key.Arrangement.{Arrangement}
use Rattle.quad_lists.specs.declared.key.Arrangement.TheVariants.{Spog}
use Rattle.quad_index.specs.declared.order.Order.{Order}

abbrev pub arrangements_of : List Order → List Arrangement
arrangements_of orders = map (λ (o : Order). o.arrangement) orders

-- each of these orders has these quads
abbrev pub AllAlike : List (Quad Id) → List Order → Type 0
AllAlike quads orders = All (λ (o : Order). IsPermutation quads o.quads) orders

-- a set of quads in SPOG, and orders that have them
pub record IsIndex (spog : Order) (others : List Order) : Type 0 where
  pub first : spog.arrangement ≡ Spog
  pub set : IsStrictlySortedBy (quad_order id_order) spog.quads
  pub alike : AllAlike spog.quads others
