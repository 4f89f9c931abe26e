-- A code of groups: the symbols of a group in order, each before its parts, from which the group is
-- built again from the right.
use Rattle.std.specs.Prelude.{ℕ, ◌≡◌, List, [], ◌∷◌, refl}
use Rattle.std.proofs.Common.{ap, ◌∙◌}
use Rattle.std.specs.Coded.{Coded, code_by}
use Rattle.syntax_trees.specs.declared.tree.Node.{Node}
use Rattle.syntax_trees.specs.declared.tree.SameSubject.{SameSubject}
use Rattle.syntax_trees.specs.declared.expression.Operator.{Operator}
use Rattle.syntax_trees.specs.declared.expression.One.{One}
use Rattle.syntax_trees.specs.declared.expression.Two.{Two}
use Rattle.syntax_trees.specs.Expressions as tree
use Rattle.syntax_trees.specs.Expressions.{Tree}
use Rattle.syntax_trees.specs.Groups as part
use Rattle.syntax_trees.specs.Groups.{Part, Parts, Groups, group}

pub data Symbol : Type 0 where
  Binary : Operator → Symbol
  Not : Symbol
  Value : Node → Symbol
  Bound : List ℕ → Symbol
  Call : One → Symbol
  CallTwo : Two → Symbol
  Triples : List SameSubject → Symbol
  Union : Symbol
  Optional : Symbol
  Minus : Symbol
  InGraph : Node → Symbol
  Filter : Symbol
  End : Symbol
  Next : Symbol
  Last : Symbol
  Or : Symbol

pub data Item : Type 0 where
  of_tree : Tree → Item
  of_part : Part → Item
  of_parts : Parts → Item
  of_groups : Groups → Item

-- ---- the symbols, before others

abbrev tree_symbols : Tree → List Symbol → List Symbol
tree_symbols (tree.Binary o e f) k = Binary o ∷ tree_symbols e (tree_symbols f k)
tree_symbols (tree.Not e) k = Not ∷ tree_symbols e k
tree_symbols (tree.Value n) k = Value n ∷ k
tree_symbols (tree.Bound v) k = Bound v ∷ k
tree_symbols (tree.Call c e) k = Call c ∷ tree_symbols e k
tree_symbols (tree.CallTwo c e f) k = CallTwo c ∷ tree_symbols e (tree_symbols f k)

abbrev mutual
  part_symbols : Part → List Symbol → List Symbol
  part_symbols (part.Triples xs) k = Triples xs ∷ k
  part_symbols (part.Union gs) k = Union ∷ groups_symbols gs k
  part_symbols (part.Optional g) k = Optional ∷ parts_symbols g k
  part_symbols (part.Minus g) k = Minus ∷ parts_symbols g k
  part_symbols (part.InGraph n g) k = InGraph n ∷ parts_symbols g k
  part_symbols (part.Filter e) k = Filter ∷ tree_symbols e k

  parts_symbols : Parts → List Symbol → List Symbol
  parts_symbols part.End k = End ∷ k
  parts_symbols (part.Next p g) k = Next ∷ part_symbols p (parts_symbols g k)

  groups_symbols : Groups → List Symbol → List Symbol
  groups_symbols part.Last k = Last ∷ k
  groups_symbols (part.Or g gs) k = Or ∷ parts_symbols g (groups_symbols gs k)

-- ---- what they build

abbrev place : Symbol → List Item → List Item
place (Binary o) (of_tree e ∷ of_tree f ∷ s) = of_tree (tree.Binary o e f) ∷ s
place Not (of_tree e ∷ s) = of_tree (tree.Not e) ∷ s
place (Value n) s = of_tree (tree.Value n) ∷ s
place (Bound v) s = of_tree (tree.Bound v) ∷ s
place (Call c) (of_tree e ∷ s) = of_tree (tree.Call c e) ∷ s
place (CallTwo c) (of_tree e ∷ of_tree f ∷ s) = of_tree (tree.CallTwo c e f) ∷ s
place (Triples xs) s = of_part (part.Triples xs) ∷ s
place Union (of_groups gs ∷ s) = of_part (part.Union gs) ∷ s
place Optional (of_parts g ∷ s) = of_part (part.Optional g) ∷ s
place Minus (of_parts g ∷ s) = of_part (part.Minus g) ∷ s
place (InGraph n) (of_parts g ∷ s) = of_part (part.InGraph n g) ∷ s
place Filter (of_tree e ∷ s) = of_part (part.Filter e) ∷ s
place End s = of_parts part.End ∷ s
place Next (of_part p ∷ of_parts g ∷ s) = of_parts (part.Next p g) ∷ s
place Last s = of_groups part.Last ∷ s
place Or (of_parts g ∷ of_groups gs ∷ s) = of_groups (part.Or g gs) ∷ s
place x s = s

abbrev built : List Symbol → List Item
built [] = []
built (x ∷ xs) = place x (built xs)

tree_built : (e : Tree) (k : List Symbol) → built (tree_symbols e k) ≡ of_tree e ∷ built k
tree_built (tree.Binary o e f) k = ap (place (Binary o)) (tree_built e (tree_symbols f k) ∙ ap (λ s. of_tree e ∷ s) (tree_built f k))
tree_built (tree.Not e) k = ap (place Not) (tree_built e k)
tree_built (tree.Value n) k = refl
tree_built (tree.Bound v) k = refl
tree_built (tree.Call c e) k = ap (place (Call c)) (tree_built e k)
tree_built (tree.CallTwo c e f) k = ap (place (CallTwo c)) (tree_built e (tree_symbols f k) ∙ ap (λ s. of_tree e ∷ s) (tree_built f k))

mutual
  part_built : (p : Part) (k : List Symbol) → built (part_symbols p k) ≡ of_part p ∷ built k
  part_built (part.Triples xs) k = refl
  part_built (part.Union gs) k = ap (place Union) (groups_built gs k)
  part_built (part.Optional g) k = ap (place Optional) (parts_built g k)
  part_built (part.Minus g) k = ap (place Minus) (parts_built g k)
  part_built (part.InGraph n g) k = ap (place (InGraph n)) (parts_built g k)
  part_built (part.Filter e) k = ap (place Filter) (tree_built e k)

  parts_built : (g : Parts) (k : List Symbol) → built (parts_symbols g k) ≡ of_parts g ∷ built k
  parts_built part.End k = refl
  parts_built (part.Next p g) k = ap (place Next) (part_built p (parts_symbols g k) ∙ ap (λ s. of_part p ∷ s) (parts_built g k))

  groups_built : (gs : Groups) (k : List Symbol) → built (groups_symbols gs k) ≡ of_groups gs ∷ built k
  groups_built part.Last k = refl
  groups_built (part.Or g gs) k = ap (place Or) (parts_built g (groups_symbols gs k) ∙ ap (λ s. of_parts g ∷ s) (groups_built gs k))

-- ---- the parts of a group

abbrev list_of : Parts → List Part
list_of part.End = []
list_of (part.Next p g) = p ∷ list_of g

listed : (ps : List Part) → list_of (group ps) ≡ ps
listed [] = refl
listed (p ∷ ps) = ap (λ xs. p ∷ xs) (listed ps)

abbrev parts_in : List Item → List Part
parts_in (of_parts g ∷ s) = list_of g
parts_in s = []

abbrev symbols_of : List Part → List Symbol
symbols_of ps = parts_symbols (group ps) []

pub group_code : Coded (List Symbol) → Coded (List Part)
group_code code = code_by (List Symbol) code symbols_of (λ xs. parts_in (built xs)) (λ ps. ap parts_in (parts_built (group ps) []) ∙ listed ps)
