-- Groups, wherever they lie in memory.
use Rattle.std.specs.Prelude.{List, [], ◌∷◌, map}
use Rattle.std.specs.Global.{Vec}
use Rattle.syntax_trees.specs.declared.tree.Node.{Node}
use Rattle.syntax_trees.specs.declared.tree.SameSubject.{SameSubject}
use Rattle.syntax_trees.specs.Expressions.{Tree, tree_of}
use Rattle.syntax_trees.specs.declared.group.Element.{Element, fold-Element}
use Rattle.syntax_trees.specs.declared.group.Element.TheOpen.{Element-F}

mutual
  pub data Part : Type 0 where
    Triples : List SameSubject → Part
    Union : Groups → Part
    Optional : Parts → Part
    Minus : Parts → Part
    InGraph : Node → Parts → Part
    Filter : Tree → Part

  -- a group's parts in order
  pub data Parts : Type 0 where
    End : Parts
    Next : Part → Parts → Parts

  -- the groups of a union
  pub data Groups : Type 0 where
    Last : Groups
    Or : Parts → Groups → Groups

abbrev pub group : List Part → Parts
group [] = End
group (p ∷ ps) = Next p (group ps)

abbrev pub groups : List Parts → Groups
groups [] = Last
groups (g ∷ gs) = Or g (groups gs)

-- one level, with each element inside already seen as its part
abbrev pub part_step : Element-F Part → Part
part_step (Element-F.Triples xs) = Triples xs
part_step (Element-F.Union gs) = Union (groups (map (λ g. group g.items) gs.items))
part_step (Element-F.Optional g) = Optional (group g.items)
part_step (Element-F.Minus g) = Minus (group g.items)
part_step (Element-F.Graph n g) = InGraph n (group g.items)
part_step (Element-F.Filter e) = Filter (tree_of e)

abbrev pub part_of : Element → Part
part_of = fold-Element Part part_step

abbrev pub parts_of : List Element → List Part
parts_of = map part_of

abbrev pub lists_of : List (Vec Element) → List (List Part)
lists_of = map (λ g. parts_of g.items)
