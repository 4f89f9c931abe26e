-- The nodes that stand in an operation, in the order of its text. A variable of BOUND counts as a
-- node.
use Rattle.std.specs.Prelude.{List, [], ◌∷◌, ◌++◌, Option, Some, None}
use Rattle.std.specs.List.{flat_map}
use Rattle.std.specs.Option.{option_to_list}
use Rattle.syntax_trees.specs.declared.tree.Name.{Name}
use Rattle.syntax_trees.specs.declared.tree.Node.{Node}
use Rattle.syntax_trees.specs.declared.tree.Node.TheVariants as node
use Rattle.syntax_trees.specs.declared.tree.Property.{Property}
use Rattle.syntax_trees.specs.declared.tree.SameSubject.{SameSubject}
use Rattle.syntax_trees.specs.declared.tree.Block.{Block}
use Rattle.algebra.specs.declared.update.Target.{Target}
use Rattle.algebra.specs.declared.update.Target.TheVariants as target
use Rattle.syntax_trees.specs.declared.tree.Place.{Place}
use Rattle.syntax_trees.specs.declared.tree.Place.TheVariants as place
use Rattle.syntax_trees.specs.declared.tree.Operation.{Operation}
use Rattle.syntax_trees.specs.declared.tree.Operation.TheVariants as operation
use Rattle.syntax_trees.specs.Expressions as tree
use Rattle.syntax_trees.specs.Expressions.{Tree}
use Rattle.syntax_trees.specs.Groups as part
use Rattle.syntax_trees.specs.Groups.{Part, Parts, Groups, group}

abbrev pub nodes_of_property : Property → List Node
nodes_of_property p = p.verb ∷ p.objects

abbrev pub nodes_of_subject : SameSubject → List Node
nodes_of_subject x = x.subject ∷ flat_map nodes_of_property x.properties

abbrev pub nodes_of_triples : List SameSubject → List Node
nodes_of_triples xs = flat_map nodes_of_subject xs

abbrev pub nodes_of_block : Block → List Node
nodes_of_block b = option_to_list b.graph ++ nodes_of_triples b.triples

abbrev pub nodes_of_blocks : List Block → List Node
nodes_of_blocks bs = flat_map nodes_of_block bs

abbrev pub nodes_of_tree : Tree → List Node
nodes_of_tree (tree.Binary o e f) = nodes_of_tree e ++ nodes_of_tree f
nodes_of_tree (tree.Not e) = nodes_of_tree e
nodes_of_tree (tree.Value n) = n ∷ []
nodes_of_tree (tree.Bound v) = node.Variable v ∷ []
nodes_of_tree (tree.Call c e) = nodes_of_tree e
nodes_of_tree (tree.CallTwo c e f) = nodes_of_tree e ++ nodes_of_tree f

abbrev mutual
  pub nodes_of_part : Part → List Node
  nodes_of_part (part.Triples xs) = nodes_of_triples xs
  nodes_of_part (part.Union gs) = nodes_of_groups gs
  nodes_of_part (part.Optional g) = nodes_of_parts g
  nodes_of_part (part.Minus g) = nodes_of_parts g
  nodes_of_part (part.InGraph n g) = n ∷ nodes_of_parts g
  nodes_of_part (part.Filter e) = nodes_of_tree e

  pub nodes_of_parts : Parts → List Node
  nodes_of_parts part.End = []
  nodes_of_parts (part.Next p g) = nodes_of_part p ++ nodes_of_parts g

  pub nodes_of_groups : Groups → List Node
  nodes_of_groups part.Last = []
  nodes_of_groups (part.Or g gs) = nodes_of_parts g ++ nodes_of_groups gs

abbrev pub nodes_of_target : Target Name → List Node
nodes_of_target (target.Graph n) = node.Name n ∷ []
nodes_of_target target.Default = []
nodes_of_target target.Named = []
nodes_of_target target.All = []

abbrev pub nodes_of_place : Place → List Node
nodes_of_place place.Default = []
nodes_of_place (place.Graph n) = node.Name n ∷ []

abbrev pub nodes_of_with : Option Name → List Node
nodes_of_with None = []
nodes_of_with (Some n) = node.Name n ∷ []

-- those of its WHERE; DELETE WHERE has its quads as pattern
abbrev pub nodes_of_where : Operation → List Node
nodes_of_where (operation.Create silent n) = []
nodes_of_where (operation.Drop silent t) = []
nodes_of_where (operation.Clear silent t) = []
nodes_of_where (operation.Transfer how silent from to) = []
nodes_of_where (operation.InsertData qs) = []
nodes_of_where (operation.DeleteData qs) = []
nodes_of_where (operation.DeleteWhere qs) = nodes_of_blocks qs
nodes_of_where (operation.Modify n xs ys g) = nodes_of_parts (group g)

-- the quads of DELETE DATA, DELETE WHERE and a DELETE template
abbrev pub deleted_of : Operation → List Block
deleted_of (operation.Create silent n) = []
deleted_of (operation.Drop silent t) = []
deleted_of (operation.Clear silent t) = []
deleted_of (operation.Transfer how silent from to) = []
deleted_of (operation.InsertData qs) = []
deleted_of (operation.DeleteData qs) = qs
deleted_of (operation.DeleteWhere qs) = qs
deleted_of (operation.Modify n xs ys g) = xs

abbrev pub nodes_of_operation : Operation → List Node
nodes_of_operation (operation.Create silent n) = node.Name n ∷ []
nodes_of_operation (operation.Drop silent t) = nodes_of_target t
nodes_of_operation (operation.Clear silent t) = nodes_of_target t
nodes_of_operation (operation.Transfer how silent from to) = nodes_of_place from ++ nodes_of_place to
nodes_of_operation (operation.InsertData qs) = nodes_of_blocks qs
nodes_of_operation (operation.DeleteData qs) = nodes_of_blocks qs
nodes_of_operation (operation.DeleteWhere qs) = nodes_of_blocks qs
nodes_of_operation (operation.Modify n xs ys g) = ((nodes_of_with n ++ nodes_of_blocks xs) ++ nodes_of_blocks ys) ++ nodes_of_parts (group g)
