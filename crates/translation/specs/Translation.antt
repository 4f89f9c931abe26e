-- Requests as updates over terms: names are IRIs by the latest declaration before them, variables
-- and labels are numbers, and groups are patterns of the algebra.
use Rattle.std.specs.Prelude.{ℕ, List, [], ◌∷◌, length, Option, Some, None}
use Rattle.std.specs.Option.{option_map}
use Rattle.terms.specs.declared.term.Term.{Term}
use Rattle.algebra.specs.declared.update.Operation.{Operation as Made}
use Rattle.algebra.specs.declared.update.Operation.TheVariants as made
use Rattle.algebra.specs.declared.update.GraphOperation.TheVariants as graphs
use Rattle.algebra.specs.declared.update.Target.{Target}
use Rattle.algebra.specs.declared.update.Target.TheVariants as target
use Rattle.algebra.specs.Plans.{Plan, nothing}
use Rattle.syntax_trees.specs.declared.tree.Name.{Name}
use Rattle.syntax_trees.specs.declared.tree.Block.{Block}
use Rattle.syntax_trees.specs.declared.tree.Place.{Place}
use Rattle.syntax_trees.specs.declared.tree.Place.TheVariants as place
use Rattle.syntax_trees.specs.declared.tree.Operation.{Operation}
use Rattle.syntax_trees.specs.declared.tree.Operation.TheVariants as operation
use Rattle.syntax_trees.specs.declared.tree.Step.{Step}
use Rattle.syntax_trees.specs.declared.tree.Step.TheVariants as step
use Rattle.syntax_trees.specs.Groups.{group}
use Rattle.names.specs.Names.{Prefixes, declare, name_term}
use Rattle.nodes.specs.Nodes.{nodes_of_where, nodes_of_operation}
use Rattle.names.specs.Numbers.{Labels, variables_of, labels_of, with_labels}
use Rattle.group_translation.specs.Triples.{template_of}
use Rattle.group_translation.specs.Groups.{translated_group, quads_pattern}

abbrev pub target_of : Prefixes → Target Name → Target Term
target_of ds (target.Graph n) = target.Graph (name_term ds n)
target_of ds target.Default = target.Default
target_of ds target.Named = target.Named
target_of ds target.All = target.All

-- no graph is the default graph
abbrev pub graph_at : Prefixes → Place → Option Term
graph_at ds place.Default = None
graph_at ds (place.Graph n) = Some (name_term ds n)

module _ (ds : Prefixes) (vs : List (List ℕ)) (ls : Labels) where
  -- DELETE and INSERT over a pattern, where WITH names a graph or nothing
  abbrev pub modify_with : Option Name → List Block → List Block → Plan Term → Made Term
  modify_with graph xs ys pattern = made.Modify (record {
    width = length vs;
    active = option_map (name_term ds) graph;
    pattern = pattern;
    delete = template_of ds vs ls graph xs;
    insert = template_of ds vs ls graph ys;
  })

  -- INSERT DATA and DELETE DATA have the empty group as WHERE, and DELETE WHERE its quads (SPARQL
  -- 1.1 Update, 3.1.1 to 3.1.3)
  abbrev pub operation_with : Operation → Made Term
  operation_with (operation.Create silent n) = made.Graphs silent (graphs.Create (name_term ds n))
  operation_with (operation.Drop silent t) = made.Graphs silent (graphs.Drop (target_of ds t))
  operation_with (operation.Clear silent t) = made.Graphs silent (graphs.Clear (target_of ds t))
  operation_with (operation.Transfer how silent from to) = made.Graphs silent (graphs.Transfer how (graph_at ds from) (graph_at ds to))
  operation_with (operation.InsertData qs) = modify_with None [] qs nothing
  operation_with (operation.DeleteData qs) = modify_with None qs [] nothing
  operation_with (operation.DeleteWhere qs) = modify_with None qs [] (quads_pattern ds vs qs)
  operation_with (operation.Modify graph xs ys g) = modify_with graph xs ys (translated_group ds vs (group g))

-- variables are numbered by WHERE, and labels by first appearance in the operation
abbrev pub operation_of : Prefixes → Operation → Made Term
operation_of ds op = operation_with ds (variables_of (nodes_of_where op)) (with_labels (labels_of (nodes_of_operation op)) []) op

-- the steps that follow these declarations
abbrev pub translated_after : Prefixes → List Step → List (Made Term)
translated_after ds [] = []
translated_after ds (step.Declare prefix iri ∷ steps) = translated_after (declare prefix iri ds) steps
translated_after ds (step.Do op ∷ steps) = operation_of ds op ∷ translated_after ds steps

abbrev pub translated : List Step → List (Made Term)
translated steps = translated_after [] steps
