-- The nodes that the grammar reads from tokens have the parts of these tokens, and are not more
-- than they.
use Rattle.std.proofs.Common.{◌≡◌, ℕ, zero, suc, ◌+◌, ◌≤◌, true, List, [], ◌∷◌, ◌++◌, length, map, Option, arith}
use Rattle.std.proofs.lemmas.List.{length-append}
use Rattle.std.specs.Prelude.{Bool, IsUtf8}
use Rattle.std.specs.List.{AllByRecursion, flat_map}
use Rattle.sets.proofs.Every.{all_joined}
use Rattle.iris.specs.Iri.{IsIri}
use Rattle.iris.specs.Forms.{is_tag}
use Rattle.lexer.specs.declared.token.Token.{Token}
use Rattle.lexer.specs.Names.{IsLocal, AreDigits}
use Rattle.lexer.specs.Form.{HasParts}
use Rattle.algebra.specs.declared.update.Target.{Target}
use Rattle.algebra.specs.declared.update.Transfer.{Transfer}
use Rattle.syntax_trees.specs.declared.tree.Name.{Name}
use Rattle.syntax_trees.specs.declared.tree.Name.TheVariants as name
use Rattle.syntax_trees.specs.declared.tree.Literal.{Literal}
use Rattle.syntax_trees.specs.declared.tree.Literal.TheVariants as literal
use Rattle.syntax_trees.specs.declared.tree.Node.{Node}
use Rattle.syntax_trees.specs.declared.tree.Node.TheVariants as node
use Rattle.syntax_trees.specs.declared.tree.Property.{Property}
use Rattle.syntax_trees.specs.declared.tree.SameSubject.{SameSubject}
use Rattle.syntax_trees.specs.declared.tree.Block.{Block}
use Rattle.syntax_trees.specs.declared.tree.Place.{Place}
use Rattle.syntax_trees.specs.declared.tree.Operation.{Operation}
use Rattle.syntax_trees.specs.declared.tree.Step.{Step}
use Rattle.syntax_trees.specs.declared.tree.Step.TheVariants as step
use Rattle.syntax_trees.specs.Expressions.{Tree}
use Rattle.syntax_trees.specs.Groups.{Part, group, groups}
use Rattle.productions.specs.Steps.{Production}
use Rattle.productions.specs.Keywords.{ReadsKeyword, keyword}
use Rattle.productions.specs.Many.{Many, last, next}
use Rattle.productions.specs.Names as names
use Rattle.productions.specs.Names.{ReadsName, ReadsLiteral}
use Rattle.expressions.specs.Grammar as filter
use Rattle.expressions.specs.Grammar.{ReadsCall, ReadsPrimary, ReadsNot, ReadsMore, done, more, ReadsChain, chain, ReadsOnce, alone, pair, ReadsProduct, ReadsSum, ReadsRelation, ReadsAnd, ReadsOr, ReadsExpression, ReadsConstraint}
use Rattle.triples.specs.Reads as reads
use Rattle.triples.specs.Reads.{ReadsNode, ReadsGraphName, ReadsVerb, ReadsObject, ObjectLink, ReadsObjects, ReadsProperty, property, PropertyLink, ReadsSame, same, TripleLink, ReadsTriples, ReadsMaybeTriples, ReadsMaybeDot, ReadsGraphBlock, block, ReadsBlocks, ReadsQuads, quads}
use Rattle.groups.specs.Reads as groups_read
use Rattle.groups.specs.Reads.{ReadsFront, UnionLink, ReadsPart, ReadsParts, ReadsBraces, braces, ReadsGroup}
use Rattle.grammar.specs.Reads as grammar
use Rattle.grammar.specs.Reads.{ReadsSilent, ReadsGraph, ReadsTarget, ReadsPlace, ReadsTransfer, ReadsWith, ReadsChange, ReadsOperation, ReadsRequest, most_nested}
use Rattle.nodes.specs.Nodes.{nodes_of_property, nodes_of_subject, nodes_of_triples, nodes_of_block, nodes_of_blocks, nodes_of_tree, nodes_of_part, nodes_of_parts, nodes_of_groups, nodes_of_target, nodes_of_place, nodes_of_with, nodes_of_operation}

-- ---- the parts of nodes

abbrev pub NameParts : Name → Type 0
NameParts (name.Iri i) = IsIri i
NameParts (name.Prefixed p l) = IsLocal l

abbrev pub LiteralParts : Literal → Type 0
LiteralParts (literal.Plain s) = IsUtf8 s
LiteralParts (literal.Tagged s t) = IsUtf8 s × (is_tag t ≡ true)
LiteralParts (literal.Typed s n) = IsUtf8 s × NameParts n
LiteralParts (literal.Integer n) = AreDigits n
LiteralParts (literal.Boolean b) = Unit {0}

abbrev pub NodeParts : Node → Type 0
NodeParts (node.Name n) = NameParts n
NodeParts node.Type = Unit {0}
NodeParts (node.Variable v) = Unit {0}
NodeParts (node.Blank l) = Unit {0}
NodeParts (node.Literal l) = LiteralParts l

-- ---- what is taken from the front of tokens

-- nodes with their parts, with the tokens behind them not more than there were
record IsTaken (ts : List Token) (ns : List Node) (rest : List Token) : Type 0 where
  nodes : AllByRecursion NodeParts ns
  left : AllByRecursion HasParts rest
  few : length ns + length rest ≤ length ts

record Takes (ts : List Token) (ns : List Node) (rest : List Token) : Type 0 where
  given : AllByRecursion HasParts ts → IsTaken ts ns rest

none : {ts : List Token} → Takes ts [] ts
none = record { given = λ h. record { nodes = tt; left = h; few = omega arith } }

both : {ts r s : List Token} {ns ms : List Node} → Takes ts ns r → Takes r ms s → Takes ts (ns ++ ms) s
both {ns = ns} {ms = ms} a b = record {
  given = λ h.
      let x = a.given h in
      let y = b.given x.left in
      let long = length-append ns ms in
      let before = x.few in
      let after = y.few in
      record { nodes = all_joined NodeParts ns ms x.nodes y.nodes; left = y.left; few = omega (arith, long, before, after) };
}

-- with what gives no node behind it
ended : {ts r s : List Token} {ns : List Node} → Takes ts ns r → Takes r [] s → Takes ts ns s
ended a b = record {
  given = λ h.
      let x = a.given h in
      let y = b.given x.left in
      let before = x.few in
      let after = y.few in
      record { nodes = x.nodes; left = y.left; few = omega (arith, before, after) };
}

one_token : {t : Token} {ts : List Token} → Takes (t ∷ ts) [] ts
one_token = record { given = λ h. record { nodes = tt; left = h.1; few = omega arith } }

one_node : {t : Token} {ts : List Token} {n : Node} → (HasParts t → NodeParts n) → Takes (t ∷ ts) (n ∷ []) ts
one_node f = record { given = λ h. record { nodes = (f h.0, tt); left = h.1; few = omega arith } }

behind : {t : Token} {ts rest : List Token} {ns : List Node} → Takes ts ns rest → Takes (t ∷ ts) ns rest
behind a = both one_token a

before : {t : Token} {ts rest : List Token} {ns : List Node} → Takes ts ns (t ∷ rest) → Takes ts ns rest
before a = ended a one_token

keyword_taken : {k : List ℕ} {ts rest : List Token} → ReadsKeyword k ts rest → Takes ts [] rest
keyword_taken (keyword e) = one_token

-- all that a production reads
abbrev TakenBy : {A : Type 0} → (A → List Node) → Production A → Type 0
TakenBy {A} nodes P = (ts : List Token) (x : A) (rest : List Token) → P ts x rest → Takes ts (nodes x) rest

-- ---- names, literals and nodes

name_taken : {ts rest : List Token} {n : Name} → ReadsName ts n rest → Takes ts (node.Name n ∷ []) rest
name_taken names.iri = one_node (λ h. h)
name_taken names.prefixed = one_node (λ h. h)

literal_taken : {ts rest : List Token} {l : Literal} → ReadsLiteral ts l rest → Takes ts (node.Literal l ∷ []) rest
literal_taken (names.plain e) = one_node (λ h. h)
literal_taken names.tagged = record { given = λ h. let after = h.1 in record { nodes = ((h.0, after.0), tt); left = after.1; few = omega arith } }
literal_taken (names.typed k) = record {
  given = λ h.
      let after = h.1 in
      let typed = (name_taken k).given after.1 in
      let ns = typed.nodes in
      let few = typed.few in
      record { nodes = ((h.0, ns.0), tt); left = typed.left; few = omega (arith, few) };
}
literal_taken names.integer = one_node (λ h. h)
literal_taken (names.is_true e) = one_node (λ h. tt)
literal_taken (names.is_false e) = one_node (λ h. tt)

node_taken : {ts rest : List Token} {n : Node} → ReadsNode ts n rest → Takes ts (n ∷ []) rest
node_taken reads.variable = one_node (λ h. tt)
node_taken reads.blank = one_node (λ h. tt)
node_taken (reads.name k) = name_taken k

graph_name_taken : {ts rest : List Token} {n : Node} → ReadsGraphName ts n rest → Takes ts (n ∷ []) rest
graph_name_taken reads.variable = one_node (λ h. tt)
graph_name_taken (reads.name k) = name_taken k

verb_taken : {ts rest : List Token} {n : Node} → ReadsVerb ts n rest → Takes ts (n ∷ []) rest
verb_taken (reads.is_name k) = graph_name_taken k
verb_taken reads.type = one_node (λ h. tt)

object_taken : {ts rest : List Token} {n : Node} → ReadsObject ts n rest → Takes ts (n ∷ []) rest
object_taken (reads.is_node k) = node_taken k
object_taken (reads.literal k) = literal_taken k

-- ---- triples

object_link : {ts rest : List Token} {b : Bool} → ObjectLink ts b rest → Takes ts [] rest
object_link reads.comma = one_token
object_link reads.no_comma = none

property_link : {ts rest : List Token} {b : Bool} → PropertyLink ts b rest → Takes ts [] rest
property_link reads.semicolon = one_token
property_link (reads.again l) = behind (property_link l)
property_link reads.no_semicolon = none

triple_link : {ts rest : List Token} {b : Bool} → TripleLink ts b rest → Takes ts [] rest
triple_link reads.dot = one_token
triple_link reads.last_dot = one_token
triple_link reads.no_dot = none

objects_taken : {ts rest : List Token} {ns : List Node} → ReadsObjects ts ns rest → Takes ts ns rest
objects_taken (last i l) = both (object_taken i) (object_link l)
objects_taken (next i l m) = both (object_taken i) (both (object_link l) (objects_taken m))

property_taken : {ts rest : List Token} {p : Property} → ReadsProperty ts p rest → Takes ts (nodes_of_property p) rest
property_taken (property verb objects) = both (verb_taken verb) (objects_taken objects)

properties_taken : {ts rest : List Token} {ps : List Property} → Many ReadsProperty PropertyLink ts ps rest → Takes ts (flat_map nodes_of_property ps) rest
properties_taken (last i l) = both (property_taken i) (property_link l)
properties_taken (next i l m) = both (property_taken i) (both (property_link l) (properties_taken m))

same_taken : {ts rest : List Token} {x : SameSubject} → ReadsSame ts x rest → Takes ts (nodes_of_subject x) rest
same_taken (same subject properties) = both (node_taken subject) (properties_taken properties)

triples_taken : {ts rest : List Token} {xs : List SameSubject} → Many ReadsSame TripleLink ts xs rest → Takes ts (nodes_of_triples xs) rest
triples_taken (last i l) = both (same_taken i) (triple_link l)
triples_taken (next i l m) = both (same_taken i) (both (triple_link l) (triples_taken m))

maybe_taken : {ts rest : List Token} {xs : List SameSubject} → ReadsMaybeTriples ts xs rest → Takes ts (nodes_of_triples xs) rest
maybe_taken reads.none = none
maybe_taken (reads.some m) = triples_taken m

dot_taken : {ts rest : List Token} → ReadsMaybeDot ts rest → Takes ts [] rest
dot_taken reads.dot = one_token
dot_taken reads.no_dot = none

block_taken : {ts rest : List Token} {b : Block} → ReadsGraphBlock ts b rest → Takes ts (nodes_of_block b) rest
block_taken (block graph triples end) = both (before (graph_name_taken graph)) (ended (before (maybe_taken triples)) (dot_taken end))

blocks_taken : {ts rest : List Token} {bs : List Block} → ReadsBlocks ts bs rest → Takes ts (nodes_of_blocks bs) rest
blocks_taken reads.close = one_token
blocks_taken (reads.graph k b triples later) = both (both (keyword_taken k) (block_taken b)) (both (maybe_taken triples) (blocks_taken later))

quads_taken : {ts rest : List Token} {bs : List Block} → ReadsQuads ts bs rest → Takes ts (nodes_of_blocks bs) rest
quads_taken (quads triples later) = behind (both (maybe_taken triples) (blocks_taken later))

-- ---- expressions

module _ (n : ℕ) (Inner : Production Tree) (inner : TakenBy nodes_of_tree Inner) where
  call_taken : TakenBy nodes_of_tree (ReadsCall n Inner)
  call_taken _ _ _ (filter.bound k deep) = behind (behind (before (one_node (λ h. tt))))
  call_taken _ _ _ (filter.one k i) = behind (behind (before (inner _ _ _ i)))
  call_taken _ _ _ (filter.two k i j) = behind (behind (both (before (inner _ _ _ i)) (before (inner _ _ _ j))))

  primary_taken : TakenBy nodes_of_tree (ReadsPrimary n Inner)
  primary_taken _ _ _ (filter.parens i) = behind (before (inner _ _ _ i))
  primary_taken _ _ _ (filter.called c) = call_taken _ _ _ c
  primary_taken _ _ _ (filter.named k) = name_taken k
  primary_taken _ _ _ (filter.quoted k) = literal_taken k
  primary_taken _ _ _ filter.variable = one_node (λ h. tt)

  not_taken : TakenBy nodes_of_tree (ReadsNot n Inner)
  not_taken _ _ _ (filter.plain p) = primary_taken _ _ _ p
  not_taken _ _ _ (filter.negated p) = behind (primary_taken _ _ _ p)

module _ (Item : Production Tree) (r : ℕ) (item : TakenBy nodes_of_tree Item) where
  more_taken : {start ts rest : List Token} {e f : Tree} → ReadsMore Item r ts e f rest → Takes start (nodes_of_tree e) ts → Takes start (nodes_of_tree f) rest
  more_taken done h = h
  more_taken (more is i m) h = more_taken m (both h (behind (item _ _ _ i)))

  chain_taken : TakenBy nodes_of_tree (ReadsChain Item r)
  chain_taken _ _ _ (chain i m) = more_taken m (item _ _ _ i)

  once_taken : TakenBy nodes_of_tree (ReadsOnce Item r)
  once_taken _ _ _ (alone i) = item _ _ _ i
  once_taken _ _ _ (pair i is j) = both (before (item _ _ _ i)) (item _ _ _ j)

or_taken : (n : ℕ) (Inner : Production Tree) → TakenBy nodes_of_tree Inner → TakenBy nodes_of_tree (ReadsOr n Inner)
or_taken n Inner inner =
    chain_taken (ReadsAnd n Inner) 1 (chain_taken (ReadsRelation n Inner) 2 (once_taken (ReadsSum n Inner) 3 (chain_taken (ReadsProduct n Inner) 4
    (chain_taken (ReadsNot n Inner) 5 (not_taken n Inner inner)))))

expression_taken : (n : ℕ) → TakenBy nodes_of_tree (ReadsExpression n)
unfolding ReadsExpression
expression_taken zero ts e rest i = absurd i
expression_taken (suc n) ts e rest i = or_taken n (ReadsExpression n) (expression_taken n) ts e rest i

constraint_taken : (n : ℕ) → TakenBy nodes_of_tree (ReadsConstraint n)
constraint_taken n _ _ _ (filter.bracketed i) = behind (before (expression_taken n _ _ _ i))
constraint_taken n _ _ _ (filter.call c) = call_taken n (ReadsExpression n) (expression_taken n) _ _ _ c

-- ---- groups

abbrev nodes_of_list : List Part → List Node
nodes_of_list ps = nodes_of_parts (group ps)

front_then : {ts r rest : List Token} {xs : List Part} (ps : List Part) → ReadsFront ts xs r → Takes r (nodes_of_list ps) rest → Takes ts (nodes_of_list (xs ++ ps)) rest
front_then ps (groups_read.triples k e) h = both (triples_taken k) h
front_then ps groups_read.no_triples h = h

union_link : {ts rest : List Token} {b : Bool} → UnionLink ts b rest → Takes ts [] rest
union_link (groups_read.or_group e) = one_token
union_link groups_read.no_union = none

module _ (n : ℕ) (Inner : Production (List Part)) (inner : TakenBy nodes_of_list Inner) where
  groups_taken : {ts rest : List Token} {gs : List (List Part)} → Many Inner UnionLink ts gs rest → Takes ts (nodes_of_groups (groups (map group gs))) rest
  groups_taken (last i l) = both (inner _ _ _ i) (union_link l)
  groups_taken (next i l m) = both (inner _ _ _ i) (both (union_link l) (groups_taken m))

  part_taken : {ts rest : List Token} {p : Part} → ReadsPart n Inner ts p rest → Takes ts (nodes_of_part p) rest
  part_taken (groups_read.union m) = groups_taken m
  part_taken (groups_read.optional k i) = behind (inner _ _ _ i)
  part_taken (groups_read.minus k i) = behind (inner _ _ _ i)
  part_taken (groups_read.in_graph k graph i) = behind (both (graph_name_taken graph) (inner _ _ _ i))
  part_taken (groups_read.filter k c) = behind (constraint_taken n _ _ _ c)

  parts_taken : {ts rest : List Token} {ps : List Part} → ReadsParts n Inner ts ps rest → Takes ts (nodes_of_list ps) rest
  parts_taken groups_read.close = one_token
  parts_taken (groups_read.part xs ps i d f m) = both (part_taken i) (both (dot_taken d) (front_then ps f (parts_taken m)))

  braces_taken : TakenBy nodes_of_list (ReadsBraces n Inner)
  braces_taken _ _ _ (braces xs ps f m) = behind (front_then ps f (parts_taken m))

group_taken : (n : ℕ) → TakenBy nodes_of_list (ReadsGroup n)
unfolding ReadsGroup
group_taken zero ts ps rest i = absurd i
group_taken (suc n) ts ps rest i = braces_taken n (ReadsGroup n) (group_taken n) ts ps rest i

-- ---- operations

silent_taken : {ts rest : List Token} {b : Bool} → ReadsSilent ts b rest → Takes ts [] rest
silent_taken (grammar.silent k) = keyword_taken k
silent_taken grammar.not_silent = none

graph_taken : {ts rest : List Token} {n : Name} → ReadsGraph ts n rest → Takes ts (node.Name n ∷ []) rest
graph_taken (grammar.graph k i) = both (keyword_taken k) (name_taken i)

target_taken : {ts rest : List Token} {t : Target Name} → ReadsTarget ts t rest → Takes ts (nodes_of_target t) rest
target_taken (grammar.in_graph g) = graph_taken g
target_taken (grammar.default k) = keyword_taken k
target_taken (grammar.named k) = keyword_taken k
target_taken (grammar.all k) = keyword_taken k

place_taken : {ts rest : List Token} {p : Place} → ReadsPlace ts p rest → Takes ts (nodes_of_place p) rest
place_taken (grammar.default k) = keyword_taken k
place_taken (grammar.in_graph g) = graph_taken g
place_taken (grammar.name k) = name_taken k

transfer_taken : {ts rest : List Token} {how : Transfer} → ReadsTransfer ts how rest → Takes ts [] rest
transfer_taken (grammar.copy k) = keyword_taken k
transfer_taken (grammar.move k) = keyword_taken k
transfer_taken (grammar.add k) = keyword_taken k

with_taken : {ts rest : List Token} {w : Option Name} → ReadsWith ts w rest → Takes ts (nodes_of_with w) rest
with_taken (grammar.with k i) = both (keyword_taken k) (name_taken i)
with_taken grammar.without = none

-- the templates of a change, behind what is taken before it
change_taken : {start ts rest : List Token} {ns : List Node} {xs ys : List Block} → Takes start ns ts → ReadsChange ts xs ys rest
    → Takes start ((ns ++ nodes_of_blocks xs) ++ nodes_of_blocks ys) rest
change_taken h (grammar.delete k q) = both (both h (both (keyword_taken k) (quads_taken q))) none
change_taken h (grammar.insert k q) = both (both h none) (both (keyword_taken k) (quads_taken q))
change_taken h (grammar.both k q l p) = both (both h (both (keyword_taken k) (quads_taken q))) (both (keyword_taken l) (quads_taken p))

operation_taken : {ts rest : List Token} {op : Operation} → ReadsOperation ts op rest → Takes ts (nodes_of_operation op) rest
operation_taken (grammar.create k s g) = both (keyword_taken k) (both (silent_taken s) (graph_taken g))
operation_taken (grammar.drop k s t) = both (keyword_taken k) (both (silent_taken s) (target_taken t))
operation_taken (grammar.clear k s t) = both (keyword_taken k) (both (silent_taken s) (target_taken t))
operation_taken (grammar.transferred how s from k to) = both (transfer_taken how) (both (silent_taken s) (both (place_taken from) (both (keyword_taken k) (place_taken to))))
operation_taken (grammar.insert_data k d q) = both (keyword_taken k) (both (keyword_taken d) (quads_taken q))
operation_taken (grammar.delete_data k d q) = both (keyword_taken k) (both (keyword_taken d) (quads_taken q))
operation_taken (grammar.delete_where k d q) = both (keyword_taken k) (both (keyword_taken d) (quads_taken q))
operation_taken (grammar.modify w c k g) = both (change_taken (with_taken w) c) (both (keyword_taken k) (group_taken most_nested _ _ _ g))

-- ---- requests

-- what is declared is an IRI, and the nodes of an operation have their parts and are at most so
-- many
abbrev pub StepParts : ℕ → Step → Type 0
StepParts most (step.Declare p i) = IsIri i
StepParts most (step.Do op) = AllByRecursion NodeParts (nodes_of_operation op) × (length (nodes_of_operation op) ≤ most)

pub request_parts : (most : ℕ) {ts : List Token} {steps : List Step} → ReadsRequest ts steps → AllByRecursion HasParts ts → length ts ≤ most → AllByRecursion (StepParts most) steps
request_parts most grammar.nothing h small = tt
request_parts most (grammar.prefix k m) h small =
    let x = (keyword_taken k).given h in
    let few = x.few in
    let name = x.left in
    let iri = name.1 in
    (iri.0, request_parts most m iri.1 (omega (arith, few, small)))
request_parts most (grammar.last o) h small =
    let x = (operation_taken o).given h in
    let few = x.few in
    ((x.nodes, omega (arith, few, small)), tt)
request_parts most (grammar.next o m) h small =
    let x = (operation_taken o).given h in
    let few = x.few in
    let left = x.left in
    ((x.nodes, omega (arith, few, small)), request_parts most m left.1 (omega (arith, few, small)))
