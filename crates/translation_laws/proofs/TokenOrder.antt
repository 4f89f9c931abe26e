-- The labels of what is read are those of its tokens, in their order.
use Rattle.std.specs.Prelude.{ℕ, zero, suc, Bool, true, false, Option}
use Rattle.std.proofs.Common.{◌≡◌, List, [], ◌∷◌, ◌++◌, Some, None, map, refl, sym, ap, ◌∙◌, subst, append_assoc}
use Rattle.std.specs.List.{cons_option, flat_map}
use Rattle.std.proofs.lemmas.List.{append_cancel_right}
use Rattle.std.proofs.lemmas.List.Elements.{filter_map-append}
use Rattle.lexer.specs.declared.token.Token.{Token}
use Rattle.lexer.specs.declared.token.Token.TheVariants as token
use Rattle.lexer.specs.declared.token.Sign.TheVariants as signs
use Rattle.algebra.specs.declared.update.Transfer.{Transfer}
use Rattle.syntax_trees.specs.declared.tree.Name.{Name}
use Rattle.syntax_trees.specs.declared.tree.Literal.{Literal}
use Rattle.syntax_trees.specs.declared.tree.Node.{Node}
use Rattle.syntax_trees.specs.declared.tree.Node.TheVariants as node
use Rattle.syntax_trees.specs.declared.tree.Property.{Property}
use Rattle.syntax_trees.specs.declared.tree.SameSubject.{SameSubject}
use Rattle.syntax_trees.specs.declared.tree.Block.{Block}
use Rattle.syntax_trees.specs.declared.tree.Operation.{Operation}
use Rattle.syntax_trees.specs.declared.expression.Operator.{Operator}
use Rattle.syntax_trees.specs.Expressions.{Tree}
use Rattle.syntax_trees.specs.Groups.{Part, group, groups}
use Rattle.productions.specs.Steps.{Production}
use Rattle.productions.specs.Many.{Many, last, next}
use Rattle.productions.specs.Keywords.{ReadsKeyword, keyword}
use Rattle.productions.specs.Names as names
use Rattle.productions.specs.Names.{ReadsName, ReadsLiteral}
use Rattle.expressions.specs.Operators.{operator_of}
use Rattle.expressions.specs.Grammar as expression
use Rattle.expressions.specs.Grammar.{ReadsCall, ReadsPrimary, ReadsNot, ReadsMore, ReadsChain, ReadsOnce, ReadsProduct, ReadsSum, ReadsRelation, ReadsAnd, ReadsOr, ReadsExpression, ReadsConstraint}
use Rattle.triples.specs.Reads as reads
use Rattle.triples.specs.Reads.{ReadsNode, ReadsGraphName, ReadsVerb, ReadsObject, ObjectLink, ReadsProperty, PropertyLink, ReadsSame, TripleLink, ReadsMaybeTriples, ReadsMaybeDot, ReadsGraphBlock, ReadsBlocks, ReadsQuads}
use Rattle.groups.specs.Reads as groups_read
use Rattle.groups.specs.Reads.{ReadsFront, UnionLink, ReadsPart, ReadsParts, ReadsBraces, ReadsGroup}
use Rattle.grammar.specs.Reads as grammar
use Rattle.grammar.specs.Reads.{ReadsSilent, ReadsGraph, ReadsTarget, ReadsPlace, ReadsTransfer, ReadsWith, ReadsChange, ReadsOperation, most_nested}
use Rattle.names.specs.Numbers.{label_of, labels_of}
use Rattle.nodes.specs.Nodes.{nodes_of_property, nodes_of_subject, nodes_of_triples, nodes_of_block, nodes_of_blocks, nodes_of_tree, nodes_of_part, nodes_of_parts, nodes_of_groups, nodes_of_target, nodes_of_place, nodes_of_with, nodes_of_operation}
use Rattle.translation_laws.specs.Tokens.{token_label, labels_in}

-- the labels of the tokens up to the rest are those of the nodes
record Tells (ts : List Token) (ns : List Node) (rest : List Token) : Type 0 where
  is : labels_in ts ≡ labels_of ns ++ labels_in rest

labels_joined : (ms ns : List Node) → labels_of (ms ++ ns) ≡ labels_of ms ++ labels_of ns
labels_joined ms ns = filter_map-append label_of ms ns

both : {ts us rest : List Token} {ms ns : List Node} → Tells ts ms us → Tells us ns rest → Tells ts (ms ++ ns) rest
both {ts} {us} {rest} {ms} {ns} h k = record {
  is = h.is ∙ ap (λ (x : List (List ℕ)). labels_of ms ++ x) k.is ∙ sym (append_assoc (labels_of ms) (labels_of ns) (labels_in rest))
      ∙ ap (λ (x : List (List ℕ)). x ++ labels_in rest) (sym (labels_joined ms ns));
}

-- what tells nothing more at the end
end : {ts us rest : List Token} {ms : List Node} → Tells ts ms us → Tells us [] rest → Tells ts ms rest
end {ts} {us} {rest} {ms} h k = record { is = h.is ∙ ap (λ (x : List (List ℕ)). labels_of ms ++ x) k.is }

nothing : (ts : List Token) → Tells ts [] ts
nothing ts = record { is = refl }

-- all that a production reads is so
abbrev Keeps : {A : Type 0} → (A → List Node) → Production A → Type 0
Keeps {A} nodes P = (ts : List Token) (x : A) (rest : List Token) → P ts x rest → Tells ts (nodes x) rest

-- ---- names and words

name_tells : Keeps (λ n. []) ReadsName
name_tells _ _ _ names.iri = record { is = refl }
name_tells _ _ _ names.prefixed = record { is = refl }

named_tells : Keeps (λ n. node.Name n ∷ []) ReadsName
named_tells ts n rest r = record { is = (name_tells ts n rest r).is }

literal_tells : Keeps (λ l. node.Literal l ∷ []) ReadsLiteral
literal_tells _ _ _ (names.plain s) = record { is = refl }
literal_tells _ _ _ names.tagged = record { is = refl }
literal_tells _ _ _ (names.typed {s} {ts} {rest} {d} r) = record { is = (name_tells ts d rest r).is }
literal_tells _ _ _ names.integer = record { is = refl }
literal_tells _ _ _ (names.is_true k) = record { is = refl }
literal_tells _ _ _ (names.is_false k) = record { is = refl }

keyword_tells : (k : List ℕ) (ts rest : List Token) → ReadsKeyword k ts rest → Tells ts [] rest
keyword_tells k _ _ (keyword is) = record { is = refl }

-- ---- triples

node_tells : Keeps (λ n. n ∷ []) ReadsNode
node_tells _ _ _ reads.variable = record { is = refl }
node_tells _ _ _ reads.blank = record { is = refl }
node_tells _ _ _ (reads.name {ts} {rest} {n} r) = named_tells ts n rest r

graph_name_tells : Keeps (λ n. n ∷ []) ReadsGraphName
graph_name_tells _ _ _ reads.variable = record { is = refl }
graph_name_tells _ _ _ (reads.name {ts} {rest} {n} r) = named_tells ts n rest r

verb_tells : Keeps (λ n. n ∷ []) ReadsVerb
verb_tells _ _ _ (reads.is_name {ts} {rest} {x} r) = graph_name_tells ts x rest r
verb_tells _ _ _ reads.type = record { is = refl }

object_tells : Keeps (λ n. n ∷ []) ReadsObject
object_tells _ _ _ (reads.is_node {ts} {rest} {x} r) = node_tells ts x rest r
object_tells _ _ _ (reads.literal {ts} {rest} {l} r) = literal_tells ts l rest r

-- links tell nothing
abbrev LinkTells : (List Token → Bool → List Token → Type 0) → Type 0
LinkTells Link = (ts : List Token) (b : Bool) (rest : List Token) → Link ts b rest → Tells ts [] rest

module _ {A : Type 0} (nodes : A → List Node) (all : List A → List Node) (empty : all [] ≡ []) (more : (x : A) (xs : List A) → all (x ∷ xs) ≡ nodes x ++ all xs)
    (Item : List Token → A → List Token → Type 0) (Link : List Token → Bool → List Token → Type 0) (item : Keeps nodes Item) (link : LinkTells Link) where
  many_tells : (ts : List Token) (xs : List A) (rest : List Token) → Many Item Link ts xs rest → Tells ts (all xs) rest
  many_tells _ _ _ (last {ts} {r} {s} {x} i l) =
      subst (λ (ns : List Node). Tells ts ns s) (ap (λ (ns : List Node). nodes x ++ ns) (sym empty) ∙ sym (more x [])) (both (item ts x r i) (link r false s l))
  many_tells _ _ _ (next {ts} {r} {u} {s} {x} {xs} i l m) =
      subst (λ (ns : List Node). Tells ts ns s) (sym (more x xs)) (both (item ts x r i) (both (link r true u l) (many_tells u xs s m)))

object_link_tells : LinkTells ObjectLink
object_link_tells _ _ _ reads.comma = record { is = refl }
object_link_tells _ _ _ reads.no_comma = record { is = refl }

objects_tell : (ts : List Token) (xs : List Node) (rest : List Token) → Many ReadsObject ObjectLink ts xs rest → Tells ts xs rest
objects_tell = many_tells (λ n. n ∷ []) (λ ns. ns) refl (λ x xs. refl) ReadsObject ObjectLink object_tells object_link_tells

property_tells : Keeps nodes_of_property ReadsProperty
property_tells _ _ _ (reads.property {ts} {r} {s} {v} {os} verb objects) = both (verb_tells ts v r verb) (objects_tell r os s objects)

property_link_tells : LinkTells PropertyLink
property_link_tells _ _ _ reads.semicolon = record { is = refl }
property_link_tells _ _ _ (reads.again {rest} {s} {b} l) = record { is = (property_link_tells rest b s l).is }
property_link_tells _ _ _ reads.no_semicolon = record { is = refl }

properties_tell : (ts : List Token) (xs : List Property) (rest : List Token) → Many ReadsProperty PropertyLink ts xs rest → Tells ts (flat_map nodes_of_property xs) rest
properties_tell = many_tells nodes_of_property (flat_map nodes_of_property) refl (λ x xs. refl) ReadsProperty PropertyLink property_tells property_link_tells

same_tells : Keeps nodes_of_subject ReadsSame
same_tells _ _ _ (reads.same {ts} {r} {s} {x} {ps} subject properties) = both (node_tells ts x r subject) (properties_tell r ps s properties)

triple_link_tells : LinkTells TripleLink
triple_link_tells _ _ _ reads.dot = record { is = refl }
triple_link_tells _ _ _ reads.last_dot = record { is = refl }
triple_link_tells _ _ _ reads.no_dot = record { is = refl }

triples_tell : (ts : List Token) (xs : List SameSubject) (rest : List Token) → Many ReadsSame TripleLink ts xs rest → Tells ts (nodes_of_triples xs) rest
triples_tell = many_tells nodes_of_subject nodes_of_triples refl (λ x xs. refl) ReadsSame TripleLink same_tells triple_link_tells

maybe_triples_tell : Keeps nodes_of_triples ReadsMaybeTriples
maybe_triples_tell _ _ _ (reads.none {rest}) = nothing rest
maybe_triples_tell _ _ _ (reads.some {ts} {rest} {xs} r) = triples_tell ts xs rest r

maybe_dot_tells : (ts rest : List Token) → ReadsMaybeDot ts rest → Tells ts [] rest
maybe_dot_tells _ _ reads.dot = record { is = refl }
maybe_dot_tells _ _ reads.no_dot = record { is = refl }

graph_block_tells : Keeps nodes_of_block ReadsGraphBlock
graph_block_tells _ _ _ (reads.block {ts} {r} {u} {rest} {g} {xs} of_graph triples then_dot) =
    both {us = r} {ms = g ∷ []} {ns = nodes_of_triples xs} (record { is = (graph_name_tells ts g (token.Sign signs.OpenBrace ∷ r) of_graph).is })
    (end {us = u} {ms = nodes_of_triples xs} (record { is = (maybe_triples_tell r xs (token.Sign signs.CloseBrace ∷ u) triples).is }) (maybe_dot_tells u rest then_dot))

blocks_tell : Keeps nodes_of_blocks ReadsBlocks
blocks_tell _ _ _ (reads.close {rest}) = record { is = refl }
blocks_tell _ _ _ (reads.graph {ts} {r} {u} {v} {rest} {b} {xs} {later} k inside triples more) =
    both (keyword_tells _ ts r k) (both (graph_block_tells r b u inside) (both (maybe_triples_tell u xs v triples) (blocks_tell v later rest more)))

quads_tell : Keeps nodes_of_blocks ReadsQuads
quads_tell _ _ _ (reads.quads {ts} {r} {rest} {xs} {later} triples more) = record { is = (both (maybe_triples_tell ts xs r triples) (blocks_tell r later rest more)).is }

-- ---- expressions

module _ (n : ℕ) (Inner : Production Tree) (inner : Keeps nodes_of_tree Inner) where
  call_tells : Keeps nodes_of_tree (ReadsCall n Inner)
  call_tells _ _ _ (expression.bound k deep) = record { is = refl }
  call_tells _ _ _ (expression.one {w} {ts} {rest} {f} {e} k i) = record { is = (inner ts e (token.Sign signs.CloseParen ∷ rest) i).is }
  call_tells _ _ _ (expression.two {w} {ts} {us} {rest} {f} {d} {e} k i j) =
      both {us = us} {ms = nodes_of_tree d} {ns = nodes_of_tree e} (record { is = (inner ts d (token.Sign signs.Comma ∷ us) i).is }) (record { is = (inner us e (token.Sign signs.CloseParen ∷ rest) j).is })

  primary_tells : Keeps nodes_of_tree (ReadsPrimary n Inner)
  primary_tells _ _ _ (expression.parens {ts} {rest} {e} i) = record { is = (inner ts e (token.Sign signs.CloseParen ∷ rest) i).is }
  primary_tells _ _ _ (expression.called {ts} {rest} {e} c) = call_tells ts e rest c
  primary_tells _ _ _ (expression.named {ts} {rest} {x} m) = named_tells ts x rest m
  primary_tells _ _ _ (expression.quoted {ts} {rest} {x} m) = literal_tells ts x rest m
  primary_tells _ _ _ expression.variable = record { is = refl }

  not_tells : Keeps nodes_of_tree (ReadsNot n Inner)
  not_tells _ _ _ (expression.plain {ts} {rest} {e} p) = primary_tells ts e rest p
  not_tells _ _ _ (expression.negated {ts} {rest} {e} p) = record { is = (primary_tells ts e rest p).is }

-- an operator is no label
operator_tells : (t : Token) (o : Operator) → operator_of t ≡ Some o → token_label t ≡ None
operator_tells (token.Iri i) o e = refl
operator_tells (token.Name p l) o e = refl
operator_tells (token.Variable v) o e = refl
operator_tells (token.Blank l) o e = absurd cc
operator_tells (token.Text s) o e = refl
operator_tells (token.Tag t) o e = refl
operator_tells (token.Integer d) o e = refl
operator_tells (token.Word w) o e = refl
operator_tells (token.Sign s) o e = refl

module _ (Item : Production Tree) (r : ℕ) (item : Keeps nodes_of_tree Item) where
  behind : (t : Token) (o : Operator) (ts : List Token) → operator_of t ≡ Some o → Tells (t ∷ ts) [] ts
  behind t o ts e = record { is = ap (λ (x : Option (List ℕ)). cons_option x (labels_in ts)) (operator_tells t o e) }

  more_tells : {before ts rest : List Token} {e f : Tree} → ReadsMore Item r ts e f rest → Tells before (nodes_of_tree e) ts → Tells before (nodes_of_tree f) rest
  more_tells expression.done h = h
  more_tells (expression.more {t} {ts} {us} {rest} {o} {e} {f} {g} is i m) h = more_tells m (both h (both (behind t o ts is.is) (item ts f us i)))

  chain_tells : Keeps nodes_of_tree (ReadsChain Item r)
  chain_tells _ _ _ (expression.chain {ts} {us} {rest} {e} {f} i m) = more_tells m (item ts e us i)

  once_tells : Keeps nodes_of_tree (ReadsOnce Item r)
  once_tells _ _ _ (expression.alone {ts} {rest} {e} i) = item ts e rest i
  once_tells _ _ _ (expression.pair {t} {ts} {us} {rest} {o} {e} {f} i is j) = both (item ts e (t ∷ us) i) (both (behind t o us is.is) (item us f rest j))

or_tells : (n : ℕ) (Inner : Production Tree) → Keeps nodes_of_tree Inner → Keeps nodes_of_tree (ReadsOr n Inner)
or_tells n Inner inner =
    chain_tells (ReadsAnd n Inner) 1 (chain_tells (ReadsRelation n Inner) 2 (once_tells (ReadsSum n Inner) 3 (chain_tells (ReadsProduct n Inner) 4
    (chain_tells (ReadsNot n Inner) 5 (not_tells n Inner inner)))))

expression_tells : (n : ℕ) → Keeps nodes_of_tree (ReadsExpression n)
unfolding ReadsExpression
expression_tells zero ts e rest i = absurd i
expression_tells (suc n) ts e rest i = or_tells n (ReadsExpression n) (expression_tells n) ts e rest i

constraint_tells : (n : ℕ) → Keeps nodes_of_tree (ReadsConstraint n)
constraint_tells n _ _ _ (expression.bracketed {ts} {rest} {e} i) = record { is = (expression_tells n ts e (token.Sign signs.CloseParen ∷ rest) i).is }
constraint_tells n _ _ _ (expression.call {ts} {rest} {e} c) = call_tells n (ReadsExpression n) (expression_tells n) ts e rest c

-- ---- groups

abbrev nodes_of_list : List Part → List Node
nodes_of_list ps = nodes_of_parts (group ps)

abbrev nodes_of_lists : List (List Part) → List Node
nodes_of_lists gs = nodes_of_groups (groups (map group gs))

list_joined : (ps qs : List Part) → nodes_of_list (ps ++ qs) ≡ nodes_of_list ps ++ nodes_of_list qs
list_joined [] qs = refl
list_joined (p ∷ ps) qs = ap (λ (ns : List Node). nodes_of_part p ++ ns) (list_joined ps qs) ∙ sym (append_assoc (nodes_of_part p) (nodes_of_list ps) (nodes_of_list qs))

joined_tell : {ts us rest : List Token} (ps qs : List Part) → Tells ts (nodes_of_list ps) us → Tells us (nodes_of_list qs) rest → Tells ts (nodes_of_list (ps ++ qs)) rest
joined_tell {ts} {us} {rest} ps qs h k = subst (λ (ns : List Node). Tells ts ns rest) (sym (list_joined ps qs)) (both h k)

front_tells : Keeps nodes_of_list ReadsFront
front_tells _ _ _ (groups_read.triples {ts} {rest} {xs} r e) = both (triples_tell ts xs rest r) (nothing rest)
front_tells _ _ _ (groups_read.no_triples {rest}) = nothing rest

union_link_tells : LinkTells UnionLink
union_link_tells _ _ _ (groups_read.or_group k) = record { is = refl }
union_link_tells _ _ _ groups_read.no_union = record { is = refl }

module _ (n : ℕ) (Inner : Production (List Part)) (inner : Keeps nodes_of_list Inner) where
  part_tells : Keeps nodes_of_part (ReadsPart n Inner)
  part_tells _ _ _ (groups_read.union {ts} {rest} {gs} m) = many_tells nodes_of_list nodes_of_lists refl (λ x xs. refl) Inner UnionLink inner union_link_tells ts gs rest m
  part_tells _ _ _ (groups_read.optional {w} {ts} {rest} {g} k i) = record { is = (inner ts g rest i).is }
  part_tells _ _ _ (groups_read.minus {w} {ts} {rest} {g} k i) = record { is = (inner ts g rest i).is }
  part_tells _ _ _ (groups_read.in_graph {w} {ts} {r} {rest} {x} {g} k of_graph i) = record { is = (both (graph_name_tells ts x r of_graph) (inner r g rest i)).is }
  part_tells _ _ _ (groups_read.filter {w} {ts} {rest} {e} k c) = record { is = (constraint_tells n ts e rest c).is }

  parts_tell : Keeps nodes_of_list (ReadsParts n Inner)
  parts_tell _ _ _ groups_read.close = record { is = refl }
  parts_tell _ _ _ (groups_read.part {ts} {r} {u} {v} {rest} {p} xs ps i d f m) =
      both (part_tells ts p r i) (both (maybe_dot_tells r u d) (joined_tell xs ps (front_tells u xs v f) (parts_tell v ps rest m)))

  braces_tell : Keeps nodes_of_list (ReadsBraces n Inner)
  braces_tell _ _ _ (groups_read.braces {ts} {r} {rest} xs ps f m) = record { is = (joined_tell xs ps (front_tells ts xs r f) (parts_tell r ps rest m)).is }

group_tells : (n : ℕ) → Keeps nodes_of_list (ReadsGroup n)
unfolding ReadsGroup
group_tells zero ts ps rest i = absurd i
group_tells (suc n) ts ps rest i = braces_tell n (ReadsGroup n) (group_tells n) ts ps rest i

-- ---- operations

silent_tells : (ts : List Token) (b : Bool) (rest : List Token) → ReadsSilent ts b rest → Tells ts [] rest
silent_tells _ _ _ (grammar.silent {ts} {rest} k) = keyword_tells _ ts rest k
silent_tells _ _ _ (grammar.not_silent {rest}) = nothing rest

graph_tells : Keeps (λ n. node.Name n ∷ []) ReadsGraph
graph_tells _ _ _ (grammar.graph {ts} {r} {rest} {n} k name) = both (keyword_tells _ ts r k) (named_tells r n rest name)

target_tells : Keeps nodes_of_target ReadsTarget
target_tells _ _ _ (grammar.in_graph {ts} {rest} {n} r) = graph_tells ts n rest r
target_tells _ _ _ (grammar.default {ts} {rest} k) = keyword_tells _ ts rest k
target_tells _ _ _ (grammar.named {ts} {rest} k) = keyword_tells _ ts rest k
target_tells _ _ _ (grammar.all {ts} {rest} k) = keyword_tells _ ts rest k

place_tells : Keeps nodes_of_place ReadsPlace
place_tells _ _ _ (grammar.default {ts} {rest} k) = keyword_tells _ ts rest k
place_tells _ _ _ (grammar.in_graph {ts} {rest} {n} r) = graph_tells ts n rest r
place_tells _ _ _ (grammar.name {ts} {rest} {n} r) = named_tells ts n rest r

transfer_tells : (ts : List Token) (how : Transfer) (rest : List Token) → ReadsTransfer ts how rest → Tells ts [] rest
transfer_tells _ _ _ (grammar.copy {ts} {rest} k) = keyword_tells _ ts rest k
transfer_tells _ _ _ (grammar.move {ts} {rest} k) = keyword_tells _ ts rest k
transfer_tells _ _ _ (grammar.add {ts} {rest} k) = keyword_tells _ ts rest k

with_tells : Keeps nodes_of_with ReadsWith
with_tells _ _ _ (grammar.with {ts} {r} {rest} {n} k name) = both (keyword_tells _ ts r k) (named_tells r n rest name)
with_tells _ _ _ (grammar.without {rest}) = nothing rest

change_tells : (ts : List Token) (xs ys : List Block) (rest : List Token) → ReadsChange ts xs ys rest → Tells ts (nodes_of_blocks xs ++ nodes_of_blocks ys) rest
change_tells _ _ _ _ (grammar.delete {ts} {r} {rest} {xs} k templates) = both (keyword_tells _ ts r k) (both (quads_tell r xs rest templates) (nothing rest))
change_tells _ _ _ _ (grammar.insert {ts} {r} {rest} {ys} k templates) = both (keyword_tells _ ts r k) (quads_tell r ys rest templates)
change_tells _ _ _ _ (grammar.both {ts} {r} {u} {v} {rest} {xs} {ys} k deleted l inserted) =
    both (keyword_tells _ ts r k) (both (quads_tell r xs u deleted) (both (keyword_tells _ u v l) (quads_tell v ys rest inserted)))

operation_tells : Keeps nodes_of_operation ReadsOperation
operation_tells _ _ _ (grammar.create {ts} {r} {u} {rest} {s} {n} k maybe name) = both (keyword_tells _ ts r k) (both (silent_tells r s u maybe) (graph_tells u n rest name))
operation_tells _ _ _ (grammar.drop {ts} {r} {u} {rest} {s} {t} k maybe target) = both (keyword_tells _ ts r k) (both (silent_tells r s u maybe) (target_tells u t rest target))
operation_tells _ _ _ (grammar.clear {ts} {r} {u} {rest} {s} {t} k maybe target) = both (keyword_tells _ ts r k) (both (silent_tells r s u maybe) (target_tells u t rest target))
operation_tells _ _ _ (grammar.transferred {ts} {r} {u} {v} {w} {rest} {how} {s} {from} {to} k maybe first l second) =
    both (transfer_tells ts how r k) (both (silent_tells r s u maybe) (both (place_tells u from v first) (both (keyword_tells _ v w l) (place_tells w to rest second))))
operation_tells _ _ _ (grammar.insert_data {ts} {r} {u} {rest} {xs} k l templates) = both (keyword_tells _ ts r k) (both (keyword_tells _ r u l) (quads_tell u xs rest templates))
operation_tells _ _ _ (grammar.delete_data {ts} {r} {u} {rest} {xs} k l templates) = both (keyword_tells _ ts r k) (both (keyword_tells _ r u l) (quads_tell u xs rest templates))
operation_tells _ _ _ (grammar.delete_where {ts} {r} {u} {rest} {xs} k l templates) = both (keyword_tells _ ts r k) (both (keyword_tells _ r u l) (quads_tell u xs rest templates))
operation_tells _ _ _ (grammar.modify {ts} {r} {u} {v} {rest} {with} {xs} {ys} {ps} name change k pattern) =
    both
    (subst (λ (ns : List Node). Tells ts ns u) (sym (append_assoc (nodes_of_with with) (nodes_of_blocks xs) (nodes_of_blocks ys))) (both (with_tells ts with r name) (change_tells r xs ys u change)))
    (both (keyword_tells _ u v k) (group_tells most_nested v ps rest pattern))

-- the labels of an operation are those of its tokens
pub labels_as_read : (tokens rest : List Token) (op : Operation) → ReadsOperation (tokens ++ rest) op rest → labels_of (nodes_of_operation op) ≡ labels_in tokens
labels_as_read tokens rest op r =
    append_cancel_right (labels_of (nodes_of_operation op)) (labels_in tokens) (labels_in rest) (sym (operation_tells (tokens ++ rest) op rest r).is ∙ filter_map-append token_label tokens rest)
