-- No blank node stands in a group that is read.
use Rattle.std.proofs.Common.{◌≡◌, ℕ, zero, suc, true, false, not, List, [], ◌∷◌, map, refl}
use Rattle.std.proofs.lemmas.Bool.{false≢true, and_parts}
use Rattle.std.specs.List.{AllByRecursion, flat_map, list_all}
use Rattle.sets.proofs.Every.{all_joined}
use Rattle.lexer.specs.declared.token.Token.{Token}
use Rattle.lexer.specs.declared.token.Token.TheVariants as token
use Rattle.lexer.specs.declared.token.Sign.TheVariants as signs
use Rattle.syntax_trees.specs.declared.tree.Node.{Node}
use Rattle.syntax_trees.specs.declared.tree.Node.TheVariants as node
use Rattle.syntax_trees.specs.declared.tree.Property.{Property}
use Rattle.syntax_trees.specs.declared.tree.SameSubject.{SameSubject}
use Rattle.syntax_trees.specs.Expressions.{Tree}
use Rattle.syntax_trees.specs.Groups.{Part, group, groups}
use Rattle.productions.specs.Steps.{Production}
use Rattle.productions.specs.Many.{Many, last, next}
use Rattle.expressions.specs.Grammar.{ReadsCall, bound, one, two, ReadsPrimary, parens, called, named, quoted, variable, ReadsNot, plain, negated, ReadsMore, done, more, ReadsChain, chain, ReadsOnce, alone, pair, ReadsProduct, ReadsSum, ReadsRelation, ReadsAnd, ReadsOr, ReadsExpression, ReadsConstraint, bracketed, call}
use Rattle.triples.specs.Reads as reads
use Rattle.triples.specs.Reads.{ReadsGraphName, ReadsVerb, ReadsProperty, property, PropertyLink, ReadsSame, same, TripleLink, ReadsTriples}
use Rattle.groups.specs.Reads.{is_label, property_unlabelled, are_properties_unlabelled, same_unlabelled, are_unlabelled, ReadsFront, triples, no_triples, UnionLink, ReadsPart, union, optional, minus, in_graph, filter, ReadsParts, close, part, ReadsBraces, braces, ReadsGroup}
use Rattle.faults.specs.Faults.{is_blank}
use Rattle.nodes.specs.Nodes.{nodes_of_property, nodes_of_subject, nodes_of_triples, nodes_of_tree, nodes_of_part, nodes_of_parts, nodes_of_groups}

abbrev pub IsUnblank : Node → Type 0
IsUnblank n = is_blank n ≡ false

abbrev pub AreUnblank : List Node → Type 0
AreUnblank = AllByRecursion IsUnblank

-- all that a production reads is so
abbrev Keeps : {A : Type 0} → (A → Type 0) → Production A → Type 0
Keeps {A} Q P = (ts : List Token) (x : A) (rest : List Token) → P ts x rest → Q x

-- ---- triples

graph_name_unblank : Keeps IsUnblank ReadsGraphName
graph_name_unblank _ _ _ reads.variable = refl
graph_name_unblank _ _ _ (reads.name r) = refl

verb_unblank : Keeps IsUnblank ReadsVerb
verb_unblank _ _ _ (reads.is_name {ts} {rest} {x} r) = graph_name_unblank ts x rest r
verb_unblank _ _ _ reads.type = refl

node_unblank : (n : Node) → not (is_label n) ≡ true → IsUnblank n
node_unblank (node.Name n) e = refl
node_unblank node.Type e = refl
node_unblank (node.Variable v) e = refl
node_unblank (node.Blank l) e = absurd (false≢true e)
node_unblank (node.Literal l) e = refl

objects_unblank : (ns : List Node) → list_all (λ x. not (is_label x)) ns ≡ true → AreUnblank ns
objects_unblank [] e = tt
objects_unblank (n ∷ ns) e =
    let h = and_parts (not (is_label n)) (list_all (λ x. not (is_label x)) ns) e in
    (node_unblank n h.0, objects_unblank ns h.1)

abbrev PropertyUnblank : Property → Type 0
PropertyUnblank p = property_unlabelled p ≡ true → AreUnblank (nodes_of_property p)

property_unblank : Keeps PropertyUnblank ReadsProperty
property_unblank _ _ _ (property {ts} {r} {s} {v} {os} verb objects) = λ e. (verb_unblank ts v r verb, objects_unblank os e)

abbrev PropertiesUnblank : List Property → Type 0
PropertiesUnblank ps = are_properties_unlabelled ps ≡ true → AreUnblank (flat_map nodes_of_property ps)

properties_unblank : Keeps PropertiesUnblank (Many ReadsProperty PropertyLink)
properties_unblank _ _ _ (last {ts} {r} {s} {x} i l) = λ e.
    let h = and_parts (property_unlabelled x) true e in
    all_joined IsUnblank (nodes_of_property x) [] (property_unblank ts x r i h.0) tt
properties_unblank _ _ _ (next {ts} {r} {u} {s} {x} {xs} i l m) = λ e.
    let h = and_parts (property_unlabelled x) (are_properties_unlabelled xs) e in
    all_joined IsUnblank (nodes_of_property x) (flat_map nodes_of_property xs) (property_unblank ts x r i h.0) (properties_unblank u xs s m h.1)

abbrev SameUnblank : SameSubject → Type 0
SameUnblank x = same_unlabelled x ≡ true → AreUnblank (nodes_of_subject x)

same_unblank : Keeps SameUnblank ReadsSame
same_unblank _ _ _ (same {ts} {r} {s} {x} {ps} subject properties) = λ e.
    let h = and_parts (not (is_label x)) (are_properties_unlabelled ps) e in
    (node_unblank x h.0, properties_unblank r ps s properties h.1)

abbrev TriplesUnblank : List SameSubject → Type 0
TriplesUnblank xs = are_unlabelled xs ≡ true → AreUnblank (nodes_of_triples xs)

triples_unblank : Keeps TriplesUnblank (Many ReadsSame TripleLink)
triples_unblank _ _ _ (last {ts} {r} {s} {x} i l) = λ e.
    let h = and_parts (same_unlabelled x) true e in
    all_joined IsUnblank (nodes_of_subject x) [] (same_unblank ts x r i h.0) tt
triples_unblank _ _ _ (next {ts} {r} {u} {s} {x} {xs} i l m) = λ e.
    let h = and_parts (same_unlabelled x) (are_unlabelled xs) e in
    all_joined IsUnblank (nodes_of_subject x) (nodes_of_triples xs) (same_unblank ts x r i h.0) (triples_unblank u xs s m h.1)

-- ---- expressions

abbrev TreeUnblank : Tree → Type 0
TreeUnblank e = AreUnblank (nodes_of_tree e)

module _ (n : ℕ) (Inner : Production Tree) (inner : Keeps TreeUnblank Inner) where
  call_unblank : Keeps TreeUnblank (ReadsCall n Inner)
  call_unblank _ _ _ (bound k deep) = (refl, tt)
  call_unblank _ _ _ (one {w} {ts} {rest} {f} {e} k i) = inner ts e (token.Sign signs.CloseParen ∷ rest) i
  call_unblank _ _ _ (two {w} {ts} {us} {rest} {f} {d} {e} k i j) =
      all_joined IsUnblank (nodes_of_tree d) (nodes_of_tree e) (inner ts d (token.Sign signs.Comma ∷ us) i) (inner us e (token.Sign signs.CloseParen ∷ rest) j)

  primary_unblank : Keeps TreeUnblank (ReadsPrimary n Inner)
  primary_unblank _ _ _ (parens {ts} {rest} {e} i) = inner ts e (token.Sign signs.CloseParen ∷ rest) i
  primary_unblank _ _ _ (called {ts} {rest} {e} c) = call_unblank ts e rest c
  primary_unblank _ _ _ (named m) = (refl, tt)
  primary_unblank _ _ _ (quoted m) = (refl, tt)
  primary_unblank _ _ _ variable = (refl, tt)

  not_unblank : Keeps TreeUnblank (ReadsNot n Inner)
  not_unblank _ _ _ (plain {ts} {rest} {e} p) = primary_unblank ts e rest p
  not_unblank _ _ _ (negated {ts} {rest} {e} p) = primary_unblank ts e rest p

module _ (Item : Production Tree) (r : ℕ) (item : Keeps TreeUnblank Item) where
  more_unblank : {ts rest : List Token} {e f : Tree} → ReadsMore Item r ts e f rest → TreeUnblank e → TreeUnblank f
  more_unblank done h = h
  more_unblank (more {t} {ts} {us} {rest} {o} {e} {f} {g} is i m) h = more_unblank m (all_joined IsUnblank (nodes_of_tree e) (nodes_of_tree f) h (item ts f us i))

  chain_unblank : Keeps TreeUnblank (ReadsChain Item r)
  chain_unblank _ _ _ (chain {ts} {us} {rest} {e} {f} i m) = more_unblank m (item ts e us i)

  once_unblank : Keeps TreeUnblank (ReadsOnce Item r)
  once_unblank _ _ _ (alone {ts} {rest} {e} i) = item ts e rest i
  once_unblank _ _ _ (pair {t} {ts} {us} {rest} {o} {e} {f} i is j) = all_joined IsUnblank (nodes_of_tree e) (nodes_of_tree f) (item ts e (t ∷ us) i) (item us f rest j)

or_unblank : (n : ℕ) (Inner : Production Tree) → Keeps TreeUnblank Inner → Keeps TreeUnblank (ReadsOr n Inner)
or_unblank n Inner inner =
    chain_unblank (ReadsAnd n Inner) 1 (chain_unblank (ReadsRelation n Inner) 2 (once_unblank (ReadsSum n Inner) 3 (chain_unblank (ReadsProduct n Inner) 4
    (chain_unblank (ReadsNot n Inner) 5 (not_unblank n Inner inner)))))

expression_unblank : (n : ℕ) → Keeps TreeUnblank (ReadsExpression n)
unfolding ReadsExpression
expression_unblank zero ts e rest i = absurd i
expression_unblank (suc n) ts e rest i = or_unblank n (ReadsExpression n) (expression_unblank n) ts e rest i

constraint_unblank : (n : ℕ) → Keeps TreeUnblank (ReadsConstraint n)
constraint_unblank n _ _ _ (bracketed {ts} {rest} {e} i) = expression_unblank n ts e (token.Sign signs.CloseParen ∷ rest) i
constraint_unblank n _ _ _ (call {ts} {rest} {e} c) = call_unblank n (ReadsExpression n) (expression_unblank n) ts e rest c

-- ---- groups

abbrev PartUnblank : Part → Type 0
PartUnblank p = AreUnblank (nodes_of_part p)

abbrev PartsUnblank : List Part → Type 0
PartsUnblank = AllByRecursion PartUnblank

group_nodes : (ps : List Part) → PartsUnblank ps → AreUnblank (nodes_of_parts (group ps))
group_nodes [] h = tt
group_nodes (p ∷ ps) h = all_joined IsUnblank (nodes_of_part p) (nodes_of_parts (group ps)) h.0 (group_nodes ps h.1)

front_unblank : Keeps PartsUnblank ReadsFront
front_unblank _ _ _ (triples {ts} {rest} {xs} r e) = (triples_unblank ts xs rest r e, tt)
front_unblank _ _ _ no_triples = tt

module _ (n : ℕ) (Inner : Production (List Part)) (inner : Keeps PartsUnblank Inner) where
  groups_unblank : (ts : List Token) (gs : List (List Part)) (rest : List Token) → Many Inner UnionLink ts gs rest → AreUnblank (nodes_of_groups (groups (map group gs)))
  groups_unblank _ _ _ (last {ts} {r} {s} {x = g} i l) = all_joined IsUnblank (nodes_of_parts (group g)) [] (group_nodes g (inner ts g r i)) tt
  groups_unblank _ _ _ (next {ts} {r} {u} {s} {x = g} {xs = gs} i l m) =
      all_joined IsUnblank (nodes_of_parts (group g)) (nodes_of_groups (groups (map group gs))) (group_nodes g (inner ts g r i)) (groups_unblank u gs s m)

  part_unblank : Keeps PartUnblank (ReadsPart n Inner)
  part_unblank _ _ _ (union {ts} {rest} {gs} m) = groups_unblank ts gs rest m
  part_unblank _ _ _ (optional {w} {ts} {rest} {g} k i) = group_nodes g (inner ts g rest i)
  part_unblank _ _ _ (minus {w} {ts} {rest} {g} k i) = group_nodes g (inner ts g rest i)
  part_unblank _ _ _ (in_graph {w} {ts} {r} {rest} {x} {g} k graph i) = (graph_name_unblank ts x r graph, group_nodes g (inner r g rest i))
  part_unblank _ _ _ (filter {w} {ts} {rest} {e} k c) = constraint_unblank n ts e rest c

  parts_unblank : Keeps PartsUnblank (ReadsParts n Inner)
  parts_unblank _ _ _ close = tt
  parts_unblank _ _ _ (part {ts} {r} {u} {v} {rest} {p} xs ps i d f m) =
      (part_unblank ts p r i, all_joined PartUnblank xs ps (front_unblank u xs v f) (parts_unblank v ps rest m))

  braces_unblank : Keeps PartsUnblank (ReadsBraces n Inner)
  braces_unblank _ _ _ (braces {ts} {r} {rest} xs ps f m) = all_joined PartUnblank xs ps (front_unblank ts xs r f) (parts_unblank r ps rest m)

parts_of_group_unblank : (n : ℕ) → Keeps PartsUnblank (ReadsGroup n)
unfolding ReadsGroup
parts_of_group_unblank zero ts ps rest i = absurd i
parts_of_group_unblank (suc n) ts ps rest i = braces_unblank n (ReadsGroup n) (parts_of_group_unblank n) ts ps rest i

pub group_unblank : (n : ℕ) (ts : List Token) (ps : List Part) (rest : List Token) → ReadsGroup n ts ps rest → AreUnblank (nodes_of_parts (group ps))
group_unblank n ts ps rest i = group_nodes ps (parts_of_group_unblank n ts ps rest i)
