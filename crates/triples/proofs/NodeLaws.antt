-- Nodes: what is read is in the grammar, and what is in it is read.
use Rattle.std.proofs.Common.{◌≡◌, ℕ, true, List, [], ◌∷◌, Some, refl, sym, ap, ◌∙◌, subst, arith}
use Rattle.std.proofs.lemmas.Bool.{eqb-true}
use Rattle.std.proofs.lemmas.Option.{same_Some}
use Rattle.iris.proofs.Options.{bind_some, chosen}
use Rattle.lexer.specs.declared.token.Token.{Token}
use Rattle.lexer.specs.declared.token.Token.TheVariants as token
use Rattle.syntax_trees.specs.declared.tree.Node.{Node}
use Rattle.syntax_trees.specs.declared.tree.Node.TheVariants as node
use Rattle.productions.specs.Steps.{Production, Found, Takes, Again}
use Rattle.productions.specs.Names.{ReadsName, iri, prefixed, ReadsLiteral, plain, tagged, typed, integer, is_true, is_false}
use Rattle.productions.specs.Reading.{name_at, literal_at}
use Rattle.productions.proofs.NameLaws.{name_found, name_takes, literal_found, literal_takes, literal_again}
use Rattle.triples.specs.Reads.{ReadsNode, ReadsGraphName, ReadsVerb, ReadsObject, is_a}
use Rattle.triples.specs.Reads as reads
use Rattle.triples.specs.Reading.{named_at, node_at, graph_name_at, verb_at, value_at, object_at, begins_node, begins_verb, skip_semicolons}

-- what a production reads at the front of ts, seen at what was found
abbrev pub moved : {A : Type 0} (P : Production A) (ts : List Token) (x y : A × List Token) → Some x ≡ Some y → P ts x.0 x.1 → P ts y.0 y.1
moved {A} P ts x y e p = subst (λ (z : A × List Token). P ts z.0 z.1) (same_Some x y e) p

-- ---- what is read is in the grammar

named_found : (P : Production Node) (ts : List Token) (x : Node × List Token) → ((n : _) (rest : List Token) → ReadsName ts n rest → P ts (node.Name n) rest) → named_at ts ≡ Some x → P ts x.0 x.1
named_found P ts x name e =
    let n = bind_some (name_at ts) (λ n. Some (node.Name n.0, n.1)) x e in
    moved P ts (node.Name n.0.0, n.0.1) x n.2 (name n.0.0 n.0.1 (name_found ts n.0 n.1))

pub node_found : Found node_at ReadsNode
node_found (token.Variable v ∷ ts) x e = moved ReadsNode (token.Variable v ∷ ts) (node.Variable v, ts) x e reads.variable
node_found (token.Blank l ∷ ts) x e = moved ReadsNode (token.Blank l ∷ ts) (node.Blank l, ts) x e reads.blank
node_found ts x e = named_found ReadsNode ts x (λ n rest r. reads.name r) e

pub graph_name_found : Found graph_name_at ReadsGraphName
graph_name_found (token.Variable v ∷ ts) x e = moved ReadsGraphName (token.Variable v ∷ ts) (node.Variable v, ts) x e reads.variable
graph_name_found ts x e = named_found ReadsGraphName ts x (λ n rest r. reads.name r) e

pub a_is : (w : List ℕ) → is_a w ≡ true → w ≡ 97 ∷ []
a_is [] e = absurd cc
a_is (b ∷ []) e = ap (λ (x : ℕ). x ∷ []) (eqb-true b 97 e)
a_is (b ∷ c ∷ bs) e = absurd cc

pub verb_found : Found verb_at ReadsVerb
verb_found (token.Word w ∷ ts) x e =
    let g = chosen (is_a w) (Some (node.Type, ts)) x e in
    subst (λ (w : List ℕ). ReadsVerb (token.Word w ∷ ts) x.0 x.1) (sym (a_is w g.0)) (moved ReadsVerb (token.Word (97 ∷ []) ∷ ts) (node.Type, ts) x g.1 reads.type)
verb_found ts x e = reads.is_name (graph_name_found ts x e)

value_found : (ts : List Token) (x : Node × List Token) → value_at ts ≡ Some x → ReadsObject ts x.0 x.1
unfolding value_at
value_found ts x e =
    let l = bind_some (literal_at ts) (λ l. Some (node.Literal l.0, l.1)) x e in
    moved ReadsObject ts (node.Literal l.0.0, l.0.1) x l.2 (reads.literal (literal_found ts l.0 l.1))

pub object_found : Found object_at ReadsObject
object_found (token.Text s ∷ ts) x e = value_found (token.Text s ∷ ts) x e
object_found (token.Integer n ∷ ts) x e = value_found (token.Integer n ∷ ts) x e
object_found (token.Word w ∷ ts) x e = value_found (token.Word w ∷ ts) x e
object_found ts x e = reads.is_node (node_found ts x e)

-- ---- they take a token or more

pub node_takes : Takes ReadsNode
node_takes _ _ _ reads.variable = omega arith
node_takes _ _ _ reads.blank = omega arith
node_takes _ _ _ (reads.name {ts} {rest} {n} r) = name_takes ts n rest r

pub graph_name_takes : Takes ReadsGraphName
graph_name_takes _ _ _ reads.variable = omega arith
graph_name_takes _ _ _ (reads.name {ts} {rest} {n} r) = name_takes ts n rest r

pub verb_takes : Takes ReadsVerb
verb_takes _ _ _ (reads.is_name {ts} {rest} {x} r) = graph_name_takes ts x rest r
verb_takes _ _ _ reads.type = omega arith

pub object_takes : Takes ReadsObject
object_takes _ _ _ (reads.is_node {ts} {rest} {x} r) = node_takes ts x rest r
object_takes _ _ _ (reads.literal {ts} {rest} {l} r) = literal_takes ts l rest r

-- ---- what is in the grammar is read

pub node_again : Again node_at ReadsNode
node_again _ _ _ reads.variable = refl
node_again _ _ _ reads.blank = refl
node_again _ _ _ (reads.name iri) = refl
node_again _ _ _ (reads.name prefixed) = refl

pub graph_name_again : Again graph_name_at ReadsGraphName
graph_name_again _ _ _ reads.variable = refl
graph_name_again _ _ _ (reads.name iri) = refl
graph_name_again _ _ _ (reads.name prefixed) = refl

pub verb_again : Again verb_at ReadsVerb
verb_again _ _ _ (reads.is_name reads.variable) = refl
verb_again _ _ _ (reads.is_name (reads.name iri)) = refl
verb_again _ _ _ (reads.is_name (reads.name prefixed)) = refl
verb_again _ _ _ reads.type = refl

value_again : {ts rest : List Token} {l : _} → ReadsLiteral ts l rest → value_at ts ≡ Some (node.Literal l, rest)
unfolding value_at
value_again {ts} {rest} {l} r = rw (literal_again ts l rest r) refl

-- a literal is read as an object
values : {ts rest : List Token} {l : _} → ReadsLiteral ts l rest → object_at ts ≡ value_at ts
values (plain none) = refl
values tagged = refl
values (typed n) = refl
values integer = refl
values (is_true k) = refl
values (is_false k) = refl

pub object_again : Again object_at ReadsObject
object_again _ _ _ (reads.is_node reads.variable) = refl
object_again _ _ _ (reads.is_node reads.blank) = refl
object_again _ _ _ (reads.is_node (reads.name iri)) = refl
object_again _ _ _ (reads.is_node (reads.name prefixed)) = refl
object_again _ _ _ (reads.literal r) = values r ∙ value_again r

-- ---- how they begin

pub node_begins : {ts rest : List Token} {x : Node} → ReadsNode ts x rest → begins_node ts ≡ true
node_begins reads.variable = refl
node_begins reads.blank = refl
node_begins (reads.name iri) = refl
node_begins (reads.name prefixed) = refl

pub verb_begins : {ts rest : List Token} {x : Node} → ReadsVerb ts x rest → (begins_verb ts ≡ true) × (skip_semicolons ts ≡ ts)
verb_begins (reads.is_name reads.variable) = (refl, refl)
verb_begins (reads.is_name (reads.name iri)) = (refl, refl)
verb_begins (reads.is_name (reads.name prefixed)) = (refl, refl)
verb_begins reads.type = (refl, refl)
