-- No production but that of a step takes a `;` outside braces.
use Rattle.std.proofs.Common.{◌≡◌, ℕ, zero, suc, ◌+◌, ◌-◌, Bool, true, false, List, [], ◌∷◌, ◌++◌, Some, refl, sym, ap, ◌∙◌, arith, cond, eqb, add-one, ne_eqb}
use Rattle.std.specs.Prelude.{codes}
use Rattle.lexer.specs.declared.token.Token.{Token}
use Rattle.lexer.specs.declared.token.Token.TheVariants as token
use Rattle.lexer.specs.declared.token.Sign.TheVariants as signs
use Rattle.lexer.specs.Ends.{after_end}
use Rattle.syntax_trees.specs.declared.expression.Operator.{Operator}
use Rattle.syntax_trees.specs.Expressions.{Tree}
use Rattle.syntax_trees.specs.Groups.{Part}
use Rattle.syntax_trees.specs.declared.tree.Block.{Block}
use Rattle.productions.specs.Steps.{Production}
use Rattle.productions.specs.Keywords.{ReadsKeyword, keyword}
use Rattle.productions.specs.Many.{Many, last, next}
use Rattle.productions.specs.Names.{ReadsName, iri, prefixed, ReadsLiteral, plain, tagged, typed, integer, is_true, is_false}
use Rattle.triples.specs.Reads.{ReadsNode, ReadsGraphName, ReadsVerb, ReadsObject, ObjectLink, ReadsProperty, PropertyLink, ReadsSame, TripleLink, ReadsTriples, ReadsMaybeTriples, ReadsMaybeDot, ReadsGraphBlock, ReadsBlocks, ReadsQuads}
use Rattle.triples.specs.Reads as triples
use Rattle.expressions.specs.Operators.{operator_of}
use Rattle.expressions.specs.Grammar.{ReadsCall, ReadsPrimary, ReadsNot, ReadsMore, ReadsChain, ReadsOnce, ReadsExpression, ReadsConstraint}
use Rattle.expressions.specs.Grammar as expressions
use Rattle.groups.specs.Reads.{ReadsFront, UnionLink, ReadsPart, ReadsParts, ReadsBraces, ReadsGroup}
use Rattle.groups.specs.Reads as groups
use Rattle.grammar.specs.Reads.{ReadsSilent, ReadsGraph, ReadsTarget, ReadsPlace, ReadsTransfer, ReadsWith, ReadsChange, ReadsOperation, most_nested}
use Rattle.grammar.specs.Reads as reads

-- the first end behind the tokens ts is that behind rest, where so many braces are open
abbrev pub Same : ℕ → List Token → List Token → Type 0
Same n ts rest = after_end n ts ≡ after_end n rest

-- a production takes no end, inside braces or anywhere
abbrev pub Inside : {A : Type 0} → Production A → Type 0
Inside {A} P = (n : ℕ) (ts : List Token) (x : A) (rest : List Token) → P ts x rest → Same (suc n) ts rest

abbrev pub Anywhere : {A : Type 0} → Production A → Type 0
Anywhere {A} P = (n : ℕ) (ts : List Token) (x : A) (rest : List Token) → P ts x rest → Same n ts rest

-- ---- signs

opens : (n : ℕ) (ts : List Token) → after_end n (token.Sign signs.OpenBrace ∷ ts) ≡ after_end (suc n) ts
opens n ts = ap (λ m. after_end m ts) (add-one n)

closes : (n : ℕ) (ts : List Token) → after_end (suc n) (token.Sign signs.CloseBrace ∷ ts) ≡ after_end n ts
closes n ts = ap (λ m. after_end m ts) (let less : suc n - 1 ≡ n = omega arith in less)

semicolon : (n : ℕ) (ts : List Token) → Same (suc n) (token.Sign signs.Semicolon ∷ ts) ts
semicolon n ts = ap (λ b. cond b ts (after_end (suc n) ts)) (ne_eqb (suc n) 0 (λ e. omega arith))

operator_passes : (n : ℕ) (t : Token) (o : Operator) (ts : List Token) → operator_of t ≡ Some o → Same n (t ∷ ts) ts
operator_passes n (token.Sign signs.Semicolon) o ts e = absurd cc
operator_passes n (token.Sign signs.OpenBrace) o ts e = absurd cc
operator_passes n (token.Sign signs.CloseBrace) o ts e = absurd cc
operator_passes n t o ts e = refl

-- ---- words, names and literals

keyword_passes : (k : List ℕ) (n : ℕ) (ts rest : List Token) → ReadsKeyword k ts rest → Same n ts rest
keyword_passes k n _ _ (keyword is) = refl

name_passes : Anywhere ReadsName
name_passes n _ _ _ iri = refl
name_passes n _ _ _ prefixed = refl

literal_passes : Anywhere ReadsLiteral
literal_passes n _ _ _ (plain unsuffixed) = refl
literal_passes n _ _ _ tagged = refl
literal_passes n _ _ _ (typed {s} {ts} {rest} {d} r) = name_passes n ts d rest r
literal_passes n _ _ _ integer = refl
literal_passes n _ _ _ (is_true k) = refl
literal_passes n _ _ _ (is_false k) = refl

many_passes : {A : Type 0} (Item : Production A) (Link : Production Bool) → Inside Item → Inside Link → Inside (Many Item Link)
many_passes Item Link item link n _ _ _ (last {ts} {r} {s} {x} i l) = item n ts x r i ∙ link n r false s l
many_passes Item Link item link n _ _ _ (next {ts} {r} {u} {s} {x} {xs} i l m) = item n ts x r i ∙ link n r true u l ∙ many_passes Item Link item link n u xs s m

-- ---- triples and quads

node_passes : Inside ReadsNode
node_passes n _ _ _ triples.variable = refl
node_passes n _ _ _ triples.blank = refl
node_passes n _ _ _ (triples.name {ts} {rest} {n = x} r) = name_passes (suc n) ts x rest r

graph_name_passes : Anywhere ReadsGraphName
graph_name_passes n _ _ _ triples.variable = refl
graph_name_passes n _ _ _ (triples.name {ts} {rest} {n = x} r) = name_passes n ts x rest r

verb_passes : Inside ReadsVerb
verb_passes n _ _ _ (triples.is_name {ts} {rest} {x} r) = graph_name_passes (suc n) ts x rest r
verb_passes n _ _ _ triples.type = refl

object_passes : Inside ReadsObject
object_passes n _ _ _ (triples.is_node {ts} {rest} {x} r) = node_passes n ts x rest r
object_passes n _ _ _ (triples.literal {ts} {rest} {l} r) = literal_passes (suc n) ts l rest r

object_link_passes : Inside ObjectLink
object_link_passes n _ _ _ triples.comma = refl
object_link_passes n _ _ _ triples.no_comma = refl

property_passes : Inside ReadsProperty
property_passes n _ _ _ (triples.property {ts} {r} {s} {v} {os} verb objects) = verb_passes n ts v r verb ∙ many_passes ReadsObject ObjectLink object_passes object_link_passes n r os s objects

property_link_passes : Inside PropertyLink
property_link_passes n _ _ _ (triples.semicolon {rest}) = semicolon n rest
property_link_passes n _ _ _ (triples.again {rest} {s} {b} l) = semicolon n rest ∙ property_link_passes n rest b s l
property_link_passes n _ _ _ triples.no_semicolon = refl

same_passes : Inside ReadsSame
same_passes n _ _ _ (triples.same {ts} {r} {s} {x} {ps} subject properties) = node_passes n ts x r subject ∙ many_passes ReadsProperty PropertyLink property_passes property_link_passes n r ps s properties

triple_link_passes : Inside TripleLink
triple_link_passes n _ _ _ triples.dot = refl
triple_link_passes n _ _ _ triples.last_dot = refl
triple_link_passes n _ _ _ triples.no_dot = refl

triples_passes : Inside ReadsTriples
triples_passes = many_passes ReadsSame TripleLink same_passes triple_link_passes

maybe_passes : Inside ReadsMaybeTriples
maybe_passes n _ _ _ triples.none = refl
maybe_passes n _ _ _ (triples.some {ts} {rest} {xs} m) = triples_passes n ts xs rest m

dot_passes : (n : ℕ) (ts rest : List Token) → ReadsMaybeDot ts rest → Same n ts rest
dot_passes n _ _ triples.dot = refl
dot_passes n _ _ triples.no_dot = refl

block_passes : Inside ReadsGraphBlock
block_passes n _ _ _ (triples.block {ts} {r} {u} {rest} {g} {xs} graph_name inside last_dot) =
    graph_name_passes (suc n) ts g (token.Sign signs.OpenBrace ∷ r) graph_name ∙ opens (suc n) r
    ∙ maybe_passes (suc n) r xs (token.Sign signs.CloseBrace ∷ u) inside ∙ closes (suc n) u ∙ dot_passes (suc n) u rest last_dot

-- the brace that ends blocks closes one that is open before them
blocks_pass : (n : ℕ) (ts : List Token) (bs : List Block) (rest : List Token) → ReadsBlocks ts bs rest → after_end (suc n) ts ≡ after_end n rest
blocks_pass n _ _ _ (triples.close {rest}) = closes n rest
blocks_pass n _ _ _ (triples.graph {ts} {r} {u} {v} {rest} {b} {xs} {later} word first after more) =
    keyword_passes (codes "GRAPH") (suc n) ts r word ∙ block_passes n r b u first ∙ maybe_passes n u xs v after ∙ blocks_pass n v later rest more

quads_passes : Anywhere ReadsQuads
quads_passes n _ _ _ (triples.quads {ts} {r} {rest} {xs} {later} first more) = opens n ts ∙ maybe_passes n ts xs r first ∙ blocks_pass n r later rest more

-- ---- expressions

module _ (n : ℕ) (Inner : Production Tree) (inner : Inside Inner) where
  call_passes : Inside (ReadsCall n Inner)
  call_passes m _ _ _ (expressions.bound k deep) = refl
  call_passes m _ _ _ (expressions.one {w} {ts} {rest} {f} {e} k i) = inner m ts e (token.Sign signs.CloseParen ∷ rest) i
  call_passes m _ _ _ (expressions.two {w} {ts} {us} {rest} {f} {d} {e} k i j) = inner m ts d (token.Sign signs.Comma ∷ us) i ∙ inner m us e (token.Sign signs.CloseParen ∷ rest) j

  primary_passes : Inside (ReadsPrimary n Inner)
  primary_passes m _ _ _ (expressions.parens {ts} {rest} {e} i) = inner m ts e (token.Sign signs.CloseParen ∷ rest) i
  primary_passes m _ _ _ (expressions.called {ts} {rest} {e} c) = call_passes m ts e rest c
  primary_passes m _ _ _ (expressions.named {ts} {rest} {x} r) = name_passes (suc m) ts x rest r
  primary_passes m _ _ _ (expressions.quoted {ts} {rest} {x} r) = literal_passes (suc m) ts x rest r
  primary_passes m _ _ _ expressions.variable = refl

  not_passes : Inside (ReadsNot n Inner)
  not_passes m _ _ _ (expressions.plain {ts} {rest} {e} r) = primary_passes m ts e rest r
  not_passes m _ _ _ (expressions.negated {ts} {rest} {e} r) = primary_passes m ts e rest r

module _ (Item : Production Tree) (r : ℕ) (item : Inside Item) where
  more_passes : (m : ℕ) (ts : List Token) (e f : Tree) (rest : List Token) → ReadsMore Item r ts e f rest → Same (suc m) ts rest
  more_passes m _ _ _ _ expressions.done = refl
  more_passes m _ _ _ _ (expressions.more {t} {ts} {us} {rest} {o} {e} {f} {g} is i others) = operator_passes (suc m) t o ts is.is ∙ item m ts f us i ∙ more_passes m us _ g rest others

  chain_passes : Inside (ReadsChain Item r)
  chain_passes m _ _ _ (expressions.chain {ts} {us} {rest} {e} {f} i others) = item m ts e us i ∙ more_passes m us e f rest others

  once_passes : Inside (ReadsOnce Item r)
  once_passes m _ _ _ (expressions.alone {ts} {rest} {e} i) = item m ts e rest i
  once_passes m _ _ _ (expressions.pair {t} {ts} {us} {rest} {o} {e} {f} i is j) = item m ts e (t ∷ us) i ∙ operator_passes (suc m) t o us is.is ∙ item m us f rest j

expression_passes : (n : ℕ) → Inside (ReadsExpression n)
unfolding ReadsExpression
expression_passes zero m ts x rest i = absurd i
expression_passes (suc n) m ts x rest i =
    chain_passes _ _ (chain_passes _ _ (once_passes _ _ (chain_passes _ _ (chain_passes _ _ (not_passes n (ReadsExpression n) (expression_passes n)))))) m ts x rest i

constraint_passes : (n : ℕ) → Inside (ReadsConstraint n)
constraint_passes n m _ _ _ (expressions.bracketed {ts} {rest} {e} i) = expression_passes n m ts e (token.Sign signs.CloseParen ∷ rest) i
constraint_passes n m _ _ _ (expressions.call {ts} {rest} {e} c) = call_passes n (ReadsExpression n) (expression_passes n) m ts e rest c

-- ---- groups

front_passes : Inside ReadsFront
front_passes n _ _ _ (groups.triples {ts} {rest} {xs} r free) = triples_passes n ts xs rest r
front_passes n _ _ _ groups.no_triples = refl

union_link_passes : Inside UnionLink
union_link_passes n _ _ _ (groups.or_group k) = refl
union_link_passes n _ _ _ groups.no_union = refl

module _ (n : ℕ) (Inner : Production (List Part)) (inner : Anywhere Inner) where
  part_passes : Inside (ReadsPart n Inner)
  part_passes m _ _ _ (groups.union {ts} {rest} {gs} is) = many_passes Inner UnionLink (λ m. inner (suc m)) union_link_passes m ts gs rest is
  part_passes m _ _ _ (groups.optional {w} {ts} {rest} {g} k i) = inner (suc m) ts g rest i
  part_passes m _ _ _ (groups.minus {w} {ts} {rest} {g} k i) = inner (suc m) ts g rest i
  part_passes m _ _ _ (groups.in_graph {w} {ts} {r} {rest} {x} {g} k graph_name i) = graph_name_passes (suc m) ts x r graph_name ∙ inner (suc m) r g rest i
  part_passes m _ _ _ (groups.filter {w} {ts} {rest} {e} k c) = constraint_passes n m ts e rest c

  parts_pass : (m : ℕ) (ts : List Token) (ps : List Part) (rest : List Token) → ReadsParts n Inner ts ps rest → after_end (suc m) ts ≡ after_end m rest
  parts_pass m _ _ _ (groups.close {rest}) = closes m rest
  parts_pass m _ _ _ (groups.part {ts} {r} {u} {v} {rest} {p} xs ps i d f more) =
      part_passes m ts p r i ∙ dot_passes (suc m) r u d ∙ front_passes m u xs v f ∙ parts_pass m v ps rest more

  braces_pass : Anywhere (ReadsBraces n Inner)
  braces_pass m _ _ _ (groups.braces {ts} {r} {rest} xs ps f more) = opens m ts ∙ front_passes m ts xs r f ∙ parts_pass m r ps rest more

group_passes : (n : ℕ) → Anywhere (ReadsGroup n)
unfolding ReadsGroup
group_passes zero m ts x rest i = absurd i
group_passes (suc n) m ts x rest i = braces_pass n (ReadsGroup n) (group_passes n) m ts x rest i

-- ---- operations

silent_passes : (n : ℕ) (ts : List Token) (s : Bool) (rest : List Token) → ReadsSilent ts s rest → Same n ts rest
silent_passes n _ _ _ (reads.silent {ts} {rest} word) = keyword_passes (codes "SILENT") n ts rest word
silent_passes n _ _ _ reads.not_silent = refl

graph_passes : Anywhere ReadsGraph
graph_passes n _ _ _ (reads.graph {ts} {r} {rest} {n = x} word named) = keyword_passes (codes "GRAPH") n ts r word ∙ name_passes n r x rest named

target_passes : Anywhere ReadsTarget
target_passes n _ _ _ (reads.in_graph {ts} {rest} {n = x} g) = graph_passes n ts x rest g
target_passes n _ _ _ (reads.default {ts} {rest} word) = keyword_passes (codes "DEFAULT") n ts rest word
target_passes n _ _ _ (reads.named {ts} {rest} word) = keyword_passes (codes "NAMED") n ts rest word
target_passes n _ _ _ (reads.all {ts} {rest} word) = keyword_passes (codes "ALL") n ts rest word

place_passes : Anywhere ReadsPlace
place_passes n _ _ _ (reads.default {ts} {rest} word) = keyword_passes (codes "DEFAULT") n ts rest word
place_passes n _ _ _ (reads.in_graph {ts} {rest} {n = x} g) = graph_passes n ts x rest g
place_passes n _ _ _ (reads.name {ts} {rest} {n = x} named) = name_passes n ts x rest named

transfer_passes : Anywhere ReadsTransfer
transfer_passes n _ _ _ (reads.copy {ts} {rest} word) = keyword_passes (codes "COPY") n ts rest word
transfer_passes n _ _ _ (reads.move {ts} {rest} word) = keyword_passes (codes "MOVE") n ts rest word
transfer_passes n _ _ _ (reads.add {ts} {rest} word) = keyword_passes (codes "ADD") n ts rest word

with_passes : Anywhere ReadsWith
with_passes n _ _ _ (reads.with {ts} {r} {rest} {n = x} word named) = keyword_passes (codes "WITH") n ts r word ∙ name_passes n r x rest named
with_passes n _ _ _ reads.without = refl

change_passes : (n : ℕ) (ts : List Token) (xs ys : List Block) (rest : List Token) → ReadsChange ts xs ys rest → Same n ts rest
change_passes n _ _ _ _ (reads.delete {ts} {r} {rest} {xs} word is) = keyword_passes (codes "DELETE") n ts r word ∙ quads_passes n r xs rest is
change_passes n _ _ _ _ (reads.insert {ts} {r} {rest} {ys} word is) = keyword_passes (codes "INSERT") n ts r word ∙ quads_passes n r ys rest is
change_passes n _ _ _ _ (reads.both {ts} {r} {u} {v} {rest} {xs} {ys} word is insert more) =
    keyword_passes (codes "DELETE") n ts r word ∙ quads_passes n r xs u is ∙ keyword_passes (codes "INSERT") n u v insert ∙ quads_passes n v ys rest more

pub operation_passes : Anywhere ReadsOperation
operation_passes n _ _ _ (reads.create {ts} {r} {u} {rest} {s} {n = x} word said g) = keyword_passes (codes "CREATE") n ts r word ∙ silent_passes n r s u said ∙ graph_passes n u x rest g
operation_passes n _ _ _ (reads.drop {ts} {r} {u} {rest} {s} {t} word said g) = keyword_passes (codes "DROP") n ts r word ∙ silent_passes n r s u said ∙ target_passes n u t rest g
operation_passes n _ _ _ (reads.clear {ts} {r} {u} {rest} {s} {t} word said g) = keyword_passes (codes "CLEAR") n ts r word ∙ silent_passes n r s u said ∙ target_passes n u t rest g
operation_passes n _ _ _ (reads.transferred {ts} {r} {u} {v} {w} {rest} {how} {s} {from} {to} word said aim between end) =
    transfer_passes n ts how r word ∙ silent_passes n r s u said ∙ place_passes n u from v aim ∙ keyword_passes (codes "TO") n v w between ∙ place_passes n w to rest end
operation_passes n _ _ _ (reads.insert_data {ts} {r} {u} {rest} {xs} word second is) = keyword_passes (codes "INSERT") n ts r word ∙ keyword_passes (codes "DATA") n r u second ∙ quads_passes n u xs rest is
operation_passes n _ _ _ (reads.delete_data {ts} {r} {u} {rest} {xs} word second is) = keyword_passes (codes "DELETE") n ts r word ∙ keyword_passes (codes "DATA") n r u second ∙ quads_passes n u xs rest is
operation_passes n _ _ _ (reads.delete_where {ts} {r} {u} {rest} {xs} word second is) = keyword_passes (codes "DELETE") n ts r word ∙ keyword_passes (codes "WHERE") n r u second ∙ quads_passes n u xs rest is
operation_passes n _ _ _ (reads.modify {ts} {r} {u} {v} {rest} {with} {xs} {ys} {ps} in_graph change where_word is) =
    with_passes n ts with r in_graph ∙ change_passes n r xs ys u change ∙ keyword_passes (codes "WHERE") n u v where_word ∙ group_passes most_nested n v ps rest is
