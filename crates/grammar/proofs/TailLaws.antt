-- What a production reads at the front of tokens, it reads whatever follows.
use Rattle.std.proofs.Common.{◌≡◌, ℕ, zero, suc, Bool, true, false, List, [], ◌∷◌, ◌++◌, map, refl, ap}
use Rattle.std.specs.Prelude.{codes}
use Rattle.lexer.specs.declared.token.Token.{Token}
use Rattle.lexer.specs.declared.token.Token.TheVariants as token
use Rattle.lexer.specs.declared.token.Sign.TheVariants as signs
use Rattle.syntax_trees.specs.Expressions.{Tree}
use Rattle.syntax_trees.specs.Groups.{Part}
use Rattle.productions.specs.Steps.{Production}
use Rattle.productions.specs.Keywords.{ReadsKeyword, keyword}
use Rattle.productions.specs.Many.{Many, last, next}
use Rattle.productions.specs.Names.{ReadsName, iri, prefixed, ReadsLiteral, plain, tagged, typed, integer, is_true, is_false, NoSuffix}
use Rattle.triples.specs.Reads.{ReadsNode, ReadsGraphName, ReadsVerb, ReadsObject, ObjectLink, ReadsObjects, ReadsProperty, PropertyLink, ReadsProperties, ReadsSame, TripleLink, ReadsTriples, ReadsMaybeTriples, ReadsMaybeDot, ReadsGraphBlock, ReadsBlocks, ReadsQuads}
use Rattle.triples.specs.Reads as triples
use Rattle.expressions.specs.Grammar.{ReadsCall, ReadsPrimary, ReadsNot, ReadsMore, ReadsChain, ReadsOnce, ReadsExpression, ReadsConstraint}
use Rattle.expressions.specs.Grammar as expressions
use Rattle.groups.specs.Reads.{ReadsFront, UnionLink, ReadsPart, ReadsParts, ReadsBraces, ReadsGroup}
use Rattle.groups.specs.Reads as groups
use Rattle.grammar.specs.Reads.{ReadsSilent, ReadsGraph, ReadsTarget, ReadsPlace, ReadsTransfer, ReadsWith, ReadsChange, ReadsOperation, most_nested}
use Rattle.grammar.specs.Reads as reads

-- the same tokens, the last of which are those of `to` in the place of those of `from`
pub data Swap (from to : List Token) : List Token → List Token → Type 0 where
  here : Swap from to from to
  there : {ts us : List Token} (t : Token) → Swap from to ts us → Swap from to (t ∷ ts) (t ∷ us)

pub swap_more : (to ts us : List Token) → Swap [] to ts us → us ≡ ts ++ to
swap_more to _ _ here = refl
swap_more to _ _ (there {ts} {us} t sw) = ap (λ (xs : List Token). t ∷ xs) (swap_more to ts us sw)

pub swap_less : (from ts us : List Token) → Swap from [] ts us → ts ≡ us ++ from
swap_less from _ _ here = refl
swap_less from _ _ (there {ts} {us} t sw) = ap (λ (xs : List Token). t ∷ xs) (swap_less from ts us sw)

no_suffix_before : (t : Token) (ts us : List Token) → NoSuffix (t ∷ ts) → NoSuffix (t ∷ us)
no_suffix_before (token.Tag t) ts us unsuffixed = absurd unsuffixed
no_suffix_before (token.Sign signs.Carets) ts us unsuffixed = absurd unsuffixed
no_suffix_before t ts us unsuffixed = tt

module _ (from to : List Token) (free : NoSuffix to) where
  -- x is read before other tokens, too
  abbrev pub Moved : {A : Type 0} → Production A → List Token → A → List Token → Type 0
  Moved {A} P ts x us = (vs : List Token) × Swap from to ts vs × P vs x us

  abbrev pub Moves : {A : Type 0} → Production A → Type 0
  Moves {A} P = (ts : List Token) (x : A) (rest us : List Token) → P ts x rest → Swap from to rest us → Moved P ts x us

  no_suffix : (ts us : List Token) → NoSuffix ts → Swap from to ts us → NoSuffix us
  no_suffix _ _ unsuffixed here = free
  no_suffix _ _ unsuffixed (there {ts} {us} t sw) = no_suffix_before t ts us unsuffixed

  -- ---- words, names and literals

  keyword_moves : (k : List ℕ) (ts rest us : List Token) → ReadsKeyword k ts rest → Swap from to rest us → (vs : List Token) × Swap from to ts vs × ReadsKeyword k vs us
  keyword_moves k _ _ us (keyword {w} is) sw = (token.Word w ∷ us, there (token.Word w) sw, keyword is)

  name_moves : Moves ReadsName
  name_moves _ _ _ us (iri {i}) sw = (token.Iri i ∷ us, there (token.Iri i) sw, iri)
  name_moves _ _ _ us (prefixed {p} {l}) sw = (token.Name p l ∷ us, there (token.Name p l) sw, prefixed)

  literal_moves : Moves ReadsLiteral
  literal_moves _ _ _ us (plain {s} {rest} unsuffixed) sw = (token.Text s ∷ us, there (token.Text s) sw, plain (no_suffix rest us unsuffixed sw))
  literal_moves _ _ _ us (tagged {s} {t}) sw = (token.Text s ∷ token.Tag t ∷ us, there (token.Text s) (there (token.Tag t) sw), tagged)
  literal_moves _ _ _ us (typed {s} {ts} {rest} {d} n) sw =
      let m = name_moves ts d rest us n sw in (token.Text s ∷ token.Sign signs.Carets ∷ m.0, there (token.Text s) (there (token.Sign signs.Carets) m.1), typed m.2)
  literal_moves _ _ _ us (integer {n}) sw = (token.Integer n ∷ us, there (token.Integer n) sw, integer)
  literal_moves _ _ _ us (is_true {w} k) sw = (token.Word w ∷ us, there (token.Word w) sw, is_true k)
  literal_moves _ _ _ us (is_false {w} k) sw = (token.Word w ∷ us, there (token.Word w) sw, is_false k)

  many_moves : {A : Type 0} (Item : Production A) (Link : Production Bool) → Moves Item → Moves Link → Moves (Many Item Link)
  many_moves Item Link item link _ _ _ us (last {ts} {r} {s} {x} i l) sw =
      let b = link r false s us l sw in
      let a = item ts x r b.0 i b.1 in
      (a.0, a.1, last a.2 b.2)
  many_moves Item Link item link _ _ _ us (next {ts} {r} {u} {s} {x} {xs} i l m) sw =
      let c = many_moves Item Link item link u xs s us m sw in
      let b = link r true u c.0 l c.1 in
      let a = item ts x r b.0 i b.1 in
      (a.0, a.1, next a.2 b.2 c.2)

  -- ---- triples and quads

  node_moves : Moves ReadsNode
  node_moves _ _ _ us (triples.variable {v}) sw = (token.Variable v ∷ us, there (token.Variable v) sw, triples.variable)
  node_moves _ _ _ us (triples.blank {l}) sw = (token.Blank l ∷ us, there (token.Blank l) sw, triples.blank)
  node_moves _ _ _ us (triples.name {ts} {rest} {n} r) sw = let m = name_moves ts n rest us r sw in (m.0, m.1, triples.name m.2)

  graph_name_moves : Moves ReadsGraphName
  graph_name_moves _ _ _ us (triples.variable {v}) sw = (token.Variable v ∷ us, there (token.Variable v) sw, triples.variable)
  graph_name_moves _ _ _ us (triples.name {ts} {rest} {n} r) sw = let m = name_moves ts n rest us r sw in (m.0, m.1, triples.name m.2)

  verb_moves : Moves ReadsVerb
  verb_moves _ _ _ us (triples.is_name {ts} {rest} {x} r) sw = let m = graph_name_moves ts x rest us r sw in (m.0, m.1, triples.is_name m.2)
  verb_moves _ _ _ us triples.type sw = (token.Word (97 ∷ []) ∷ us, there (token.Word (97 ∷ [])) sw, triples.type)

  object_moves : Moves ReadsObject
  object_moves _ _ _ us (triples.is_node {ts} {rest} {x} r) sw = let m = node_moves ts x rest us r sw in (m.0, m.1, triples.is_node m.2)
  object_moves _ _ _ us (triples.literal {ts} {rest} {l} r) sw = let m = literal_moves ts l rest us r sw in (m.0, m.1, triples.literal m.2)

  object_link_moves : Moves ObjectLink
  object_link_moves _ _ _ us triples.comma sw = (token.Sign signs.Comma ∷ us, there (token.Sign signs.Comma) sw, triples.comma)
  object_link_moves _ _ _ us triples.no_comma sw = (us, sw, triples.no_comma)

  property_moves : Moves ReadsProperty
  property_moves _ _ _ us (triples.property {ts} {r} {s} {v} {os} verb objects) sw =
      let b = many_moves ReadsObject ObjectLink object_moves object_link_moves r os s us objects sw in
      let a = verb_moves ts v r b.0 verb b.1 in
      (a.0, a.1, triples.property a.2 b.2)

  property_link_moves : Moves PropertyLink
  property_link_moves _ _ _ us triples.semicolon sw = (token.Sign signs.Semicolon ∷ us, there (token.Sign signs.Semicolon) sw, triples.semicolon)
  property_link_moves _ _ _ us (triples.again {rest} {s} {b} l) sw =
      let m = property_link_moves rest b s us l sw in (token.Sign signs.Semicolon ∷ m.0, there (token.Sign signs.Semicolon) m.1, triples.again m.2)
  property_link_moves _ _ _ us triples.no_semicolon sw = (us, sw, triples.no_semicolon)

  same_moves : Moves ReadsSame
  same_moves _ _ _ us (triples.same {ts} {r} {s} {x} {ps} subject properties) sw =
      let b = many_moves ReadsProperty PropertyLink property_moves property_link_moves r ps s us properties sw in
      let a = node_moves ts x r b.0 subject b.1 in
      (a.0, a.1, triples.same a.2 b.2)

  triple_link_moves : Moves TripleLink
  triple_link_moves _ _ _ us triples.dot sw = (token.Sign signs.Dot ∷ us, there (token.Sign signs.Dot) sw, triples.dot)
  triple_link_moves _ _ _ us triples.last_dot sw = (token.Sign signs.Dot ∷ us, there (token.Sign signs.Dot) sw, triples.last_dot)
  triple_link_moves _ _ _ us triples.no_dot sw = (us, sw, triples.no_dot)

  triples_moves : Moves ReadsTriples
  triples_moves = many_moves ReadsSame TripleLink same_moves triple_link_moves

  maybe_moves : Moves ReadsMaybeTriples
  maybe_moves _ _ _ us triples.none sw = (us, sw, triples.none)
  maybe_moves _ _ _ us (triples.some {ts} {rest} {xs} m) sw = let a = triples_moves ts xs rest us m sw in (a.0, a.1, triples.some a.2)

  dot_moves : (ts rest us : List Token) → ReadsMaybeDot ts rest → Swap from to rest us → (vs : List Token) × Swap from to ts vs × ReadsMaybeDot vs us
  dot_moves _ _ us triples.dot sw = (token.Sign signs.Dot ∷ us, there (token.Sign signs.Dot) sw, triples.dot)
  dot_moves _ _ us triples.no_dot sw = (us, sw, triples.no_dot)

  block_moves : Moves ReadsGraphBlock
  block_moves _ _ _ us (triples.block {ts} {r} {u} {rest} {g} {xs} n inside end) sw =
      let c = dot_moves u rest us end sw in
      let b = maybe_moves r xs (token.Sign signs.CloseBrace ∷ u) (token.Sign signs.CloseBrace ∷ c.0) inside (there (token.Sign signs.CloseBrace) c.1) in
      let a = graph_name_moves ts g (token.Sign signs.OpenBrace ∷ r) (token.Sign signs.OpenBrace ∷ b.0) n (there (token.Sign signs.OpenBrace) b.1) in
      (a.0, a.1, triples.block a.2 b.2 c.2)

  blocks_moves : Moves ReadsBlocks
  blocks_moves _ _ _ us triples.close sw = (token.Sign signs.CloseBrace ∷ us, there (token.Sign signs.CloseBrace) sw, triples.close)
  blocks_moves _ _ _ us (triples.graph {ts} {r} {u} {v} {rest} {b} {xs} {later} word first after more) sw =
      let d = blocks_moves v later rest us more sw in
      let c = maybe_moves u xs v d.0 after d.1 in
      let f = block_moves r b u c.0 first c.1 in
      let a = keyword_moves (codes "GRAPH") ts r f.0 word f.1 in
      (a.0, a.1, triples.graph a.2 f.2 c.2 d.2)

  quads_moves : Moves ReadsQuads
  quads_moves _ _ _ us (triples.quads {ts} {r} {rest} {xs} {later} first more) sw =
      let b = blocks_moves r later rest us more sw in
      let a = maybe_moves ts xs r b.0 first b.1 in
      (token.Sign signs.OpenBrace ∷ a.0, there (token.Sign signs.OpenBrace) a.1, triples.quads a.2 b.2)

  -- ---- expressions

  module _ (n : ℕ) (Inner : Production Tree) (inner : Moves Inner) where
    call_moves : Moves (ReadsCall n Inner)
    call_moves _ _ _ us (expressions.bound {w} {v} k deep) sw = (
      token.Word w ∷ token.Sign signs.OpenParen ∷ token.Variable v ∷ token.Sign signs.CloseParen ∷ us,
      there (token.Word w) (there (token.Sign signs.OpenParen) (there (token.Variable v) (there (token.Sign signs.CloseParen) sw))),
      expressions.bound k deep,
    )
    call_moves _ _ _ us (expressions.one {w} {ts} {rest} {f} {e} k i) sw =
        let a = inner ts e (token.Sign signs.CloseParen ∷ rest) (token.Sign signs.CloseParen ∷ us) i (there (token.Sign signs.CloseParen) sw) in
        (token.Word w ∷ token.Sign signs.OpenParen ∷ a.0, there (token.Word w) (there (token.Sign signs.OpenParen) a.1), expressions.one k a.2)
    call_moves _ _ _ us (expressions.two {w} {ts} {us = vs} {rest} {f} {d} {e} k i j) sw =
        let b = inner vs e (token.Sign signs.CloseParen ∷ rest) (token.Sign signs.CloseParen ∷ us) j (there (token.Sign signs.CloseParen) sw) in
        let a = inner ts d (token.Sign signs.Comma ∷ vs) (token.Sign signs.Comma ∷ b.0) i (there (token.Sign signs.Comma) b.1) in
        (token.Word w ∷ token.Sign signs.OpenParen ∷ a.0, there (token.Word w) (there (token.Sign signs.OpenParen) a.1), expressions.two k a.2 b.2)

    primary_moves : Moves (ReadsPrimary n Inner)
    primary_moves _ _ _ us (expressions.parens {ts} {rest} {e} i) sw =
        let a = inner ts e (token.Sign signs.CloseParen ∷ rest) (token.Sign signs.CloseParen ∷ us) i (there (token.Sign signs.CloseParen) sw) in
        (token.Sign signs.OpenParen ∷ a.0, there (token.Sign signs.OpenParen) a.1, expressions.parens a.2)
    primary_moves _ _ _ us (expressions.called {ts} {rest} {e} c) sw = let a = call_moves ts e rest us c sw in (a.0, a.1, expressions.called a.2)
    primary_moves _ _ _ us (expressions.named {ts} {rest} {x} r) sw = let a = name_moves ts x rest us r sw in (a.0, a.1, expressions.named a.2)
    primary_moves _ _ _ us (expressions.quoted {ts} {rest} {x} r) sw = let a = literal_moves ts x rest us r sw in (a.0, a.1, expressions.quoted a.2)
    primary_moves _ _ _ us (expressions.variable {v}) sw = (token.Variable v ∷ us, there (token.Variable v) sw, expressions.variable)

    not_moves : Moves (ReadsNot n Inner)
    not_moves _ _ _ us (expressions.plain {ts} {rest} {e} r) sw = let a = primary_moves ts e rest us r sw in (a.0, a.1, expressions.plain a.2)
    not_moves _ _ _ us (expressions.negated {ts} {rest} {e} r) sw =
        let a = primary_moves ts e rest us r sw in (token.Sign signs.Bang ∷ a.0, there (token.Sign signs.Bang) a.1, expressions.negated a.2)

  module _ (Item : Production Tree) (r : ℕ) (item : Moves Item) where
    more_moves : (ts : List Token) (e f : Tree) (rest us : List Token) → ReadsMore Item r ts e f rest → Swap from to rest us → (vs : List Token) × Swap from to ts vs × ReadsMore Item r vs e f us
    more_moves _ _ _ _ us expressions.done sw = (us, sw, expressions.done)
    more_moves _ _ _ _ us (expressions.more {t} {ts} {us = vs} {rest} {o} {e} {f} {g} is i m) sw =
        let b = more_moves vs _ g rest us m sw in
        let a = item ts f vs b.0 i b.1 in
        (t ∷ a.0, there t a.1, expressions.more is a.2 b.2)

    chain_moves : Moves (ReadsChain Item r)
    chain_moves _ _ _ us (expressions.chain {ts} {us = vs} {rest} {e} {f} i m) sw =
        let b = more_moves vs e f rest us m sw in
        let a = item ts e vs b.0 i b.1 in
        (a.0, a.1, expressions.chain a.2 b.2)

    once_moves : Moves (ReadsOnce Item r)
    once_moves _ _ _ us (expressions.alone {ts} {rest} {e} i) sw = let a = item ts e rest us i sw in (a.0, a.1, expressions.alone a.2)
    once_moves _ _ _ us (expressions.pair {t} {ts} {us = vs} {rest} {o} {e} {f} i is j) sw =
        let b = item vs f rest us j sw in
        let a = item ts e (t ∷ vs) (t ∷ b.0) i (there t b.1) in
        (a.0, a.1, expressions.pair a.2 is b.2)

  expression_moves : (n : ℕ) → Moves (ReadsExpression n)
  unfolding ReadsExpression
  expression_moves zero ts x rest us i sw = absurd i
  expression_moves (suc n) ts x rest us i sw =
      chain_moves _ _ (chain_moves _ _ (once_moves _ _ (chain_moves _ _ (chain_moves _ _ (not_moves n (ReadsExpression n) (expression_moves n)))))) ts x rest us i sw

  constraint_moves : (n : ℕ) → Moves (ReadsConstraint n)
  constraint_moves n _ _ _ us (expressions.bracketed {ts} {rest} {e} i) sw =
      let a = expression_moves n ts e (token.Sign signs.CloseParen ∷ rest) (token.Sign signs.CloseParen ∷ us) i (there (token.Sign signs.CloseParen) sw) in
      (token.Sign signs.OpenParen ∷ a.0, there (token.Sign signs.OpenParen) a.1, expressions.bracketed a.2)
  constraint_moves n _ _ _ us (expressions.call {ts} {rest} {e} c) sw =
      let a = call_moves n (ReadsExpression n) (expression_moves n) ts e rest us c sw in (a.0, a.1, expressions.call a.2)

  -- ---- groups

  front_moves : Moves ReadsFront
  front_moves _ _ _ us (groups.triples {ts} {rest} {xs} r free) sw = let a = triples_moves ts xs rest us r sw in (a.0, a.1, groups.triples a.2 free)
  front_moves _ _ _ us groups.no_triples sw = (us, sw, groups.no_triples)

  union_link_moves : Moves UnionLink
  union_link_moves _ _ _ us (groups.or_group {w} k) sw = (token.Word w ∷ us, there (token.Word w) sw, groups.or_group k)
  union_link_moves _ _ _ us groups.no_union sw = (us, sw, groups.no_union)

  module _ (n : ℕ) (Inner : Production (List Part)) (inner : Moves Inner) where
    part_moves : Moves (ReadsPart n Inner)
    part_moves _ _ _ us (groups.union {ts} {rest} {gs} m) sw = let a = many_moves Inner UnionLink inner union_link_moves ts gs rest us m sw in (a.0, a.1, groups.union a.2)
    part_moves _ _ _ us (groups.optional {w} {ts} {rest} {g} k i) sw = let a = inner ts g rest us i sw in (token.Word w ∷ a.0, there (token.Word w) a.1, groups.optional k a.2)
    part_moves _ _ _ us (groups.minus {w} {ts} {rest} {g} k i) sw = let a = inner ts g rest us i sw in (token.Word w ∷ a.0, there (token.Word w) a.1, groups.minus k a.2)
    part_moves _ _ _ us (groups.in_graph {w} {ts} {r} {rest} {x} {g} k graph_name i) sw =
        let b = inner r g rest us i sw in
        let a = graph_name_moves ts x r b.0 graph_name b.1 in
        (token.Word w ∷ a.0, there (token.Word w) a.1, groups.in_graph k a.2 b.2)
    part_moves _ _ _ us (groups.filter {w} {ts} {rest} {e} k c) sw = let a = constraint_moves n ts e rest us c sw in (token.Word w ∷ a.0, there (token.Word w) a.1, groups.filter k a.2)

    parts_moves : Moves (ReadsParts n Inner)
    parts_moves _ _ _ us groups.close sw = (token.Sign signs.CloseBrace ∷ us, there (token.Sign signs.CloseBrace) sw, groups.close)
    parts_moves _ _ _ us (groups.part {ts} {r} {u} {v} {rest} {p} xs ps i d f m) sw =
        let e = parts_moves v ps rest us m sw in
        let c = front_moves u xs v e.0 f e.1 in
        let b = dot_moves r u c.0 d c.1 in
        let a = part_moves ts p r b.0 i b.1 in
        (a.0, a.1, groups.part xs ps a.2 b.2 c.2 e.2)

    braces_moves : Moves (ReadsBraces n Inner)
    braces_moves _ _ _ us (groups.braces {ts} {r} {rest} xs ps f m) sw =
        let b = parts_moves r ps rest us m sw in
        let a = front_moves ts xs r b.0 f b.1 in
        (token.Sign signs.OpenBrace ∷ a.0, there (token.Sign signs.OpenBrace) a.1, groups.braces xs ps a.2 b.2)

  group_moves : (n : ℕ) → Moves (ReadsGroup n)
  unfolding ReadsGroup
  group_moves zero ts x rest us i sw = absurd i
  group_moves (suc n) ts x rest us i sw = braces_moves n (ReadsGroup n) (group_moves n) ts x rest us i sw

  -- ---- operations

  silent_moves : Moves ReadsSilent
  silent_moves _ _ _ us (reads.silent {ts} {rest} word) sw = let a = keyword_moves (codes "SILENT") ts rest us word sw in (a.0, a.1, reads.silent a.2)
  silent_moves _ _ _ us reads.not_silent sw = (us, sw, reads.not_silent)

  graph_moves : Moves ReadsGraph
  graph_moves _ _ _ us (reads.graph {ts} {r} {rest} {n} word named) sw =
      let b = name_moves r n rest us named sw in
      let a = keyword_moves (codes "GRAPH") ts r b.0 word b.1 in
      (a.0, a.1, reads.graph a.2 b.2)

  target_moves : Moves ReadsTarget
  target_moves _ _ _ us (reads.in_graph {ts} {rest} {n} g) sw = let a = graph_moves ts n rest us g sw in (a.0, a.1, reads.in_graph a.2)
  target_moves _ _ _ us (reads.default {ts} {rest} word) sw = let a = keyword_moves (codes "DEFAULT") ts rest us word sw in (a.0, a.1, reads.default a.2)
  target_moves _ _ _ us (reads.named {ts} {rest} word) sw = let a = keyword_moves (codes "NAMED") ts rest us word sw in (a.0, a.1, reads.named a.2)
  target_moves _ _ _ us (reads.all {ts} {rest} word) sw = let a = keyword_moves (codes "ALL") ts rest us word sw in (a.0, a.1, reads.all a.2)

  place_moves : Moves ReadsPlace
  place_moves _ _ _ us (reads.default {ts} {rest} word) sw = let a = keyword_moves (codes "DEFAULT") ts rest us word sw in (a.0, a.1, reads.default a.2)
  place_moves _ _ _ us (reads.in_graph {ts} {rest} {n} g) sw = let a = graph_moves ts n rest us g sw in (a.0, a.1, reads.in_graph a.2)
  place_moves _ _ _ us (reads.name {ts} {rest} {n} named) sw = let a = name_moves ts n rest us named sw in (a.0, a.1, reads.name a.2)

  transfer_moves : Moves ReadsTransfer
  transfer_moves _ _ _ us (reads.copy {ts} {rest} word) sw = let a = keyword_moves (codes "COPY") ts rest us word sw in (a.0, a.1, reads.copy a.2)
  transfer_moves _ _ _ us (reads.move {ts} {rest} word) sw = let a = keyword_moves (codes "MOVE") ts rest us word sw in (a.0, a.1, reads.move a.2)
  transfer_moves _ _ _ us (reads.add {ts} {rest} word) sw = let a = keyword_moves (codes "ADD") ts rest us word sw in (a.0, a.1, reads.add a.2)

  with_moves : Moves ReadsWith
  with_moves _ _ _ us (reads.with {ts} {r} {rest} {n} word named) sw =
      let b = name_moves r n rest us named sw in
      let a = keyword_moves (codes "WITH") ts r b.0 word b.1 in
      (a.0, a.1, reads.with a.2 b.2)
  with_moves _ _ _ us reads.without sw = (us, sw, reads.without)

  worded_quads : (k : List ℕ) (ts r : List Token) (xs : _) (rest us : List Token) → ReadsKeyword k ts r → ReadsQuads r xs rest → Swap from to rest us
      → (vs : List Token) × (ws : List Token) × Swap from to ts vs × ReadsKeyword k vs ws × ReadsQuads ws xs us
  worded_quads k ts r xs rest us word is sw =
      let b = quads_moves r xs rest us is sw in
      let a = keyword_moves k ts r b.0 word b.1 in
      (a.0, b.0, a.1, a.2, b.2)

  change_moves : (ts : List Token) (xs ys : _) (rest us : List Token) → ReadsChange ts xs ys rest → Swap from to rest us → (vs : List Token) × Swap from to ts vs × ReadsChange vs xs ys us
  change_moves _ _ _ _ us (reads.delete {ts} {r} {rest} {xs} word is) sw =
      let a = worded_quads (codes "DELETE") ts r xs rest us word is sw in (a.0, a.2, reads.delete a.3 a.4)
  change_moves _ _ _ _ us (reads.insert {ts} {r} {rest} {ys} word is) sw =
      let a = worded_quads (codes "INSERT") ts r ys rest us word is sw in (a.0, a.2, reads.insert a.3 a.4)
  change_moves _ _ _ _ us (reads.both {ts} {r} {u} {v} {rest} {xs} {ys} word is insert more) sw =
      let b = worded_quads (codes "INSERT") u v ys rest us insert more sw in
      let a = worded_quads (codes "DELETE") ts r xs u b.0 word is b.2 in
      (a.0, a.2, reads.both a.3 a.4 b.3 b.4)

  data_moves : (k : List ℕ) (ts r u : List Token) (xs : _) (rest us : List Token) → ReadsKeyword k ts r → (j : List ℕ) → ReadsKeyword j r u → ReadsQuads u xs rest → Swap from to rest us
      → (vs : List Token) × (ws : List Token) × (zs : List Token) × Swap from to ts vs × ReadsKeyword k vs ws × ReadsKeyword j ws zs × ReadsQuads zs xs us
  data_moves k ts r u xs rest us word j second is sw =
      let b = worded_quads j r u xs rest us second is sw in
      let a = keyword_moves k ts r b.0 word b.2 in
      (a.0, b.0, b.1, a.1, a.2, b.3, b.4)

  pub operation_moves : Moves ReadsOperation
  operation_moves _ _ _ us (reads.create {ts} {r} {u} {rest} {s} {n} word said g) sw =
      let c = graph_moves u n rest us g sw in
      let b = silent_moves r s u c.0 said c.1 in
      let a = keyword_moves (codes "CREATE") ts r b.0 word b.1 in
      (a.0, a.1, reads.create a.2 b.2 c.2)
  operation_moves _ _ _ us (reads.drop {ts} {r} {u} {rest} {s} {t} word said g) sw =
      let c = target_moves u t rest us g sw in
      let b = silent_moves r s u c.0 said c.1 in
      let a = keyword_moves (codes "DROP") ts r b.0 word b.1 in
      (a.0, a.1, reads.drop a.2 b.2 c.2)
  operation_moves _ _ _ us (reads.clear {ts} {r} {u} {rest} {s} {t} word said g) sw =
      let c = target_moves u t rest us g sw in
      let b = silent_moves r s u c.0 said c.1 in
      let a = keyword_moves (codes "CLEAR") ts r b.0 word b.1 in
      (a.0, a.1, reads.clear a.2 b.2 c.2)
  operation_moves _ _ _ us (reads.transferred {ts} {r} {u} {v} {w} {rest} {how} {s} {from = f} {to = t} word said aim between end) sw =
      let e = place_moves w t rest us end sw in
      let d = keyword_moves (codes "TO") v w e.0 between e.1 in
      let c = place_moves u f v d.0 aim d.1 in
      let b = silent_moves r s u c.0 said c.1 in
      let a = transfer_moves ts how r b.0 word b.1 in
      (a.0, a.1, reads.transferred a.2 b.2 c.2 d.2 e.2)
  operation_moves _ _ _ us (reads.insert_data {ts} {r} {u} {rest} {xs} word second is) sw =
      let a = data_moves (codes "INSERT") ts r u xs rest us word (codes "DATA") second is sw in (a.0, a.3, reads.insert_data a.4 a.5 a.6)
  operation_moves _ _ _ us (reads.delete_data {ts} {r} {u} {rest} {xs} word second is) sw =
      let a = data_moves (codes "DELETE") ts r u xs rest us word (codes "DATA") second is sw in (a.0, a.3, reads.delete_data a.4 a.5 a.6)
  operation_moves _ _ _ us (reads.delete_where {ts} {r} {u} {rest} {xs} word second is) sw =
      let a = data_moves (codes "DELETE") ts r u xs rest us word (codes "WHERE") second is sw in (a.0, a.3, reads.delete_where a.4 a.5 a.6)
  operation_moves _ _ _ us (reads.modify {ts} {r} {u} {v} {rest} {with} {xs} {ys} {ps} in_graph change where_word is) sw =
      let d = group_moves most_nested v ps rest us is sw in
      let c = keyword_moves (codes "WHERE") u v d.0 where_word d.1 in
      let b = change_moves r xs ys u c.0 change c.1 in
      let a = with_moves ts with r b.0 in_graph b.1 in
      (a.0, a.1, reads.modify a.2 b.2 c.2 d.2)
