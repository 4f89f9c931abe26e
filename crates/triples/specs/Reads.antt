-- The grammar of triples and quads, by its productions, on lists of tokens. (SPARQL 1.1 Query and
-- Update, 19.8, productions 50 to 52 of quads, 75 to 82 and 106 to 109 of triples, in this
-- profile.) `ReadsX ts x rest`: the production reads x at the front of the tokens ts, and rest
-- follows.
use Rattle.std.specs.Prelude.{ℕ, ◌≡◌, ◌==◌, Bool, true, false, List, [], ◌∷◌, codes, Some, None}
use Rattle.lexer.specs.declared.token.Token.{Token}
use Rattle.lexer.specs.declared.token.Token.TheVariants as token
use Rattle.lexer.specs.declared.token.Sign.TheVariants as signs
use Rattle.syntax_trees.specs.declared.tree.Name.{Name}
use Rattle.syntax_trees.specs.declared.tree.Literal.{Literal}
use Rattle.syntax_trees.specs.declared.tree.Node.{Node}
use Rattle.syntax_trees.specs.declared.tree.Node.TheVariants as node
use Rattle.syntax_trees.specs.declared.tree.Property.{Property}
use Rattle.syntax_trees.specs.declared.tree.SameSubject.{SameSubject}
use Rattle.syntax_trees.specs.declared.tree.Block.{Block}
use Rattle.productions.specs.Many.{Many}
use Rattle.productions.specs.Names.{ReadsName, ReadsLiteral}
use Rattle.productions.specs.Keywords.{ReadsKeyword}

-- Subject = variable | Iri | blank
pub data ReadsNode : List Token → Node → List Token → Type 0 where
  variable : {v : List ℕ} {rest : List Token} → ReadsNode (token.Variable v ∷ rest) (node.Variable v) rest
  blank : {l : List ℕ} {rest : List Token} → ReadsNode (token.Blank l ∷ rest) (node.Blank l) rest
  name : {ts rest : List Token} {n : Name} → ReadsName ts n rest → ReadsNode ts (node.Name n) rest

-- VarIri = variable | Iri
pub data ReadsGraphName : List Token → Node → List Token → Type 0 where
  variable : {v : List ℕ} {rest : List Token} → ReadsGraphName (token.Variable v ∷ rest) (node.Variable v) rest
  name : {ts rest : List Token} {n : Name} → ReadsName ts n rest → ReadsGraphName ts (node.Name n) rest

-- Verb = variable | Iri | 'a'
pub data ReadsVerb : List Token → Node → List Token → Type 0 where
  is_name : {ts rest : List Token} {x : Node} → ReadsGraphName ts x rest → ReadsVerb ts x rest
  type : {rest : List Token} → ReadsVerb (token.Word (97 ∷ []) ∷ rest) node.Type rest

-- Object = Subject | Literal
pub data ReadsObject : List Token → Node → List Token → Type 0 where
  is_node : {ts rest : List Token} {x : Node} → ReadsNode ts x rest → ReadsObject ts x rest
  literal : {ts rest : List Token} {l : Literal} → ReadsLiteral ts l rest → ReadsObject ts (node.Literal l) rest

-- Objects = Object { ',' Object }
pub data ObjectLink : List Token → Bool → List Token → Type 0 where
  comma : {rest : List Token} → ObjectLink (token.Sign signs.Comma ∷ rest) true rest
  no_comma : {rest : List Token} → ObjectLink rest false rest

abbrev pub ReadsObjects : List Token → List Node → List Token → Type 0
ReadsObjects = Many ReadsObject ObjectLink

-- Verb Objects
pub data ReadsProperty : List Token → Property → List Token → Type 0 where
  property : {ts r s : List Token} {v : Node} {os : List Node} → ReadsVerb ts v r → ReadsObjects r os s → ReadsProperty ts (record { verb = v; objects = os }) s

-- { ';' [ .. ] }: one `;` or more, and then a next property or none
pub data PropertyLink : List Token → Bool → List Token → Type 0 where
  semicolon : {rest : List Token} → PropertyLink (token.Sign signs.Semicolon ∷ rest) true rest
  again : {rest s : List Token} {b : Bool} → PropertyLink rest b s → PropertyLink (token.Sign signs.Semicolon ∷ rest) b s
  no_semicolon : {rest : List Token} → PropertyLink rest false rest

abbrev pub ReadsProperties : List Token → List Property → List Token → Type 0
ReadsProperties = Many ReadsProperty PropertyLink

-- Same = Subject Verb Objects { ';' [Verb Objects] }
pub data ReadsSame : List Token → SameSubject → List Token → Type 0 where
  same : {ts r s : List Token} {x : Node} {ps : List Property} → ReadsNode ts x r → ReadsProperties r ps s → ReadsSame ts (record { subject = x; properties = ps }) s

-- Triples = Same [ '.' [Triples] ]
pub data TripleLink : List Token → Bool → List Token → Type 0 where
  dot : {rest : List Token} → TripleLink (token.Sign signs.Dot ∷ rest) true rest
  last_dot : {rest : List Token} → TripleLink (token.Sign signs.Dot ∷ rest) false rest
  no_dot : {rest : List Token} → TripleLink rest false rest

abbrev pub ReadsTriples : List Token → List SameSubject → List Token → Type 0
ReadsTriples = Many ReadsSame TripleLink

-- [Triples]
pub data ReadsMaybeTriples : List Token → List SameSubject → List Token → Type 0 where
  none : {rest : List Token} → ReadsMaybeTriples rest [] rest
  some : {ts rest : List Token} {xs : List SameSubject} → ReadsTriples ts xs rest → ReadsMaybeTriples ts xs rest

-- ['.']
pub data ReadsMaybeDot : List Token → List Token → Type 0 where
  dot : {rest : List Token} → ReadsMaybeDot (token.Sign signs.Dot ∷ rest) rest
  no_dot : {rest : List Token} → ReadsMaybeDot rest rest

-- VarIri '{' [Triples] '}' ['.'], behind 'GRAPH'
pub data ReadsGraphBlock : List Token → Block → List Token → Type 0 where
  block : {ts r u rest : List Token} {g : Node} {xs : List SameSubject} → ReadsGraphName ts g (token.Sign signs.OpenBrace ∷ r)
      → ReadsMaybeTriples r xs (token.Sign signs.CloseBrace ∷ u) → ReadsMaybeDot u rest → ReadsGraphBlock ts (record { graph = Some g; triples = xs }) rest

-- { 'GRAPH' VarIri '{' [Triples] '}' ['.'] [Triples] } '}': each time the block of the graph, and
-- that of the triples after it
pub data ReadsBlocks : List Token → List Block → List Token → Type 0 where
  close : {rest : List Token} → ReadsBlocks (token.Sign signs.CloseBrace ∷ rest) [] rest
  graph : {ts r u v rest : List Token} {b : Block} {xs : List SameSubject} {later : List Block} → ReadsKeyword (codes "GRAPH") ts r → ReadsGraphBlock r b u
      → ReadsMaybeTriples u xs v → ReadsBlocks v later rest → ReadsBlocks ts (b ∷ record { graph = None; triples = xs } ∷ later) rest

-- Quads = '{' [Triples] { 'GRAPH' VarIri '{' [Triples] '}' ['.'] [Triples] } '}'
pub data ReadsQuads : List Token → List Block → List Token → Type 0 where
  quads : {ts r rest : List Token} {xs : List SameSubject} {later : List Block} → ReadsMaybeTriples ts xs r → ReadsBlocks r later rest
      → ReadsQuads (token.Sign signs.OpenBrace ∷ ts) (record { graph = None; triples = xs } ∷ later) rest

-- ---- what may follow

-- the word `a`, in this case
abbrev pub is_a : List ℕ → Bool
is_a [] = false
is_a (b ∷ []) = b == 97
is_a (b ∷ c ∷ bs) = false

-- what may follow triples: a brace, or a word that is no verb
pub data EndsTriples : List Token → Type 0 where
  at_open : {rest : List Token} → EndsTriples (token.Sign signs.OpenBrace ∷ rest)
  at_close : {rest : List Token} → EndsTriples (token.Sign signs.CloseBrace ∷ rest)
  at_word : {w : List ℕ} {rest : List Token} → is_a w ≡ false → EndsTriples (token.Word w ∷ rest)
