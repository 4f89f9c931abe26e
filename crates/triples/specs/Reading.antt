-- Reading the productions from left to right, each with one token of look-ahead.
use Rattle.std.specs.Prelude.{ℕ, zero, suc, Bool, true, false, List, [], ◌∷◌, length, Some, None, codes, if◌then◌else◌}
use Rattle.std.specs.Option.{option_map_or}
use Rattle.iris.specs.Bracketed.{◌>>=◌}
use Rattle.lexer.specs.declared.token.Token.{Token}
use Rattle.lexer.specs.declared.token.Token.TheVariants as token
use Rattle.lexer.specs.declared.token.Sign.TheVariants as signs
use Rattle.syntax_trees.specs.declared.tree.Node.{Node}
use Rattle.syntax_trees.specs.declared.tree.Node.TheVariants as node
use Rattle.syntax_trees.specs.declared.tree.Property.{Property}
use Rattle.syntax_trees.specs.declared.tree.SameSubject.{SameSubject}
use Rattle.syntax_trees.specs.declared.tree.Block.{Block}
use Rattle.productions.specs.Steps.{Reader}
use Rattle.productions.specs.Many.{many}
use Rattle.productions.specs.Signs.{sign_at}
use Rattle.productions.specs.Keywords.{keyword_at}
use Rattle.productions.specs.Reading.{name_at, literal_at}
use Rattle.triples.specs.Reads.{is_a}

abbrev pub named_at : Reader Node
named_at ts = do
  n ← name_at ts
  Some (node.Name n.0, n.1)

abbrev pub node_at : Reader Node
node_at (token.Variable v ∷ ts) = Some (node.Variable v, ts)
node_at (token.Blank l ∷ ts) = Some (node.Blank l, ts)
node_at ts = named_at ts

abbrev pub graph_name_at : Reader Node
graph_name_at (token.Variable v ∷ ts) = Some (node.Variable v, ts)
graph_name_at ts = named_at ts

abbrev pub verb_at : Reader Node
verb_at (token.Word w ∷ ts) = if is_a w then Some (node.Type, ts) else None
verb_at ts = graph_name_at ts

unfoldable pub value_at : Reader Node
value_at ts = do
  l ← literal_at ts
  Some (node.Literal l.0, l.1)

abbrev pub object_at : Reader Node
object_at (token.Text s ∷ ts) = value_at (token.Text s ∷ ts)
object_at (token.Integer n ∷ ts) = value_at (token.Integer n ∷ ts)
object_at (token.Word w ∷ ts) = value_at (token.Word w ∷ ts)
object_at ts = node_at ts

abbrev pub begins_node : List Token → Bool
begins_node (token.Variable v ∷ ts) = true
begins_node (token.Iri i ∷ ts) = true
begins_node (token.Name p l ∷ ts) = true
begins_node (token.Blank l ∷ ts) = true
begins_node ts = false

abbrev pub begins_verb : List Token → Bool
begins_verb (token.Variable v ∷ ts) = true
begins_verb (token.Iri i ∷ ts) = true
begins_verb (token.Name p l ∷ ts) = true
begins_verb (token.Word w ∷ ts) = is_a w
begins_verb ts = false

-- ---- what links them

abbrev pub object_link : List Token → Bool × List Token
object_link (token.Sign signs.Comma ∷ ts) = (true, ts)
object_link ts = (false, ts)

abbrev pub skip_semicolons : List Token → List Token
skip_semicolons (token.Sign signs.Semicolon ∷ ts) = skip_semicolons ts
skip_semicolons ts = ts

abbrev pub property_link : List Token → Bool × List Token
property_link (token.Sign signs.Semicolon ∷ ts) = (begins_verb (skip_semicolons ts), skip_semicolons ts)
property_link ts = (false, ts)

abbrev pub triple_link : List Token → Bool × List Token
triple_link (token.Sign signs.Dot ∷ ts) = (begins_node ts, ts)
triple_link ts = (false, ts)

-- ---- triples

unfoldable pub objects_at : Reader (List Node)
objects_at ts = many object_at object_link ts

unfoldable pub property_at : Reader Property
property_at ts = do
  v ← verb_at ts
  os ← objects_at v.1
  Some (record { verb = v.0; objects = os.0 }, os.1)

unfoldable pub properties_at : Reader (List Property)
properties_at ts = many property_at property_link ts

unfoldable pub same_at : Reader SameSubject
same_at ts = do
  x ← node_at ts
  ps ← properties_at x.1
  Some (record { subject = x.0; properties = ps.0 }, ps.1)

unfoldable pub triples_at : Reader (List SameSubject)
triples_at ts = many same_at triple_link ts

unfoldable pub maybe_triples_at : Reader (List SameSubject)
maybe_triples_at ts = if begins_node ts then triples_at ts else Some ([], ts)

-- ---- quads

-- what follows a dot, or all where there is none
abbrev pub after_dot : List Token → List Token
after_dot ts = option_map_or (λ r. r) (sign_at signs.Dot ts) ts

-- '{' [Triples] '}'
unfoldable pub braced_at : Reader (List SameSubject)
braced_at ts = do
  inside ← sign_at signs.OpenBrace ts
  xs ← maybe_triples_at inside
  rest ← sign_at signs.CloseBrace xs.1
  Some (xs.0, rest)

-- the block of a graph, behind 'GRAPH'
unfoldable pub graph_block_at : Reader Block
graph_block_at ts = do
  g ← graph_name_at ts
  xs ← braced_at g.1
  Some (record { graph = Some g.0; triples = xs.0 }, after_dot xs.1)

unfoldable pub default_block_at : Reader Block
default_block_at ts = do
  xs ← maybe_triples_at ts
  Some (record { graph = None; triples = xs.0 }, xs.1)

-- the two blocks behind 'GRAPH'
unfoldable pub section_at : Reader (Block × Block)
section_at ts = do
  b ← graph_block_at ts
  c ← default_block_at b.1
  Some ((b.0, c.0), c.1)

-- with n steps at most
abbrev pub blocks_from : ℕ → Reader (List Block)
blocks_from zero ts = None
blocks_from (suc n) ts = option_map_or
    (λ r. section_at r >>= λ x. blocks_from n x.1 >>= λ later. Some (x.0.0 ∷ x.0.1 ∷ later.0, later.1))
    (keyword_at (codes "GRAPH") ts)
    (sign_at signs.CloseBrace ts >>= λ rest. Some ([], rest))

unfoldable pub blocks_at : Reader (List Block)
blocks_at ts = blocks_from (length ts) ts

-- a first block, and those that follow
unfoldable pub blocks_behind : Block → Reader (List Block)
blocks_behind b ts = do
  later ← blocks_at ts
  Some (b ∷ later.0, later.1)

unfoldable pub quads_at : Reader (List Block)
quads_at ts = do
  inside ← sign_at signs.OpenBrace ts
  b ← default_block_at inside
  blocks_behind b.0 b.1
