-- Reading the productions from left to right, each with one token of look-ahead.
use Rattle.std.specs.Prelude.{ℕ, zero, suc, Bool, true, false, List, [], ◌∷◌, ◌++◌, map, length, Option, Some, None, codes, if◌then◌else◌}
use Rattle.std.specs.Option.{option_map_or}
use Rattle.iris.specs.Bracketed.{◌>>=◌}
use Rattle.lexer.specs.declared.token.Token.{Token}
use Rattle.lexer.specs.declared.token.Sign.TheVariants as signs
use Rattle.syntax_trees.specs.Groups.{Part, Triples, Union, Optional, Minus, InGraph, Filter, group, groups}
use Rattle.productions.specs.Steps.{Reader}
use Rattle.productions.specs.Signs.{sign_at}
use Rattle.productions.specs.Keywords.{keyword_at}
use Rattle.productions.specs.Many.{many}
use Rattle.expressions.specs.Reading.{constraint_at}
use Rattle.triples.specs.Reading.{begins_node, graph_name_at, triples_at, after_dot}
use Rattle.groups.specs.Reads.{are_unlabelled}

-- what is read, behind the parts before it
abbrev pub behind : List Part → Option (List Part × List Token) → Option (List Part × List Token)
behind front read = read >>= λ x. Some (front ++ x.0, x.1)

-- ---- triples

unfoldable pub unlabelled_at : Reader (List Part)
unlabelled_at ts = do
  xs ← triples_at ts
  if are_unlabelled xs.0 then Some (Triples xs.0 ∷ [], xs.1) else None

unfoldable pub front_at : Reader (List Part)
front_at ts = if begins_node ts then unlabelled_at ts else Some ([], ts)

-- ---- parts

abbrev pub union_link : List Token → Bool × List Token
union_link ts = option_map_or (λ r. (true, r)) (keyword_at (codes "UNION") ts) (false, ts)

unfoldable pub union_with : Reader (List Part) → Reader Part
union_with inner ts = do
  gs ← many inner union_link ts
  Some (Union (groups (map group gs.0)), gs.1)

unfoldable pub optional_with : Reader (List Part) → Reader Part
optional_with inner ts = do
  g ← inner ts
  Some (Optional (group g.0), g.1)

unfoldable pub minus_with : Reader (List Part) → Reader Part
minus_with inner ts = do
  g ← inner ts
  Some (Minus (group g.0), g.1)

unfoldable pub graph_with : Reader (List Part) → Reader Part
graph_with inner ts = do
  x ← graph_name_at ts
  g ← inner x.1
  Some (InGraph x.0 (group g.0), g.1)

unfoldable pub filter_at : ℕ → Reader Part
filter_at n ts = do
  e ← constraint_at n ts
  Some (Filter e.0, e.1)

-- a part by its keyword, or the groups of a union
unfoldable pub part_with : ℕ → Reader (List Part) → Reader Part
part_with n inner ts =
    option_map_or (optional_with inner) (keyword_at (codes "OPTIONAL") ts)
    (option_map_or (minus_with inner) (keyword_at (codes "MINUS") ts)
    (option_map_or (graph_with inner) (keyword_at (codes "GRAPH") ts)
    (option_map_or (filter_at n) (keyword_at (codes "FILTER") ts)
    (union_with inner ts))))

-- Part ['.'] [Triples]
unfoldable pub item_with : ℕ → Reader (List Part) → Reader (List Part)
item_with n inner ts = do
  p ← part_with n inner ts
  xs ← front_at (after_dot p.1)
  Some (p.0 ∷ xs.0, xs.1)

-- items up to '}', with k steps at most
abbrev pub items_from : Reader (List Part) → ℕ → Reader (List Part)
items_from item zero ts = None
items_from item (suc k) ts = option_map_or (λ rest. Some ([], rest)) (sign_at signs.CloseBrace ts) (item ts >>= λ x. behind x.0 (items_from item k x.1))

abbrev pub items : Reader (List Part) → Reader (List Part)
items item ts = items_from item (length ts) ts

-- [Triples] { Part ['.'] [Triples] } '}'
unfoldable pub parts_with : ℕ → Reader (List Part) → Reader (List Part)
parts_with n inner ts = do
  xs ← front_at ts
  behind xs.0 (items (item_with n inner) xs.1)

unfoldable pub braces_with : ℕ → Reader (List Part) → Reader (List Part)
braces_with n inner ts = do
  r ← sign_at signs.OpenBrace ts
  parts_with n inner r

unfoldable pub group_at : ℕ → Reader (List Part)
group_at zero ts = None
group_at (suc n) ts = braces_with n (group_at n) ts
