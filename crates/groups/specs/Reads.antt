-- The grammar of groups, by its productions, on lists of tokens (SPARQL 1.1 Query, 19.8,
-- productions 53 to 58 and 66 to 69, in this profile). `ReadsX ts x rest`: the production reads x
-- at the front of the tokens ts, and rest follows. A group is read as the list of its parts;
-- triples that are there are one part. `Inner` is a group inside, and n is how deep braces and
-- parentheses nest in it at most.
use Rattle.std.specs.Prelude.{ℕ, zero, suc, ◌≡◌, ◌&&◌, not, Bool, true, false, List, [], ◌∷◌, ◌++◌, map, codes}
use Rattle.std.specs.List.{list_all}
use Rattle.lexer.specs.declared.token.Token.{Token}
use Rattle.lexer.specs.declared.token.Token.TheVariants as token
use Rattle.lexer.specs.declared.token.Sign.TheVariants as signs
use Rattle.syntax_trees.specs.declared.tree.Node.{Node}
use Rattle.syntax_trees.specs.declared.tree.Node.TheVariants as node
use Rattle.syntax_trees.specs.declared.tree.Property.{Property}
use Rattle.syntax_trees.specs.declared.tree.SameSubject.{SameSubject}
use Rattle.syntax_trees.specs.Expressions.{Tree}
use Rattle.syntax_trees.specs.Groups.{Part, Triples, Union, Optional, Minus, InGraph, Filter, group, groups}
use Rattle.productions.specs.Steps.{Production}
use Rattle.productions.specs.Keywords.{is_keyword}
use Rattle.productions.specs.Many.{Many}
use Rattle.expressions.specs.Grammar.{ReadsConstraint}
use Rattle.triples.specs.Reads.{ReadsGraphName, ReadsTriples, ReadsMaybeDot}

-- no label of a blank node stands in the triples: their nodes, their properties, what is said of
-- one subject, and all
abbrev pub is_label : Node → Bool
is_label (node.Blank l) = true
is_label x = false

abbrev pub property_unlabelled : Property → Bool
property_unlabelled p = list_all (λ x. not (is_label x)) p.objects

abbrev pub are_properties_unlabelled : List Property → Bool
are_properties_unlabelled = list_all property_unlabelled

abbrev pub same_unlabelled : SameSubject → Bool
same_unlabelled s = not (is_label s.subject) && are_properties_unlabelled s.properties

abbrev pub are_unlabelled : List SameSubject → Bool
are_unlabelled = list_all same_unlabelled

-- [Triples], as a part or none
pub data ReadsFront : List Token → List Part → List Token → Type 0 where
  triples : {ts rest : List Token} {xs : List SameSubject} → ReadsTriples ts xs rest → are_unlabelled xs ≡ true → ReadsFront ts (Triples xs ∷ []) rest
  no_triples : {rest : List Token} → ReadsFront rest [] rest

-- { 'UNION' .. }: the word leads to a next group
pub data UnionLink : List Token → Bool → List Token → Type 0 where
  or_group : {w : List ℕ} {rest : List Token} → is_keyword w (codes "UNION") ≡ true → UnionLink (token.Word w ∷ rest) true rest
  no_union : {rest : List Token} → UnionLink rest false rest

-- Part = Group { 'UNION' Group } | 'OPTIONAL' Group | 'MINUS' Group | 'GRAPH' VarIri Group |
-- 'FILTER' ( '(' Expr ')' | Call )
pub data ReadsPart (n : ℕ) (Inner : Production (List Part)) : List Token → Part → List Token → Type 0 where
  union : {ts rest : List Token} {gs : List (List Part)} → Many Inner UnionLink ts gs rest → ReadsPart n Inner ts (Union (groups (map group gs))) rest
  optional : {w : List ℕ} {ts rest : List Token} {g : List Part} → is_keyword w (codes "OPTIONAL") ≡ true → Inner ts g rest → ReadsPart n Inner (token.Word w ∷ ts) (Optional (group g)) rest
  minus : {w : List ℕ} {ts rest : List Token} {g : List Part} → is_keyword w (codes "MINUS") ≡ true → Inner ts g rest → ReadsPart n Inner (token.Word w ∷ ts) (Minus (group g)) rest
  in_graph : {w : List ℕ} {ts r rest : List Token} {x : Node} {g : List Part} → is_keyword w (codes "GRAPH") ≡ true → ReadsGraphName ts x r → Inner r g rest
      → ReadsPart n Inner (token.Word w ∷ ts) (InGraph x (group g)) rest
  filter : {w : List ℕ} {ts rest : List Token} {e : Tree} → is_keyword w (codes "FILTER") ≡ true → ReadsConstraint n ts e rest → ReadsPart n Inner (token.Word w ∷ ts) (Filter e) rest

-- { Part ['.'] [Triples] } '}'
pub data ReadsParts (n : ℕ) (Inner : Production (List Part)) : List Token → List Part → List Token → Type 0 where
  close : {rest : List Token} → ReadsParts n Inner (token.Sign signs.CloseBrace ∷ rest) [] rest
  part : {ts r u v rest : List Token} {p : Part} (xs ps : List Part) → ReadsPart n Inner ts p r → ReadsMaybeDot r u → ReadsFront u xs v → ReadsParts n Inner v ps rest
      → ReadsParts n Inner ts (p ∷ xs ++ ps) rest

-- Group = '{' [Triples] { Part ['.'] [Triples] } '}'
pub data ReadsBraces (n : ℕ) (Inner : Production (List Part)) : List Token → List Part → List Token → Type 0 where
  braces : {ts r rest : List Token} (xs ps : List Part) → ReadsFront ts xs r → ReadsParts n Inner r ps rest → ReadsBraces n Inner (token.Sign signs.OpenBrace ∷ ts) (xs ++ ps) rest

-- a group in which braces and parentheses nest at most n deep, its own included
unfoldable pub ReadsGroup : ℕ → Production (List Part)
ReadsGroup zero ts ps rest = ⊥
ReadsGroup (suc n) ts ps rest = ReadsBraces n (ReadsGroup n) ts ps rest
