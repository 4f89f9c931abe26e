-- The grammar of operations and requests, by its productions, on lists of tokens. (SPARQL 1.1
-- Update, 19.8: productions 29 to 52, in this profile.) `ReadsX ts x rest`: the production reads x
-- at the front of the tokens ts, and rest follows.
use Rattle.std.specs.Prelude.{◌≡◌, ℕ, Bool, true, false, List, [], ◌∷◌, length, codes, Option, Some, None}
use Rattle.lexer.specs.Cut.{Cuts}
use Rattle.lexer.specs.declared.token.Token.{Token}
use Rattle.lexer.specs.declared.token.Token.TheVariants as token
use Rattle.lexer.specs.declared.token.Sign.TheVariants as signs
use Rattle.syntax_trees.specs.Groups.{Part}
use Rattle.syntax_trees.specs.declared.tree.Name.{Name}
use Rattle.syntax_trees.specs.declared.tree.Block.{Block}
use Rattle.algebra.specs.declared.update.Target.{Target}
use Rattle.algebra.specs.declared.update.Target.TheVariants as target
use Rattle.syntax_trees.specs.declared.tree.Place.{Place}
use Rattle.syntax_trees.specs.declared.tree.Place.TheVariants as place
use Rattle.algebra.specs.declared.update.Transfer.{Transfer}
use Rattle.algebra.specs.declared.update.Transfer.TheVariants as transfer
use Rattle.syntax_trees.specs.declared.tree.Operation.{Operation}
use Rattle.syntax_trees.specs.declared.tree.Operation.TheVariants as operation
use Rattle.syntax_trees.specs.declared.tree.Step.{Step}
use Rattle.syntax_trees.specs.declared.tree.Step.TheVariants as step
use Rattle.syntax_trees.specs.declared.tree.Syntax.{Syntax}
use Rattle.productions.specs.Names.{ReadsName}
use Rattle.productions.specs.Keywords.{ReadsKeyword}
use Rattle.triples.specs.Reads.{ReadsQuads}
use Rattle.groups.specs.Reads.{ReadsGroup}

-- ['SILENT']
pub data ReadsSilent : List Token → Bool → List Token → Type 0 where
  silent : {ts rest : List Token} → ReadsKeyword (codes "SILENT") ts rest → ReadsSilent ts true rest
  not_silent : {rest : List Token} → ReadsSilent rest false rest

-- 'GRAPH' Iri
pub data ReadsGraph : List Token → Name → List Token → Type 0 where
  graph : {ts r rest : List Token} {n : Name} → ReadsKeyword (codes "GRAPH") ts r → ReadsName r n rest → ReadsGraph ts n rest

-- 'GRAPH' Iri | 'DEFAULT' | 'NAMED' | 'ALL'
pub data ReadsTarget : List Token → Target Name → List Token → Type 0 where
  in_graph : {ts rest : List Token} {n : Name} → ReadsGraph ts n rest → ReadsTarget ts (target.Graph n) rest
  default : {ts rest : List Token} → ReadsKeyword (codes "DEFAULT") ts rest → ReadsTarget ts target.Default rest
  named : {ts rest : List Token} → ReadsKeyword (codes "NAMED") ts rest → ReadsTarget ts target.Named rest
  all : {ts rest : List Token} → ReadsKeyword (codes "ALL") ts rest → ReadsTarget ts target.All rest

-- Place = 'DEFAULT' | ['GRAPH'] Iri
pub data ReadsPlace : List Token → Place → List Token → Type 0 where
  default : {ts rest : List Token} → ReadsKeyword (codes "DEFAULT") ts rest → ReadsPlace ts place.Default rest
  in_graph : {ts rest : List Token} {n : Name} → ReadsGraph ts n rest → ReadsPlace ts (place.Graph n) rest
  name : {ts rest : List Token} {n : Name} → ReadsName ts n rest → ReadsPlace ts (place.Graph n) rest

-- 'COPY' | 'MOVE' | 'ADD'
pub data ReadsTransfer : List Token → Transfer → List Token → Type 0 where
  copy : {ts rest : List Token} → ReadsKeyword (codes "COPY") ts rest → ReadsTransfer ts transfer.Copy rest
  move : {ts rest : List Token} → ReadsKeyword (codes "MOVE") ts rest → ReadsTransfer ts transfer.Move rest
  add : {ts rest : List Token} → ReadsKeyword (codes "ADD") ts rest → ReadsTransfer ts transfer.Add rest

-- ['WITH' Iri]
pub data ReadsWith : List Token → Option Name → List Token → Type 0 where
  with : {ts r rest : List Token} {n : Name} → ReadsKeyword (codes "WITH") ts r → ReadsName r n rest → ReadsWith ts (Some n) rest
  without : {rest : List Token} → ReadsWith rest None rest

-- Change = 'DELETE' Quads ['INSERT' Quads] | 'INSERT' Quads, with the templates of both: one that
-- isn't there is empty
pub data ReadsChange : List Token → List Block → List Block → List Token → Type 0 where
  delete : {ts r rest : List Token} {xs : List Block} → ReadsKeyword (codes "DELETE") ts r → ReadsQuads r xs rest → ReadsChange ts xs [] rest
  insert : {ts r rest : List Token} {ys : List Block} → ReadsKeyword (codes "INSERT") ts r → ReadsQuads r ys rest → ReadsChange ts [] ys rest
  both : {ts r u v rest : List Token} {xs ys : List Block} → ReadsKeyword (codes "DELETE") ts r → ReadsQuads r xs u → ReadsKeyword (codes "INSERT") u v → ReadsQuads v ys rest
      → ReadsChange ts xs ys rest

-- how deep braces and parentheses nest at most
unfoldable pub most_nested : ℕ
most_nested = 64

-- Operation = 'CREATE' ['SILENT'] 'GRAPH' Iri
--           | ('DROP' | 'CLEAR') ['SILENT'] ('GRAPH' Iri | 'DEFAULT' | 'NAMED' | 'ALL')
--           | ('COPY' | 'MOVE' | 'ADD') ['SILENT'] Place 'TO' Place
--           | 'INSERT' 'DATA' Quads | 'DELETE' 'DATA' Quads | 'DELETE' 'WHERE' Quads
--           | ['WITH' Iri] Change 'WHERE' Group
pub data ReadsOperation : List Token → Operation → List Token → Type 0 where
  create : {ts r u rest : List Token} {s : Bool} {n : Name} → ReadsKeyword (codes "CREATE") ts r → ReadsSilent r s u → ReadsGraph u n rest → ReadsOperation ts (operation.Create s n) rest
  drop : {ts r u rest : List Token} {s : Bool} {t : Target Name} → ReadsKeyword (codes "DROP") ts r → ReadsSilent r s u → ReadsTarget u t rest → ReadsOperation ts (operation.Drop s t) rest
  clear : {ts r u rest : List Token} {s : Bool} {t : Target Name} → ReadsKeyword (codes "CLEAR") ts r → ReadsSilent r s u → ReadsTarget u t rest → ReadsOperation ts (operation.Clear s t) rest
  transferred : {ts r u v w rest : List Token} {how : Transfer} {s : Bool} {from to : Place} → ReadsTransfer ts how r → ReadsSilent r s u → ReadsPlace u from v
      → ReadsKeyword (codes "TO") v w → ReadsPlace w to rest → ReadsOperation ts (operation.Transfer how s from to) rest
  insert_data : {ts r u rest : List Token} {xs : List Block} → ReadsKeyword (codes "INSERT") ts r → ReadsKeyword (codes "DATA") r u → ReadsQuads u xs rest → ReadsOperation ts (operation.InsertData xs) rest
  delete_data : {ts r u rest : List Token} {xs : List Block} → ReadsKeyword (codes "DELETE") ts r → ReadsKeyword (codes "DATA") r u → ReadsQuads u xs rest → ReadsOperation ts (operation.DeleteData xs) rest
  delete_where : {ts r u rest : List Token} {xs : List Block} → ReadsKeyword (codes "DELETE") ts r → ReadsKeyword (codes "WHERE") r u → ReadsQuads u xs rest → ReadsOperation ts (operation.DeleteWhere xs) rest
  modify : {ts r u v rest : List Token} {with : Option Name} {xs ys : List Block} {ps : List Part} → ReadsWith ts with r → ReadsChange r xs ys u → ReadsKeyword (codes "WHERE") u v
      → ReadsGroup most_nested v ps rest → ReadsOperation ts (operation.Modify with xs ys ps) rest

-- Request = { 'PREFIX' namespace IRI } [ Operation [ ';' Request ] ], and nothing after it
pub data ReadsRequest : List Token → List Step → Type 0 where
  nothing : ReadsRequest [] []
  prefix : {ts rest : List Token} {p i : List ℕ} {steps : List Step} → ReadsKeyword (codes "PREFIX") ts (token.Name p [] ∷ token.Iri i ∷ rest) → ReadsRequest rest steps
      → ReadsRequest ts (step.Declare p i ∷ steps)
  last : {ts : List Token} {x : Operation} → ReadsOperation ts x [] → ReadsRequest ts (step.Do x ∷ [])
  next : {ts rest : List Token} {x : Operation} {steps : List Step} → ReadsOperation ts x (token.Sign signs.Semicolon ∷ rest) → ReadsRequest rest steps → ReadsRequest ts (step.Do x ∷ steps)

-- the text is cut into tokens, and they are read so
pub record Reads (text : List ℕ) (syntax : Syntax) : Type 0 where
  pub tokens : List Token
  pub cut : Cuts text tokens
  pub request : ReadsRequest tokens syntax.steps
  pub bytes : syntax.length ≡ length text

-- what is found is the one reading of the text; or the text has none
abbrev pub IsParsed : List ℕ → Option Syntax → Type 0
IsParsed text None = (other : Syntax) → Reads text other → ⊥
IsParsed text (Some syntax) = Reads text syntax × ((other : Syntax) → Reads text other → other ≡ syntax)
