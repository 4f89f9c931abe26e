-- Reading the productions from left to right, each with one token of look-ahead.
use Rattle.std.specs.Prelude.{ℕ, ◌≡◌, Bool, true, false, List, [], ◌∷◌, length, Option, Some, None, Result, Ok, Err, codes}
use Rattle.std.specs.Option.{option_map_or}
use Rattle.iris.specs.Bracketed.{◌>>=◌}
use Rattle.lexer.specs.declared.token.Token.{Token}
use Rattle.lexer.specs.declared.token.Token.TheVariants as token
use Rattle.lexer.specs.declared.token.Sign.TheVariants as signs
use Rattle.lexer.specs.declared.stop.Stop.{Stop}
use Rattle.lexer.specs.declared.stop.Stop.TheVariants as stop
use Rattle.syntax_trees.specs.Groups.{Part}
use Rattle.syntax_trees.specs.declared.tree.Name.{Name}
use Rattle.syntax_trees.specs.declared.tree.Block.{Block}
use Rattle.algebra.specs.declared.update.Target.{Target}
use Rattle.algebra.specs.declared.update.Target.TheVariants as target
use Rattle.syntax_trees.specs.declared.tree.Place.{Place}
use Rattle.syntax_trees.specs.declared.tree.Place.TheVariants as place
use Rattle.algebra.specs.declared.update.Transfer.{Transfer}
use Rattle.algebra.specs.declared.update.Transfer.TheVariants as transfer
use Rattle.syntax_trees.specs.declared.tree.Operation.{Operation}
use Rattle.syntax_trees.specs.declared.tree.Operation.TheVariants as operation
use Rattle.syntax_trees.specs.declared.tree.Step.{Step}
use Rattle.syntax_trees.specs.declared.tree.Step.TheVariants as step
use Rattle.productions.specs.Steps.{Reader}
use Rattle.productions.specs.Keywords.{keyword_at}
use Rattle.productions.specs.Reading.{name_at}
use Rattle.triples.specs.Reading.{quads_at}
use Rattle.groups.specs.Reading.{group_at}
use Rattle.grammar.specs.Reads.{most_nested, ReadsRequest, IsParsed}

-- ---- graphs

abbrev pub silent_at : List Token → Bool × List Token
silent_at ts = option_map_or (λ r. (true, r)) (keyword_at (codes "SILENT") ts) (false, ts)

unfoldable pub graph_at : Reader Name
graph_at ts = keyword_at (codes "GRAPH") ts >>= name_at

-- a target, or a place, that is a name
unfoldable pub graph_target_at : Reader (Target Name)
graph_target_at ts = do
  n ← graph_at ts
  Some (target.Graph n.0, n.1)

unfoldable pub target_at : Reader (Target Name)
target_at ts =
    option_map_or (λ r. Some (target.Default, r)) (keyword_at (codes "DEFAULT") ts)
    (option_map_or (λ r. Some (target.Named, r)) (keyword_at (codes "NAMED") ts)
    (option_map_or (λ r. Some (target.All, r)) (keyword_at (codes "ALL") ts)
    (graph_target_at ts)))

unfoldable pub name_place_at : Reader Place
name_place_at ts = do
  n ← name_at ts
  Some (place.Graph n.0, n.1)

unfoldable pub place_at : Reader Place
place_at ts =
    option_map_or (λ r. Some (place.Default, r)) (keyword_at (codes "DEFAULT") ts)
    (option_map_or name_place_at (keyword_at (codes "GRAPH") ts)
    (name_place_at ts))

-- ---- operations on graphs, behind their first word

unfoldable pub create_at : Reader Operation
create_at ts = do
  n ← graph_at (silent_at ts).1
  Some (operation.Create (silent_at ts).0 n.0, n.1)

unfoldable pub drop_at : Reader Operation
drop_at ts = do
  t ← target_at (silent_at ts).1
  Some (operation.Drop (silent_at ts).0 t.0, t.1)

unfoldable pub clear_at : Reader Operation
clear_at ts = do
  t ← target_at (silent_at ts).1
  Some (operation.Clear (silent_at ts).0 t.0, t.1)

unfoldable pub transfer_at : Transfer → Reader Operation
transfer_at how ts = do
  from ← place_at (silent_at ts).1
  r ← keyword_at (codes "TO") from.1
  to ← place_at r
  Some (operation.Transfer how (silent_at ts).0 from.0 to.0, to.1)

-- ---- operations on quads, behind their first word

-- WHERE and its group
unfoldable pub where_at : Reader (List Part)
where_at ts = keyword_at (codes "WHERE") ts >>= group_at most_nested

-- INSERT and its template after those of DELETE, or nothing
unfoldable pub also_at : Reader (List Block)
also_at ts = option_map_or quads_at (keyword_at (codes "INSERT") ts) (Some ([], ts))

unfoldable pub insert_data_at : Reader Operation
insert_data_at ts = do
  xs ← quads_at ts
  Some (operation.InsertData xs.0, xs.1)

unfoldable pub delete_data_at : Reader Operation
delete_data_at ts = do
  xs ← quads_at ts
  Some (operation.DeleteData xs.0, xs.1)

unfoldable pub delete_where_at : Reader Operation
delete_where_at ts = do
  xs ← quads_at ts
  Some (operation.DeleteWhere xs.0, xs.1)

unfoldable pub insert_at : Option Name → Reader Operation
insert_at with ts = do
  ys ← quads_at ts
  ps ← where_at ys.1
  Some (operation.Modify with [] ys.0 ps.0, ps.1)

unfoldable pub delete_at : Option Name → Reader Operation
delete_at with ts = do
  xs ← quads_at ts
  ys ← also_at xs.1
  ps ← where_at ys.1
  Some (operation.Modify with xs.0 ys.0 ps.0, ps.1)

unfoldable pub inserted_at : Reader Operation
inserted_at ts = option_map_or insert_data_at (keyword_at (codes "DATA") ts) (insert_at None ts)

unfoldable pub deleted_at : Reader Operation
deleted_at ts =
    option_map_or delete_data_at (keyword_at (codes "DATA") ts)
    (option_map_or delete_where_at (keyword_at (codes "WHERE") ts)
    (delete_at None ts))

unfoldable pub change_at : Option Name → Reader Operation
change_at with ts = option_map_or (insert_at with) (keyword_at (codes "INSERT") ts) (keyword_at (codes "DELETE") ts >>= delete_at with)

unfoldable pub with_at : Reader Operation
with_at ts = do
  n ← name_at ts
  change_at (Some n.0) n.1

-- operations on quads, and on graphs
unfoldable pub update_at : Reader Operation
update_at ts =
    option_map_or inserted_at (keyword_at (codes "INSERT") ts)
    (option_map_or deleted_at (keyword_at (codes "DELETE") ts)
    (keyword_at (codes "WITH") ts >>= with_at))

unfoldable pub transferred_at : Reader Operation
transferred_at ts =
    option_map_or (transfer_at transfer.Copy) (keyword_at (codes "COPY") ts)
    (option_map_or (transfer_at transfer.Move) (keyword_at (codes "MOVE") ts)
    (option_map_or (transfer_at transfer.Add) (keyword_at (codes "ADD") ts)
    (update_at ts)))

unfoldable pub operation_at : Reader Operation
operation_at ts =
    option_map_or create_at (keyword_at (codes "CREATE") ts)
    (option_map_or drop_at (keyword_at (codes "DROP") ts)
    (option_map_or clear_at (keyword_at (codes "CLEAR") ts)
    (transferred_at ts)))

-- ---- requests

abbrev pub namespace_at : Reader (List ℕ)
namespace_at (token.Name p [] ∷ ts) = Some (p, ts)
namespace_at ts = None

abbrev pub reference_at : Reader (List ℕ)
reference_at (token.Iri i ∷ ts) = Some (i, ts)
reference_at ts = None

-- a namespace and its IRI
unfoldable pub declared_at : Reader Step
declared_at ts = do
  p ← namespace_at ts
  i ← reference_at p.1
  Some (step.Declare p.0 i.0, i.1)

-- what follows a `;`, or nothing where nothing is left
abbrev pub ended_at : List Token → Option (List Token)
ended_at [] = Some []
ended_at (token.Sign signs.Semicolon ∷ ts) = Some ts
ended_at ts = None

unfoldable pub done_at : Reader Step
done_at ts = do
  x ← operation_at ts
  rest ← ended_at x.1
  Some (step.Do x.0, rest)

unfoldable pub step_at : Reader Step
step_at ts = option_map_or declared_at (keyword_at (codes "PREFIX") ts) (done_at ts)

-- the reading of the tokens and no other; or they have none; or memory ran out
abbrev pub AreRead : List Token → Result (List Step) Stop → Type 0
AreRead ts (Ok steps) = ReadsRequest ts steps × ((other : List Step) → ReadsRequest ts other → other ≡ steps)
AreRead ts (Err stop.NoReading) = (other : List Step) → ReadsRequest ts other → ⊥
AreRead ts (Err stop.Memory) = Unit {0}

-- the same of a text
abbrev pub IsRead : List ℕ → Result (List Step) Stop → Type 0
IsRead text (Ok steps) = IsParsed text (Some (record { steps = steps; length = length text }))
IsRead text (Err stop.NoReading) = IsParsed text None
IsRead text (Err stop.Memory) = Unit {0}
