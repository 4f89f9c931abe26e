-- Which orders beside SPOG are wanted, after one more of what wants them.
use Rattle.std.specs.Prelude.{Bool, true, false, List, [], ◌∷◌, ◌++◌, Ok, Err, if◌then◌else◌}
use Rattle.std.specs.List.{fold}
use Rattle.algebra.specs.declared.pattern.Place.{Place}
use Rattle.algebra.specs.declared.pattern.Place.TheVariants as place
use Rattle.algebra.specs.declared.pattern.TriplePattern.{TriplePattern}
use Rattle.algebra.specs.declared.plan.Link.{Link}
use Rattle.algebra.specs.Plans.{Plan, Basic, Join, LeftJoin, Union, Minus, Filter, InGraph}
use Rattle.algebra.specs.declared.update.GraphOperation.{GraphOperation}
use Rattle.algebra.specs.declared.update.GraphOperation.TheVariants as graphs
use Rattle.algebra.specs.declared.update.Operation.{Operation}
use Rattle.algebra.specs.declared.update.Operation.TheVariants as operation
use Rattle.meaning.specs.Run.{Request}
use Rattle.quad_lists.specs.declared.key.Arrangement.{Arrangement}
use Rattle.quad_lists.specs.declared.key.Arrangement.TheVariants.{Pogs, Ogsp, Gspo, Gpso}
use Rattle.terms.specs.declared.term.Term.{Term}
use Rattle.numbering.specs.declared.orders.Wanted.{Wanted}

abbrev pub none_wanted : Wanted
none_wanted = record { pogs = false; ogsp = false; gspo = false; gpso = false }

abbrev pub with_pogs : Wanted → Wanted
with_pogs w = record { pogs = true; ogsp = w.ogsp; gspo = w.gspo; gpso = w.gpso }

abbrev pub with_ogsp : Wanted → Wanted
with_ogsp w = record { pogs = w.pogs; ogsp = true; gspo = w.gspo; gpso = w.gpso }

abbrev pub with_gspo : Wanted → Wanted
with_gspo w = record { pogs = w.pogs; ogsp = w.ogsp; gspo = true; gpso = w.gpso }

abbrev pub with_gpso : Wanted → Wanted
with_gpso w = record { pogs = w.pogs; ogsp = w.ogsp; gspo = w.gspo; gpso = true }

-- the order that begins with a triple pattern's terms and a graph
abbrev pub with_places : Place Term → Place Term → Place Term → Wanted → Wanted
with_places (place.Term s) (place.Term p) (place.Term o) w = w
with_places (place.Term s) (place.Term p) (place.Variable o) w = with_gspo w
with_places (place.Term s) (place.Variable p) (place.Term o) w = with_ogsp w
with_places (place.Term s) (place.Variable p) (place.Variable o) w = with_gspo w
with_places (place.Variable s) (place.Term p) (place.Term o) w = with_pogs w
with_places (place.Variable s) (place.Term p) (place.Variable o) w = with_gpso w
with_places (place.Variable s) (place.Variable p) (place.Term o) w = with_ogsp w
with_places (place.Variable s) (place.Variable p) (place.Variable o) w = with_gspo w

abbrev pub with_pattern : Wanted → TriplePattern Term → Wanted
with_pattern w t = with_places t.subject t.predicate t.object w

abbrev pub with_plan : Wanted → Plan Term → Wanted
with_plan w (Basic ts) = fold with_pattern w ts
with_plan w (Join a b) = with_plan (with_plan w a) b
with_plan w (LeftJoin a b es) = with_plan (with_plan w a) b
with_plan w (Union a b) = with_plan (with_plan w a) b
with_plan w (Minus a b) = with_plan (with_plan w a) b
with_plan w (Filter es a) = with_plan w a
with_plan w (InGraph n a) = with_plan w a

abbrev pub with_part : Wanted → Link Term × Plan Term → Wanted
with_part w part = with_plan w part.1

abbrev pub with_graphs : Wanted → GraphOperation Term → Wanted
with_graphs w (graphs.Create g) = w
with_graphs w (graphs.Drop t) = with_gspo w
with_graphs w (graphs.Clear t) = with_gspo w
with_graphs w (graphs.Transfer how from to) = with_gspo w

abbrev pub with_operation : Wanted → Operation Term → Wanted
with_operation w (operation.Modify m) = with_plan w m.pattern
with_operation w (operation.Graphs silent op) = with_graphs w op

abbrev pub with_request : Wanted → Request Term → Wanted
with_request w (Ok operations) = fold with_operation w operations
with_request w (Err kind) = w

-- an order, if it is wanted
abbrev pub order_if : Bool → Arrangement → List Arrangement
order_if so a = if so then a ∷ [] else []

abbrev pub orders_in : Wanted → List Arrangement
orders_in w = order_if w.pogs Pogs ++ order_if w.ogsp Ogsp ++ order_if w.gspo Gspo ++ order_if w.gpso Gpso
