-- The orders that are wanted are those of the scans.
use Rattle.std.specs.Prelude.{is_some, is_none, Ok, Err, Option, Some, None}
use Rattle.std.proofs.Common.{◌≡◌, Bool, true, false, ◌&&◌, ◌||◌, List, [], ◌∷◌, ◌++◌, map, refl, sym, ap, ◌∙◌, subst}
use Rattle.std.specs.List.{fold, list_any, Contains}
use Rattle.std.specs.Global.{Vec, Box}
use Rattle.std.proofs.lemmas.Bool.{and_parts, false≢true}
use Rattle.std.proofs.lemmas.List.Elements.{Contains-push, Contains-append_left, Contains-append_right}
use Rattle.datasets.specs.declared.id.Id.{Id}
use Rattle.datasets.specs.declared.read.GraphPlace.{GraphPlace}
use Rattle.datasets.specs.declared.read.GraphPlace.TheVariants.{Any, Only}
use Rattle.datasets.specs.declared.read.QuadPattern.{QuadPattern}
use Rattle.algebra.specs.declared.pattern.Place.{Place}
use Rattle.algebra.specs.declared.pattern.Place.TheVariants as place
use Rattle.algebra.specs.declared.pattern.TriplePattern.{TriplePattern}
use Rattle.algebra.specs.declared.expression.Expression.{Expression as KeptExpression}
use Rattle.algebra.specs.declared.plan.Link.{Link}
use Rattle.algebra.specs.declared.plan.Link.TheVariants as link
use Rattle.algebra.specs.declared.plan.Plan.{Plan as Kept, fold-roll-Plan}
use Rattle.algebra.specs.declared.plan.Plan.TheOpen.{Plan-F}
use Rattle.algebra.specs.declared.plan.Plan.TheVariants as kept
use Rattle.algebra.specs.declared.plan.Plan.TheVariants.{rolls-InGraph, rolls-Basic}
use Rattle.algebra.specs.declared.update.GraphOperation.{GraphOperation}
use Rattle.algebra.specs.declared.update.GraphOperation.TheVariants as graphs
use Rattle.algebra.specs.declared.update.Operation.{Operation}
use Rattle.algebra.specs.declared.update.Operation.TheVariants as operation
use Rattle.algebra.specs.Expressions.{Expression, expression_of}
use Rattle.algebra.specs.Plans.{Plan, Basic, Join, LeftJoin, Union, Minus, Filter, InGraph, nothing, linked, linked_all, filtered, united, united_with, parts_of, plan_of, plan_step}
use Rattle.algebra.proofs.Folds.{group_is, union_is}
use Rattle.meaning.specs.Run.{Request}
use Rattle.quad_lists.specs.Keys.{arrangement_by, arrangement_for}
use Rattle.quad_lists.specs.declared.key.Arrangement.{Arrangement}
use Rattle.quad_lists.specs.declared.key.Arrangement.TheVariants.{Spog, Pogs, Ogsp, Gspo, Gpso, Ospg}
use Rattle.terms.specs.declared.term.Term.{Term}
use Rattle.numbering.specs.declared.orders.Wanted.{Wanted}
use Rattle.numbering.specs.Orders.{is_bound_by, is_one_graph, is_scan_for, is_scan_of, is_question, is_whole, is_graph_scan, is_operation_scan, is_request_scan, HasOrders}
use Rattle.numbering.specs.Wanted.{none_wanted, with_gspo, with_places, with_pattern, with_plan, with_part, with_graphs, with_operation, with_request, order_if, orders_in}

-- ---- patterns that are lists

linked_wanted : (w : Wanted) (before : Plan Term) (l : Link Term) (p : Plan Term) → with_plan w (linked before l p) ≡ with_plan (with_plan w before) p
linked_wanted w before link.Join p = refl
linked_wanted w before (link.LeftJoin es) p = refl
linked_wanted w before link.Minus p = refl

all_linked : (w : Wanted) (before : Plan Term) (parts : List (Link Term × Plan Term)) → with_plan w (linked_all before parts) ≡ fold with_part (with_plan w before) parts
all_linked w before [] = refl
all_linked w before (p ∷ ps) = all_linked w (linked before p.0 p.1) ps ∙ ap (λ v. fold with_part v ps) (linked_wanted w before p.0 p.1)

filtered_wanted : (w : Wanted) (es : List (Expression Term)) (p : Plan Term) → with_plan w (filtered es p) ≡ with_plan w p
filtered_wanted w [] p = refl
filtered_wanted w (e ∷ es) p = refl

united_wanted : (w : Wanted) (p : Plan Term) (ps : List (Plan Term)) → with_plan w (united_with p ps) ≡ fold with_plan (with_plan w p) ps
united_wanted w p [] = refl
united_wanted w p (q ∷ qs) = united_wanted w (Union p q) qs

all_united : (w : Wanted) (ps : List (Plan Term)) → with_plan w (united ps) ≡ fold with_plan w ps
all_united w [] = refl
all_united w (p ∷ ps) = united_wanted w p ps

pub group_wanted : (w : Wanted) (parts : Vec (Link Term × Kept Term)) (es : Vec (KeptExpression Term)) → with_plan w (plan_of (kept.Group parts es)) ≡ fold with_part w (parts_of parts.items)
group_wanted w parts es =
    ap (with_plan w) (group_is parts es) ∙ filtered_wanted w (map expression_of es.items) (linked_all nothing (parts_of parts.items)) ∙ all_linked w nothing (parts_of parts.items)

pub union_wanted : (w : Wanted) (ps : Vec (Kept Term)) → with_plan w (plan_of (kept.Union ps)) ≡ fold with_plan w (map plan_of ps.items)
union_wanted w ps = ap (with_plan w) (union_is ps) ∙ all_united w (map plan_of ps.items)

pub graph_wanted : (w : Wanted) (n : Place Term) (p : Box (Kept Term)) → with_plan w (plan_of (kept.InGraph n p)) ≡ with_plan w (plan_of p.value)
graph_wanted w n p = ap (with_plan w) (ap plan_of (sym (rolls-InGraph n p)) ∙ fold-roll-Plan Term (Plan Term) plan_step (Plan-F.InGraph n p))

pub ruleset folded = (group_wanted, union_wanted, graph_wanted)

-- ---- orders that are there stay there

abbrev has : Wanted → Arrangement → Bool
has w Spog = true
has w Pogs = w.pogs
has w Ogsp = w.ogsp
has w Gspo = w.gspo
has w Gpso = w.gpso
has w Ospg = false

abbrev Keeps : Wanted → Wanted → Type 0
Keeps v w = (a : Arrangement) → has v a ≡ true → has w a ≡ true

keeps_gspo : (w : Wanted) → Keeps w (with_gspo w)
keeps_gspo w Spog h = refl
keeps_gspo w Pogs h = h
keeps_gspo w Ogsp h = h
keeps_gspo w Gspo h = refl
keeps_gspo w Gpso h = h
keeps_gspo w Ospg h = h

keeps_places : (s p o : Place Term) (w : Wanted) → Keeps w (with_places s p o w)
keeps_places (place.Term s) (place.Term p) (place.Term o) w a h = h
keeps_places (place.Term s) (place.Term p) (place.Variable o) w a h = keeps_gspo w a h
keeps_places (place.Term s) (place.Variable p) (place.Variable o) w a h = keeps_gspo w a h
keeps_places (place.Variable s) (place.Variable p) (place.Variable o) w a h = keeps_gspo w a h
keeps_places (place.Term s) (place.Variable p) (place.Term o) w a h = keeps_ogsp a h
  where
    keeps_ogsp : Keeps w (with_places (place.Term s) (place.Variable p) (place.Term o) w)
    keeps_ogsp Spog h = refl
    keeps_ogsp Pogs h = h
    keeps_ogsp Ogsp h = refl
    keeps_ogsp Gspo h = h
    keeps_ogsp Gpso h = h
    keeps_ogsp Ospg h = h
keeps_places (place.Variable s) (place.Variable p) (place.Term o) w a h = keeps_ogsp a h
  where
    keeps_ogsp : Keeps w (with_places (place.Variable s) (place.Variable p) (place.Term o) w)
    keeps_ogsp Spog h = refl
    keeps_ogsp Pogs h = h
    keeps_ogsp Ogsp h = refl
    keeps_ogsp Gspo h = h
    keeps_ogsp Gpso h = h
    keeps_ogsp Ospg h = h
keeps_places (place.Variable s) (place.Term p) (place.Variable o) w a h = keeps_gpso a h
  where
    keeps_gpso : Keeps w (with_places (place.Variable s) (place.Term p) (place.Variable o) w)
    keeps_gpso Spog h = refl
    keeps_gpso Pogs h = h
    keeps_gpso Ogsp h = h
    keeps_gpso Gspo h = h
    keeps_gpso Gpso h = refl
    keeps_gpso Ospg h = h
keeps_places (place.Variable s) (place.Term p) (place.Term o) w a h = keeps_pogs a h
  where
    keeps_pogs : Keeps w (with_places (place.Variable s) (place.Term p) (place.Term o) w)
    keeps_pogs Spog h = refl
    keeps_pogs Pogs h = refl
    keeps_pogs Ogsp h = h
    keeps_pogs Gspo h = h
    keeps_pogs Gpso h = h
    keeps_pogs Ospg h = h

keeps_pattern : (t : TriplePattern Term) (w : Wanted) → Keeps w (with_pattern w t)
keeps_pattern t w = keeps_places t.subject t.predicate t.object w

module _ {X : Type 0} (f : Wanted → X → Wanted) (keeps : (x : X) (w : Wanted) → Keeps w (f w x)) where
  keeps_all : (xs : List X) (w : Wanted) → Keeps w (fold f w xs)
  keeps_all [] w a h = h
  keeps_all (x ∷ xs) w a h = keeps_all xs (f w x) a (keeps x w a h)

  -- what each wants is wanted by all
  wants_any : (q : X → Bool) (a : Arrangement) → ((x : X) (w : Wanted) → q x ≡ true → has (f w x) a ≡ true) → (xs : List X) (w : Wanted) → list_any q xs ≡ true → has (fold f w xs) a ≡ true
  wants_any q a wants [] w h = absurd (false≢true h)
  wants_any q a wants (x ∷ xs) w h = by (q x) refl (wants_any q a wants xs (f w x)) h
    where
      by : (b : Bool) → q x ≡ b → (list_any q xs ≡ true → has (fold f (f w x) xs) a ≡ true) → (b || list_any q xs) ≡ true → has (fold f (f w x) xs) a ≡ true
      by true e rest h = keeps_all xs (f w x) a (wants x w e)
      by false e rest h = rest h

keeps_plan : (p : Plan Term) (w : Wanted) → Keeps w (with_plan w p)
keeps_plan (Basic ts) w a h = keeps_all with_pattern keeps_pattern ts w a h
keeps_plan (Join p q) w a h = keeps_plan q (with_plan w p) a (keeps_plan p w a h)
keeps_plan (LeftJoin p q es) w a h = keeps_plan q (with_plan w p) a (keeps_plan p w a h)
keeps_plan (Union p q) w a h = keeps_plan q (with_plan w p) a (keeps_plan p w a h)
keeps_plan (Minus p q) w a h = keeps_plan q (with_plan w p) a (keeps_plan p w a h)
keeps_plan (Filter es p) w a h = keeps_plan p w a h
keeps_plan (InGraph n p) w a h = keeps_plan p w a h

keeps_operation : (op : Operation Term) (w : Wanted) → Keeps w (with_operation w op)
keeps_operation (operation.Modify m) w a h = keeps_plan m.pattern w a h
keeps_operation (operation.Graphs silent (graphs.Create g)) w a h = h
keeps_operation (operation.Graphs silent (graphs.Drop t)) w a h = keeps_gspo w a h
keeps_operation (operation.Graphs silent (graphs.Clear t)) w a h = keeps_gspo w a h
keeps_operation (operation.Graphs silent (graphs.Transfer how from to)) w a h = keeps_gspo w a h

keeps_request : (r : Request Term) (w : Wanted) → Keeps w (with_request w r)
keeps_request (Ok operations) w a h = keeps_all with_operation keeps_operation operations w a h
keeps_request (Err kind) w a h = h

-- ---- each scan has its order

-- by what is bound
abbrev Served : Wanted → Option Id → Option Id → Option Id → GraphPlace Id → Type 0
Served w s p o g = has w (arrangement_by s p o g) ≡ true

places_served : (s p o : Place Term) (w : Wanted) (x y z : Option Id) (g : GraphPlace Id) → is_bound_by s x ≡ true → is_bound_by p y ≡ true → is_bound_by o z ≡ true → is_one_graph g ≡ true
    → Served (with_places s p o w) x y z g
places_served s p o w x y z Any a b c d = absurd (false≢true d)
places_served (place.Term s) p o w None y z (Only g) a b c d = absurd (false≢true a)
places_served (place.Variable s) p o w (Some x) y z (Only g) a b c d = absurd (false≢true a)
places_served s (place.Term p) o w x None z (Only g) a b c d = absurd (false≢true b)
places_served s (place.Variable p) o w x (Some y) z (Only g) a b c d = absurd (false≢true b)
places_served s p (place.Term o) w x y None (Only g) a b c d = absurd (false≢true c)
places_served s p (place.Variable o) w x y (Some z) (Only g) a b c d = absurd (false≢true c)
places_served (place.Term s) (place.Term p) (place.Term o) w (Some x) (Some y) (Some z) (Only g) a b c d = refl
places_served (place.Term s) (place.Term p) (place.Variable o) w (Some x) (Some y) None (Only g) a b c d = refl
places_served (place.Term s) (place.Variable p) (place.Term o) w (Some x) None (Some z) (Only g) a b c d = refl
places_served (place.Term s) (place.Variable p) (place.Variable o) w (Some x) None None (Only g) a b c d = refl
places_served (place.Variable s) (place.Term p) (place.Term o) w None (Some y) (Some z) (Only g) a b c d = refl
places_served (place.Variable s) (place.Term p) (place.Variable o) w None (Some y) None (Only g) a b c d = refl
places_served (place.Variable s) (place.Variable p) (place.Term o) w None None (Some z) (Only g) a b c d = refl
places_served (place.Variable s) (place.Variable p) (place.Variable o) w None None None (Only g) a b c d = refl

question_served : (w : Wanted) (x y z : Option Id) (g : GraphPlace Id) → is_some x ≡ true → is_some y ≡ true → is_some z ≡ true → is_one_graph g ≡ true → Served w x y z g
question_served w x y z Any a b c d = absurd (false≢true d)
question_served w None y z (Only g) a b c d = absurd (false≢true a)
question_served w (Some x) None z (Only g) a b c d = absurd (false≢true b)
question_served w (Some x) (Some y) None (Only g) a b c d = absurd (false≢true c)
question_served w (Some x) (Some y) (Some z) (Only g) a b c d = refl

whole_served : (w : Wanted) (x y z : Option Id) (g : GraphPlace Id) → is_none x ≡ true → is_none y ≡ true → is_none z ≡ true → Served (with_gspo w) x y z g
whole_served w (Some x) y z g a b c = absurd (false≢true a)
whole_served w None (Some y) z g a b c = absurd (false≢true b)
whole_served w None None (Some z) g a b c = absurd (false≢true c)
whole_served w None None None Any a b c = refl
whole_served w None None None (Only g) a b c = refl

module _ (p : QuadPattern Id) where
  pattern_served : (t : TriplePattern Term) (w : Wanted) → is_scan_for t p ≡ true → has (with_pattern w t) (arrangement_for p) ≡ true
  pattern_served t w h =
      let s = and_parts (is_bound_by t.subject p.subject) (is_bound_by t.predicate p.predicate && (is_bound_by t.object p.object && is_one_graph p.graph)) h in
      let q = and_parts (is_bound_by t.predicate p.predicate) (is_bound_by t.object p.object && is_one_graph p.graph) s.1 in
      let o = and_parts (is_bound_by t.object p.object) (is_one_graph p.graph) q.1 in
      places_served t.subject t.predicate t.object w p.subject p.predicate p.object p.graph s.0 q.0 o.0 o.1

  asked_served : (w : Wanted) → is_question p ≡ true → has w (arrangement_for p) ≡ true
  asked_served w h =
      let s = and_parts (is_some p.subject) (is_some p.predicate && (is_some p.object && is_one_graph p.graph)) h in
      let q = and_parts (is_some p.predicate) (is_some p.object && is_one_graph p.graph) s.1 in
      let o = and_parts (is_some p.object) (is_one_graph p.graph) q.1 in
      question_served w p.subject p.predicate p.object p.graph s.0 q.0 o.0 o.1

  graph_served : (w : Wanted) → is_whole p ≡ true → has (with_gspo w) (arrangement_for p) ≡ true
  graph_served w h =
      let s = and_parts (is_none p.subject) (is_none p.predicate && is_none p.object) h in
      let q = and_parts (is_none p.predicate) (is_none p.object) s.1 in
      whole_served w p.subject p.predicate p.object p.graph s.0 q.0 q.1

  module _ (a b : Plan Term) (w : Wanted) (first : (w : Wanted) → is_scan_of a p ≡ true → has (with_plan w a) (arrangement_for p) ≡ true)
      (second : (w : Wanted) → is_scan_of b p ≡ true → has (with_plan w b) (arrangement_for p) ≡ true) where
    either_served : (c : Bool) → is_scan_of a p ≡ c → (c || is_scan_of b p) ≡ true → has (with_plan (with_plan w a) b) (arrangement_for p) ≡ true
    either_served true e h = keeps_plan b (with_plan w a) (arrangement_for p) (first w e)
    either_served false e h = second (with_plan w a) h

  plan_served : (plan : Plan Term) (w : Wanted) → is_scan_of plan p ≡ true → has (with_plan w plan) (arrangement_for p) ≡ true
  plan_served (Basic ts) w h = wants_any with_pattern keeps_pattern (λ t. is_scan_for t p) (arrangement_for p) pattern_served ts w h
  plan_served (Join a b) w h = either_served a b w (plan_served a) (plan_served b) (is_scan_of a p) refl h
  plan_served (LeftJoin a b es) w h = either_served a b w (plan_served a) (plan_served b) (is_scan_of a p) refl h
  plan_served (Union a b) w h = either_served a b w (plan_served a) (plan_served b) (is_scan_of a p) refl h
  plan_served (Minus a b) w h = either_served a b w (plan_served a) (plan_served b) (is_scan_of a p) refl h
  plan_served (Filter es a) w h = plan_served a w h
  plan_served (InGraph n a) w h = plan_served a w h

  graphs_served : (op : GraphOperation Term) (w : Wanted) → is_graph_scan op p ≡ true → has (with_graphs w op) (arrangement_for p) ≡ true
  graphs_served (graphs.Create g) w h = absurd (false≢true h)
  graphs_served (graphs.Drop t) w h = graph_served w h
  graphs_served (graphs.Clear t) w h = graph_served w h
  graphs_served (graphs.Transfer how from to) w h = graph_served w h

  operation_served : (op : Operation Term) (w : Wanted) → is_operation_scan op p ≡ true → has (with_operation w op) (arrangement_for p) ≡ true
  operation_served op w h = by op (is_question p) refl h
    where
      by : (op : Operation Term) (b : Bool) → is_question p ≡ b → is_operation_scan op p ≡ true → has (with_operation w op) (arrangement_for p) ≡ true
      by op true e h = asked_served (with_operation w op) e
      by (operation.Modify m) false e h = plan_served m.pattern w (sym (ap (λ c. c || is_scan_of m.pattern p) e) ∙ h)
      by (operation.Graphs silent g) false e h = graphs_served g w (sym (ap (λ c. c || is_graph_scan g p) e) ∙ h)

  request_served : (r : Request Term) (w : Wanted) → is_request_scan r p ≡ true → has (with_request w r) (arrangement_for p) ≡ true
  request_served (Ok operations) w h = wants_any with_operation keeps_operation (λ op. is_operation_scan op p) (arrangement_for p) operation_served operations w h
  request_served (Err kind) w h = absurd (false≢true h)

-- ---- the list of what is wanted

listed_if : (so : Bool) (a : Arrangement) → so ≡ true → Contains (order_if so a) a
listed_if true a h = Contains-push [] a
listed_if false a h = absurd (false≢true h)

listed : (w : Wanted) (a : Arrangement) → has w a ≡ true → Contains (Spog ∷ orders_in w) a
listed w Spog h = Contains-append_left (Spog ∷ []) (orders_in w) Spog (Contains-push [] Spog)
listed w Pogs h =
    let first = listed_if w.pogs Pogs h in
    let second = Contains-append_left (order_if w.pogs Pogs) (order_if w.ogsp Ogsp) Pogs first in
    let third = Contains-append_left (order_if w.pogs Pogs ++ order_if w.ogsp Ogsp) (order_if w.gspo Gspo) Pogs second in
    let all = Contains-append_left ((order_if w.pogs Pogs ++ order_if w.ogsp Ogsp) ++ order_if w.gspo Gspo) (order_if w.gpso Gpso) Pogs third in
    Contains-append_right (Spog ∷ []) (orders_in w) Pogs all
listed w Ogsp h =
    let second = Contains-append_right (order_if w.pogs Pogs) (order_if w.ogsp Ogsp) Ogsp (listed_if w.ogsp Ogsp h) in
    let third = Contains-append_left (order_if w.pogs Pogs ++ order_if w.ogsp Ogsp) (order_if w.gspo Gspo) Ogsp second in
    let all = Contains-append_left ((order_if w.pogs Pogs ++ order_if w.ogsp Ogsp) ++ order_if w.gspo Gspo) (order_if w.gpso Gpso) Ogsp third in
    Contains-append_right (Spog ∷ []) (orders_in w) Ogsp all
listed w Gspo h =
    let third = Contains-append_right (order_if w.pogs Pogs ++ order_if w.ogsp Ogsp) (order_if w.gspo Gspo) Gspo (listed_if w.gspo Gspo h) in
    let all = Contains-append_left ((order_if w.pogs Pogs ++ order_if w.ogsp Ogsp) ++ order_if w.gspo Gspo) (order_if w.gpso Gpso) Gspo third in
    Contains-append_right (Spog ∷ []) (orders_in w) Gspo all
listed w Gpso h =
    let all = Contains-append_right ((order_if w.pogs Pogs ++ order_if w.ogsp Ogsp) ++ order_if w.gspo Gspo) (order_if w.gpso Gpso) Gpso (listed_if w.gpso Gpso h) in
    Contains-append_right (Spog ∷ []) (orders_in w) Gpso all
listed w Ospg h = absurd (false≢true h)

pub has_orders : (block : List (Request Term)) (requests : List (Request Term)) (w : Wanted) (orders : List Arrangement) → requests ≡ block → w ≡ fold with_request none_wanted requests → orders ≡ orders_in w
    → HasOrders block orders
has_orders block requests w orders same wanted is p h =
    let served = wants_any with_request keeps_request (λ r. is_request_scan r p) (arrangement_for p) (request_served p) block none_wanted h in
    let w_is : w ≡ fold with_request none_wanted block = wanted ∙ ap (fold with_request none_wanted) same in
    subst (λ os. Contains (Spog ∷ os) (arrangement_for p)) (sym is) (listed w (arrangement_for p) (ap (λ v. has v (arrangement_for p)) w_is ∙ served))
