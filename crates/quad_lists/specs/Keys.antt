-- Keys: a quad's places in the sequence of an order, and where a pattern is looked for.
--     order_at depth a b      how two keys stand by so many of their first places
--     is_before past r        whether a key with this answer stands before the place sought: the first that isn't less, or past all that are equal
use Rattle.std.specs.Prelude.{Bool, true, false, Option, Some, None}
use Rattle.std.specs.declared.cmp.Ordering.{Ordering}
use Rattle.std.specs.declared.cmp.Ordering.TheVariants.{Less, Equal, Greater}
use Rattle.std.specs.Ordering.{ordering_then, is_eq}
use Rattle.std.specs.Option.{option_cmp}
use Rattle.datasets.specs.Id.{id_order}
use Rattle.datasets.specs.declared.id.Id.{Id}
use Rattle.datasets.specs.declared.quad.Quad.{Quad}
use Rattle.datasets.specs.declared.read.GraphPlace.{GraphPlace}
use Rattle.datasets.specs.declared.read.GraphPlace.TheVariants.{Any, Only}
use Rattle.datasets.specs.declared.read.QuadPattern.{QuadPattern}
use Rattle.quad_lists.specs.declared.key.Key.{Key}
use Rattle.quad_lists.specs.declared.key.Bounds.{Bounds}
use Rattle.quad_lists.specs.declared.key.Arrangement.{Arrangement}
use Rattle.quad_lists.specs.declared.key.Arrangement.TheVariants.{Spog, Pogs, Ogsp, Gspo, Gpso, Ospg}
use Rattle.quad_lists.specs.declared.key.Depth.{Depth}
use Rattle.quad_lists.specs.declared.key.Depth.TheVariants.{Zero, One, Two, Three, Four}

-- a place's term; in the place of the graph there may be none, which is the default graph
abbrev pub place_order : Option Id → Option Id → Ordering
place_order a b = option_cmp id_order a b

abbrev pub key_order : Key → Key → Ordering
key_order a b =
    ordering_then (place_order a.first b.first)
    (ordering_then (place_order a.second b.second)
    (ordering_then (place_order a.third b.third) (place_order a.fourth b.fourth)))

abbrev pub order_at : Depth → Key → Key → Ordering
order_at Zero a b = Equal
order_at One a b = place_order a.first b.first
order_at Two a b = ordering_then (place_order a.first b.first) (place_order a.second b.second)
order_at Three a b = ordering_then (place_order a.first b.first) (ordering_then (place_order a.second b.second) (place_order a.third b.third))
order_at Four a b = key_order a b

abbrev pub is_before : Bool → Ordering → Bool
is_before past Less = true
is_before past Equal = past
is_before past Greater = false

abbrev pub key_by : Option Id → Option Id → Option Id → Option Id → Key
key_by a b c d = record { first = a; second = b; third = c; fourth = d }

abbrev pub key_of : Arrangement → Quad Id → Key
key_of Spog q = key_by (Some q.subject) (Some q.predicate) (Some q.object) q.graph
key_of Pogs q = key_by (Some q.predicate) (Some q.object) q.graph (Some q.subject)
key_of Ogsp q = key_by (Some q.object) q.graph (Some q.subject) (Some q.predicate)
key_of Gspo q = key_by q.graph (Some q.subject) (Some q.predicate) (Some q.object)
key_of Gpso q = key_by q.graph (Some q.predicate) (Some q.subject) (Some q.object)
key_of Ospg q = key_by (Some q.object) (Some q.subject) (Some q.predicate) q.graph

-- what a pattern binds a place to
abbrev pub bound_term : Option Id → Option (Option Id)
bound_term None = None
bound_term (Some x) = Some (Some x)

abbrev pub bound_graph : GraphPlace Id → Option (Option Id)
bound_graph Any = None
bound_graph (Only g) = Some g

abbrev pub bounds_by : Option (Option Id) → Option (Option Id) → Option (Option Id) → Option (Option Id) → Bounds
bounds_by a b c d = record { first = a; second = b; third = c; fourth = d }

abbrev pub bounds_of : Arrangement → QuadPattern Id → Bounds
bounds_of Spog p = bounds_by (bound_term p.subject) (bound_term p.predicate) (bound_term p.object) (bound_graph p.graph)
bounds_of Pogs p = bounds_by (bound_term p.predicate) (bound_term p.object) (bound_graph p.graph) (bound_term p.subject)
bounds_of Ogsp p = bounds_by (bound_term p.object) (bound_graph p.graph) (bound_term p.subject) (bound_term p.predicate)
bounds_of Gspo p = bounds_by (bound_graph p.graph) (bound_term p.subject) (bound_term p.predicate) (bound_term p.object)
bounds_of Gpso p = bounds_by (bound_graph p.graph) (bound_term p.predicate) (bound_term p.subject) (bound_term p.object)
bounds_of Ospg p = bounds_by (bound_term p.object) (bound_term p.subject) (bound_term p.predicate) (bound_graph p.graph)

-- how many of the first places are bound
abbrev pub depth_by : Option (Option Id) → Option (Option Id) → Option (Option Id) → Option (Option Id) → Depth
depth_by None b c d = Zero
depth_by (Some w) None c d = One
depth_by (Some w) (Some x) None d = Two
depth_by (Some w) (Some x) (Some y) None = Three
depth_by (Some w) (Some x) (Some y) (Some z) = Four

abbrev pub depth_of : Bounds → Depth
depth_of b = depth_by b.first b.second b.third b.fourth

abbrev pub bound_or_none : Option (Option Id) → Option Id
bound_or_none None = None
bound_or_none (Some k) = k

-- a key with the bound places; the free ones are never looked at
abbrev pub target_of : Bounds → Key
target_of b = key_by (bound_or_none b.first) (bound_or_none b.second) (bound_or_none b.third) (bound_or_none b.fourth)

-- whether a key begins as the bound places do
abbrev pub is_sought : Bounds → Key → Bool
is_sought b k = is_eq (order_at (depth_of b) k (target_of b))

-- the order that begins with the bound places
abbrev pub arrangement_by : Option Id → Option Id → Option Id → GraphPlace Id → Arrangement
arrangement_by None None None Any = Spog
arrangement_by (Some s) None None Any = Spog
arrangement_by None (Some p) None Any = Pogs
arrangement_by None None (Some o) Any = Ogsp
arrangement_by None None None (Only g) = Gspo
arrangement_by (Some s) (Some p) None Any = Spog
arrangement_by (Some s) None (Some o) Any = Ospg
arrangement_by (Some s) None None (Only g) = Gspo
arrangement_by None (Some p) (Some o) Any = Pogs
arrangement_by None (Some p) None (Only g) = Gpso
arrangement_by None None (Some o) (Only g) = Ogsp
arrangement_by (Some s) (Some p) (Some o) Any = Spog
arrangement_by (Some s) (Some p) None (Only g) = Gspo
arrangement_by (Some s) None (Some o) (Only g) = Ogsp
arrangement_by None (Some p) (Some o) (Only g) = Pogs
arrangement_by (Some s) (Some p) (Some o) (Only g) = Spog

abbrev pub arrangement_for : QuadPattern Id → Arrangement
arrangement_for p = arrangement_by p.subject p.predicate p.object p.graph
