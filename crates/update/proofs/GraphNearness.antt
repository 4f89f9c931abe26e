-- What operations on whole graphs ask for is near them, and so is what their changes speak of.
use Rattle.std.specs.Prelude.{Bool, true, false, not, ◌||◌, ◌&&◌, filter, map, if◌then◌else◌}
use Rattle.std.specs.List.{AllByRecursion}
use Rattle.std.specs.Ordering.{eq_by_cmp, is_eq}
use Rattle.std.specs.Cmp.{IsTotalOrder, tied_itself}
use Rattle.std.specs.Cmp.Lexicographic.{options_total}
use Rattle.std.proofs.Common.{◌≡◌, List, [], ◌∷◌, ◌++◌, Option, Some, None, refl, sym, ap, subst, ◌∙◌}
use Rattle.std.proofs.lemmas.Bool.{false≢true, or_left, or_right, or_cases}
use Rattle.std.specs.declared.cmp.Ordering.{Ordering}
use Rattle.std.specs.declared.cmp.Ordering.TheVariants.{Equal}
use Rattle.std.proofs.Math.Logic.{⊎_elim}
use Rattle.sets.specs.Sets.{has, set_of, union, without}
use Rattle.sets.proofs.SetLaws.{exact_by, has-after}
use Rattle.sets.proofs.Every.{all_set_of, all_joined}
use Rattle.datasets.specs.declared.id.Id.{Id}
use Rattle.datasets.specs.declared.quad.Quad.{Quad}
use Rattle.datasets.specs.declared.read.Read.TheVariants.{Scan, GraphIs}
use Rattle.datasets.specs.Dataset.{quad_order}
use Rattle.datasets.specs.Id.{id_order, id_total, id_exact, quad_total, quad_exact}
use Rattle.algebra.specs.declared.update.Target.{Target}
use Rattle.algebra.specs.declared.update.Target.TheVariants as target
use Rattle.algebra.specs.declared.update.Transfer.{Transfer}
use Rattle.algebra.specs.declared.update.Transfer.TheVariants as transfer
use Rattle.algebra.specs.declared.update.GraphOperation.TheVariants as graphs
use Rattle.meaning.specs.GraphOperations.{in_graph}
use Rattle.asking.specs.Near.{is_of_graph, is_near_target, is_near_graphs}
use Rattle.reads.specs.Reads.{View, Read, Delta, applied}
use Rattle.reads.specs.Presence.{scan_for}
use Rattle.update.specs.Asked.{AskedQuads, AskedNames, IsWithin}
use Rattle.reads.specs.declared.note.Note.{Note}
use Rattle.update.specs.Known.{is_free_scan, has_free_scan, or_told}
use Rattle.update.specs.Graphs.{target_of, is_among, quads_of, place_of, whole, name_list, name_leaving}
use Rattle.update.proofs.GraphEffects.{among_one}

-- ---- reads

-- the scan of the graphs that are named
pub scan_near : (t : Target Id) → is_near_target id_order t (Scan (whole (place_of t))) ≡ true
scan_near (target.Graph g) = ap is_eq (tied_itself (options_total id_total) (Some g))
scan_near target.Default = refl
scan_near target.Named = refl
scan_near target.All = refl

-- whether a graph that is named by itself is there
pub name_near : (g : Id) → is_near_target id_order (target.Graph g) (GraphIs g) ≡ true
name_near g = ap is_eq (tied_itself (options_total id_total) (Some g))

pub name_near_at : (t : Target Id) (g : Id) → t ≡ target.Graph g → is_near_target id_order t (GraphIs g) ≡ true
name_near_at t g e = ap (λ u. is_near_target id_order u (GraphIs g)) e ∙ name_near g

-- what is near a graph by itself
one_near : (g : Option Id) (r : Read) → is_near_target id_order (target_of g) r ≡ is_of_graph id_order g r
one_near None r = refl
one_near (Some g) r = refl

pub first_near : (how : Transfer) (from to : Option Id) (r : Read) → is_near_target id_order (target_of from) r ≡ true → is_near_graphs id_order (graphs.Transfer how from to) r ≡ true
first_near how from to r e = or_left _ _ (sym (one_near from r) ∙ e)

pub second_near : (how : Transfer) (from to : Option Id) (r : Read) → is_near_target id_order (target_of to) r ≡ true → is_near_graphs id_order (graphs.Transfer how from to) r ≡ true
second_near how from to r e = or_right _ _ (sym (one_near to r) ∙ e)

-- ---- names

pub named_more : (allowed more : Read → Bool) → ((r : Read) → allowed r ≡ true → more r ≡ true) → (names : List Id) → AskedNames allowed names → AskedNames more names
named_more allowed more f [] h = tt
named_more allowed more f (g ∷ names) h = (f (GraphIs g) h.0, named_more allowed more f names h.1)

list_near : (g : Option Id) → AskedNames (is_of_graph id_order g) (name_list g)
list_near None = tt
list_near (Some g) = (name_near g, tt)

-- the name of the graph that triples come to, and of the one that they leave
pub come_near : (how : Transfer) (from to : Option Id) → AskedNames (is_near_graphs id_order (graphs.Transfer how from to)) (name_list to)
come_near how from to = named_more (is_of_graph id_order to) (is_near_graphs id_order (graphs.Transfer how from to)) (λ r e. or_right _ _ e) (name_list to) (list_near to)

pub leaving_near : (how : Transfer) (from to : Option Id) → AskedNames (is_near_graphs id_order (graphs.Transfer how from to)) (name_leaving how from)
leaving_near transfer.Add from to = tt
leaving_near transfer.Copy from to = tt
leaving_near transfer.Move from to = named_more (is_of_graph id_order from) (is_near_graphs id_order (graphs.Transfer transfer.Move from to)) (λ r e. or_left _ _ e) (name_list from) (list_near from)

-- ---- quads

-- a quad of a graph that is named: near that graph, or told of, where all quads were asked for
quad_near : (t : Target Id) (notes : List Note) → (is_free_scan (Scan (whole (place_of t))) ≡ true → has_free_scan notes ≡ true)
    → (q : Quad Id) → is_among t q.graph ≡ true → or_told (is_near_target id_order t) notes (scan_for q) ≡ true
quad_near (target.Graph g) notes f q e = or_left _ _ e
quad_near target.Default notes f q e = or_left _ _ (sym (among_one None q.graph) ∙ e)
quad_near target.Named notes f q e = f refl
quad_near target.All notes f q e = f refl

pub kept_if : {A : Type 0} (P : A → Type 0) (x : A) (xs : List A) (b : Bool) → (b ≡ true → P x) → AllByRecursion P xs → AllByRecursion P (if b then x ∷ xs else xs)
kept_if P x xs true f h = (f refl, h)
kept_if P x xs false f h = h

all_kept : {A : Type 0} (P : A → Type 0) (p : A → Bool) → ((x : A) → p x ≡ true → P x) → (xs : List A) → AllByRecursion P (filter p xs)
all_kept P p f [] = tt
all_kept P p f (x ∷ xs) = kept_if P x (filter p xs) (p x) (f x) (all_kept P p f xs)

pub quads_near : (t : Target Id) (notes : List Note) → (is_free_scan (Scan (whole (place_of t))) ≡ true → has_free_scan notes ≡ true)
    → (quads : List (Quad Id)) → AskedQuads (or_told (is_near_target id_order t) notes) (quads_of t quads)
quads_near t notes f quads = all_kept (λ q. or_told (is_near_target id_order t) notes (scan_for q) ≡ true) (λ q. is_among t q.graph) (quad_near t notes f) quads

pub asked_more : (allowed more : Read → Bool) → ((r : Read) → allowed r ≡ true → more r ≡ true) → (quads : List (Quad Id)) → AskedQuads allowed quads → AskedQuads more quads
asked_more allowed more f [] h = tt
asked_more allowed more f (q ∷ quads) h = (f (scan_for q) h.0, asked_more allowed more f quads h.1)

pub within_more : (allowed more : Read → Bool) → ((r : Read) → allowed r ≡ true → more r ≡ true) → (c : Delta) → IsWithin allowed c → IsWithin more c
within_more allowed more f c h = record {
  present = asked_more allowed more f c.present h.present;
  absent = asked_more allowed more f c.absent h.absent;
  there = named_more allowed more f c.there h.there;
  gone = named_more allowed more f c.gone h.gone;
}

-- the triples that come to a graph
pub put_near : (how : Transfer) (from to : Option Id) (quads : List (Quad Id)) → AskedQuads (is_near_graphs id_order (graphs.Transfer how from to)) (map (in_graph id_order to) quads)
put_near how from to [] = tt
put_near how from to (q ∷ quads) = (or_right _ _ (ap is_eq (tied_itself (options_total id_total) to)), put_near how from to quads)

pub both_asked : (allowed : Read → Bool) (quads others all : List (Quad Id)) → all ≡ quads ++ others → AskedQuads allowed quads → AskedQuads allowed others → AskedQuads allowed all
both_asked allowed quads others all e h k = subst (AskedQuads allowed) (sym e) (all_joined (λ q. allowed (scan_for q) ≡ true) quads others h k)

-- a change of the sets of these
pub parts_within : (allowed : Read → Bool) (come gone : List (Quad Id)) (there left : List Id)
    → AskedQuads allowed come → AskedQuads allowed gone → AskedNames allowed there → AskedNames allowed left
    → IsWithin allowed (record { present = set_of (quad_order id_order) come; absent = set_of (quad_order id_order) gone; there = set_of id_order there; gone = set_of id_order left })
parts_within allowed come gone there left h k n m = record {
  present = all_set_of (λ q. allowed (scan_for q) ≡ true) (quad_order id_order) come h;
  absent = all_set_of (λ q. allowed (scan_for q) ≡ true) (quad_order id_order) gone k;
  there = all_set_of (λ g. allowed (GraphIs g) ≡ true) id_order there n;
  gone = all_set_of (λ g. allowed (GraphIs g) ≡ true) id_order left m;
}

-- ---- one change after another: what both as one speak of, one of them speaks of

-- what comes by both: gc, cc and ge, ce are of the first and the second, gb, cb of both
comes_of : {P : Type 0} (gb cb gc cc ge ce : Bool) → ((false && not gb) || cb) ≡ ((((false && not gc) || cc) && not ge) || ce) → cb ≡ true → (cc ≡ true → P) → (ce ≡ true → P) → P
comes_of gb cb gc true ge ce e h f k = f refl
comes_of gb cb gc false ge true e h f k = k refl
comes_of gb cb gc false ge false e h f k = absurd (false≢true (sym e ∙ h))

goes_of : {P : Type 0} (gb cb gc cc ge ce : Bool) → ((true && not gb) || cb) ≡ ((((true && not gc) || cc) && not ge) || ce) → gb ≡ true → cb ≡ false → (gc ≡ true → P) → (ge ≡ true → P) → P
goes_of gb cb true cc ge ce e h l f k = f refl
goes_of gb cb false cc true ce e h l f k = k refl
goes_of gb cb false cc false ce e h l f k = absurd (false≢true (sym ((λ i. not (h i) || l i)) ∙ e))

module _ {A : Type 0} {R : A → A → Ordering} (total : IsTotalOrder R) (exact : (x y : A) → R x y ≡ Equal → x ≡ y) (P : A → Type 0) where
  member : (xs : List A) (x : A) → AllByRecursion P xs → has R xs x ≡ true → P x
  member [] x all e = absurd (false≢true e)
  member (y ∷ ys) x all e = ⊎_elim (λ h. subst P (sym (exact_by total exact x y h)) all.0) (member ys x all.1) (or_cases (eq_by_cmp R x y) (has R ys x) e)

  all_members : (xs : List A) → ((x : A) → has R xs x ≡ true → P x) → AllByRecursion P xs
  all_members [] f = tt
  all_members (x ∷ xs) f = (f x (or_left _ _ (ap is_eq (tied_itself total x))), all_members xs (λ y e. f y (or_right _ _ e)))

  has_twice : (ds gc cc ge ce : List A) (x : A) → has R (union R (without R (union R (without R ds gc) cc) ge) ce) x ≡ ((((has R ds x && not (has R gc x)) || has R cc x) && not (has R ge x)) || has R ce x)
  has_twice ds gc cc ge ce x =
      has-after total exact x (union R (without R ds gc) cc) ge ce ∙ ap (λ b. (b && not (has R ge x)) || has R ce x) (has-after total exact x ds gc cc)

  module _ (gb cb gc cc ge ce : List A) (both : (ds : List A) → union R (without R ds gb) cb ≡ union R (without R (union R (without R ds gc) cc) ge) ce) where
    tells : (ds : List A) (x : A) → ((has R ds x && not (has R gb x)) || has R cb x) ≡ ((((has R ds x && not (has R gc x)) || has R cc x) && not (has R ge x)) || has R ce x)
    tells ds x = sym (has-after total exact x ds gb cb) ∙ ap (λ xs. has R xs x) (both ds) ∙ has_twice ds gc cc ge ce x

    comes : AllByRecursion P cc → AllByRecursion P ce → (x : A) → has R cb x ≡ true → P x
    comes hc he x e = comes_of (has R gb x) (has R cb x) (has R gc x) (has R cc x) (has R ge x) (has R ce x) (tells [] x) e (member cc x hc) (member ce x he)

    pub all_come : AllByRecursion P cc → AllByRecursion P ce → AllByRecursion P cb
    all_come hc he = all_members cb (comes hc he)

    itself : (x : A) → has R (x ∷ []) x ≡ true
    itself x = or_left _ _ (ap is_eq (tied_itself total x))

    pub all_go : AllByRecursion P cc → AllByRecursion P ce → AllByRecursion P gc → AllByRecursion P ge → AllByRecursion P gb
    all_go hc he kc ke = all_members gb (λ x e. by_cases x e (has R cb x) refl)
      where
        by_cases : (x : A) → has R gb x ≡ true → (b : Bool) → has R cb x ≡ b → P x
        by_cases x e true h = comes hc he x h
        by_cases x e false h =
            goes_of (has R gb x) (has R cb x) (has R gc x) (has R cc x) (has R ge x) (has R ce x)
            (ap (λ b. (b && not (has R gb x)) || has R cb x) (sym (itself x)) ∙ tells (x ∷ []) x ∙ ap (λ b. (((b && not (has R gc x)) || has R cc x) && not (has R ge x)) || has R ce x) (itself x))
            e h (member gc x kc) (member ge x ke)

pub followed_within : (allowed : Read → Bool) (c e b : Delta) → ((d : View) → applied b d ≡ applied e (applied c d)) → IsWithin allowed c → IsWithin allowed e → IsWithin allowed b
unfolding applied
followed_within allowed c e b both h k =
    let P : Quad Id → Type 0 = λ q. allowed (scan_for q) ≡ true in
    let N : Id → Type 0 = λ g. allowed (GraphIs g) ≡ true in
    let quads = λ (ds : List (Quad Id)). ap (λ (v : View). v.quads) (both (record { quads = ds; names = [] })) in
    let names = λ (ds : List Id). ap (λ (v : View). v.names) (both (record { quads = []; names = ds })) in
    record {
      present = all_come (quad_total id_total) (quad_exact id_order id_exact) P b.absent b.present c.absent c.present e.absent e.present quads h.present k.present;
      absent = all_go (quad_total id_total) (quad_exact id_order id_exact) P b.absent b.present c.absent c.present e.absent e.present quads h.present k.present h.absent k.absent;
      there = all_come id_total id_exact N b.gone b.there c.gone c.there e.gone e.there names h.there k.there;
      gone = all_go id_total id_exact N b.gone b.there c.gone c.there e.gone e.there names h.there k.there h.gone k.gone;
    }
