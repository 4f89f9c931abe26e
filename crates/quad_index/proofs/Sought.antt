-- What a pattern matches begins as the pattern does, as far as its places are bound in an order.
use Rattle.std.specs.List.{list_any}
use Rattle.std.specs.Prelude.{Bool, filter, ◌&&◌, ◌||◌, Option, Some, None}
use Rattle.std.proofs.Common.{◌≡◌, true, false, cond, List, [], ◌∷◌, refl, sym, ap, ◌∙◌}
use Rattle.std.proofs.lemmas.Bool.{false≢true, and_parts, and_from}
use Rattle.std.specs.declared.cmp.Ordering.{Ordering}
use Rattle.std.specs.declared.cmp.Ordering.TheVariants.{Less, Equal, Greater}
use Rattle.std.specs.Ordering.{ordering_then, is_eq}
use Rattle.std.specs.Cmp.{both_ways, Equal-is}
use Rattle.sets.proofs.Filters.{filter_twice}
use Rattle.datasets.specs.declared.id.Id.{Id}
use Rattle.datasets.specs.declared.quad.Quad.{Quad}
use Rattle.datasets.specs.declared.read.GraphPlace.{GraphPlace}
use Rattle.datasets.specs.declared.read.GraphPlace.TheVariants.{Any, Only}
use Rattle.datasets.specs.declared.read.QuadPattern.{QuadPattern}
use Rattle.datasets.specs.Dataset.{matches, free_or, in_place}
use Rattle.datasets.specs.Id.{id_order}
use Rattle.quad_lists.specs.declared.key.Key.{Key}
use Rattle.quad_lists.specs.declared.key.Bounds.{Bounds}
use Rattle.quad_lists.specs.declared.key.Arrangement.{Arrangement}
use Rattle.quad_lists.specs.declared.key.Arrangement.TheVariants.{Spog, Pogs, Ogsp, Gspo, Gpso, Ospg}
use Rattle.quad_lists.specs.Keys.{place_order, order_at, key_of, bound_term, bound_graph, bounds_of, depth_by, bound_or_none, is_sought, arrangement_by, arrangement_for}

-- a place's term is the one that it is bound to
agrees : Option (Option Id) → Option Id → Bool
agrees None k = true
agrees (Some t) k = is_eq (place_order k t)

then_eq : (r s : Ordering) → is_eq r ≡ true → is_eq s ≡ true → is_eq (ordering_then r s) ≡ true
then_eq r s e f = ap (λ x. is_eq (ordering_then x s)) ((Equal-is r).0 e) ∙ f

module _ (k : Key) where
  begins : (a b c d : Option (Option Id)) → agrees a k.first ≡ true → agrees b k.second ≡ true → agrees c k.third ≡ true → agrees d k.fourth ≡ true
      → is_eq (order_at (depth_by a b c d) k (record { first = bound_or_none a; second = bound_or_none b; third = bound_or_none c; fourth = bound_or_none d })) ≡ true
  unfolding agrees
  begins None b c d ea eb ec ed = refl
  begins (Some w) None c d ea eb ec ed = ea
  begins (Some w) (Some x) None d ea eb ec ed = then_eq _ _ ea eb
  begins (Some w) (Some x) (Some y) None ea eb ec ed = then_eq _ _ ea (then_eq _ _ eb ec)
  begins (Some w) (Some x) (Some y) (Some z) ea eb ec ed = then_eq _ _ ea (then_eq _ _ eb (then_eq _ _ ec ed))

at_term : (t : Option Id) (x : Id) → free_or id_order t x ≡ true → agrees (bound_term t) (Some x) ≡ true
unfolding agrees
at_term None x e = refl
at_term (Some y) x e = e

at_graph : (h : GraphPlace Id) (g : Option Id) → in_place id_order h g ≡ true → agrees (bound_graph h) g ≡ true
unfolding agrees
at_graph Any g e = refl
at_graph (Only h) g e = e

module _ (p : QuadPattern Id) (q : Quad Id) (s : agrees (bound_term p.subject) (Some q.subject) ≡ true) (r : agrees (bound_term p.predicate) (Some q.predicate) ≡ true) (o : agrees (bound_term p.object) (Some q.object) ≡ true) (g : agrees (bound_graph p.graph) q.graph ≡ true) where
  at_each : (a : Arrangement) → is_sought (bounds_of a p) (key_of a q) ≡ true
  at_each Spog = begins (key_of Spog q) _ _ _ _ s r o g
  at_each Pogs = begins (key_of Pogs q) _ _ _ _ r o g s
  at_each Ogsp = begins (key_of Ogsp q) _ _ _ _ o g s r
  at_each Gspo = begins (key_of Gspo q) _ _ _ _ g s r o
  at_each Gpso = begins (key_of Gpso q) _ _ _ _ g r s o
  at_each Ospg = begins (key_of Ospg q) _ _ _ _ o s r g

pub sought : (a : Arrangement) (p : QuadPattern Id) (q : Quad Id) → matches id_order p q ≡ true → is_sought (bounds_of a p) (key_of a q) ≡ true
sought a p q h =
    let one = and_parts (free_or id_order p.subject q.subject) (free_or id_order p.predicate q.predicate && (free_or id_order p.object q.object && in_place id_order p.graph q.graph)) h in
    let two = and_parts (free_or id_order p.predicate q.predicate) (free_or id_order p.object q.object && in_place id_order p.graph q.graph) one.1 in
    let three = and_parts (free_or id_order p.object q.object) (in_place id_order p.graph q.graph) two.1 in
    at_each p q (at_term p.subject q.subject one.0) (at_term p.predicate q.predicate two.0) (at_term p.object q.object three.0) (at_graph p.graph q.graph three.1) a

-- ---- the order that begins with the bound places has no others that begin so

then_parts : (r s : Ordering) → is_eq (ordering_then r s) ≡ true → (is_eq r ≡ true) × (is_eq s ≡ true)
then_parts Less s e = absurd (false≢true e)
then_parts Equal s e = (refl, e)
then_parts Greater s e = absurd (false≢true e)

-- whether the bound places come first
abbrev gapless : Option (Option Id) → Option (Option Id) → Option (Option Id) → Option (Option Id) → Bool
gapless None None None None = true
gapless (Some w) None None None = true
gapless (Some w) (Some x) None None = true
gapless (Some w) (Some x) (Some y) d = true
gapless a b c d = false

abbrev Agreeing : Option (Option Id) → Option (Option Id) → Option (Option Id) → Option (Option Id) → Key → Type 0
Agreeing a b c d k = (agrees a k.first ≡ true) × (agrees b k.second ≡ true) × (agrees c k.third ≡ true) × (agrees d k.fourth ≡ true)

module _ (k : Key) where
  ends : (a b c d : Option (Option Id)) → gapless a b c d ≡ true
      → is_eq (order_at (depth_by a b c d) k (record { first = bound_or_none a; second = bound_or_none b; third = bound_or_none c; fourth = bound_or_none d })) ≡ true → Agreeing a b c d k
  unfolding agrees
  ends None None None None h e = (refl, refl, refl, refl)
  ends (Some w) None None None h e = (e, refl, refl, refl)
  ends (Some w) (Some x) None None h e = let parts = then_parts _ _ e in (parts.0, parts.1, refl, refl)
  ends (Some w) (Some x) (Some y) None h e = let parts = then_parts _ _ e in let further = then_parts _ _ parts.1 in (parts.0, further.0, further.1, refl)
  ends (Some w) (Some x) (Some y) (Some z) h e =
      let parts = then_parts _ _ e in let further = then_parts _ _ parts.1 in let last = then_parts _ _ further.1 in (parts.0, further.0, last.0, last.1)
  ends None None None (Some z) h e = absurd (false≢true h)
  ends None None (Some y) None h e = absurd (false≢true h)
  ends None None (Some y) (Some z) h e = absurd (false≢true h)
  ends None (Some x) None None h e = absurd (false≢true h)
  ends None (Some x) None (Some z) h e = absurd (false≢true h)
  ends None (Some x) (Some y) None h e = absurd (false≢true h)
  ends None (Some x) (Some y) (Some z) h e = absurd (false≢true h)
  ends (Some w) None None (Some z) h e = absurd (false≢true h)
  ends (Some w) None (Some y) None h e = absurd (false≢true h)
  ends (Some w) None (Some y) (Some z) h e = absurd (false≢true h)
  ends (Some w) (Some x) None (Some z) h e = absurd (false≢true h)

abbrev gapless_in : Bounds → Bool
gapless_in b = gapless b.first b.second b.third b.fourth

no_gap : (s p o : Option Id) (g : GraphPlace Id) → gapless_in (bounds_of (arrangement_by s p o g) (record { subject = s; predicate = p; object = o; graph = g })) ≡ true
no_gap None None None Any = refl
no_gap (Some s) None None Any = refl
no_gap None (Some p) None Any = refl
no_gap None None (Some o) Any = refl
no_gap None None None (Only g) = refl
no_gap (Some s) (Some p) None Any = refl
no_gap (Some s) None (Some o) Any = refl
no_gap (Some s) None None (Only g) = refl
no_gap None (Some p) (Some o) Any = refl
no_gap None (Some p) None (Only g) = refl
no_gap None None (Some o) (Only g) = refl
no_gap (Some s) (Some p) (Some o) Any = refl
no_gap (Some s) (Some p) None (Only g) = refl
no_gap (Some s) None (Some o) (Only g) = refl
no_gap None (Some p) (Some o) (Only g) = refl
no_gap (Some s) (Some p) (Some o) (Only g) = refl

of_term : (t : Option Id) (x : Id) → agrees (bound_term t) (Some x) ≡ true → free_or id_order t x ≡ true
unfolding agrees
of_term None x e = refl
of_term (Some y) x e = e

of_graph : (h : GraphPlace Id) (g : Option Id) → agrees (bound_graph h) g ≡ true → in_place id_order h g ≡ true
unfolding agrees
of_graph Any g e = refl
of_graph (Only h) g e = e

module _ (p : QuadPattern Id) (q : Quad Id) where
  of_each : agrees (bound_term p.subject) (Some q.subject) ≡ true → agrees (bound_term p.predicate) (Some q.predicate) ≡ true → agrees (bound_term p.object) (Some q.object) ≡ true → agrees (bound_graph p.graph) q.graph ≡ true
      → matches id_order p q ≡ true
  of_each s r o g = and_from _ _ (of_term p.subject q.subject s) (and_from _ _ (of_term p.predicate q.predicate r) (and_from _ _ (of_term p.object q.object o) (of_graph p.graph q.graph g)))

  matched_in : (a : Arrangement) → gapless_in (bounds_of a p) ≡ true → is_sought (bounds_of a p) (key_of a q) ≡ true → matches id_order p q ≡ true
  matched_in Spog h e = let found = ends (key_of Spog q) _ _ _ _ h e in of_each found.0 found.1 found.2 found.3
  matched_in Pogs h e = let found = ends (key_of Pogs q) _ _ _ _ h e in of_each found.3 found.0 found.1 found.2
  matched_in Ogsp h e = let found = ends (key_of Ogsp q) _ _ _ _ h e in of_each found.2 found.3 found.0 found.1
  matched_in Gspo h e = let found = ends (key_of Gspo q) _ _ _ _ h e in of_each found.1 found.2 found.3 found.0
  matched_in Gpso h e = let found = ends (key_of Gpso q) _ _ _ _ h e in of_each found.2 found.1 found.3 found.0
  matched_in Ospg h e = let found = ends (key_of Ospg q) _ _ _ _ h e in of_each found.1 found.2 found.0 found.3

-- what matches is what begins as the pattern does, in the pattern's order
pub exact_part : (a : Arrangement) (p : QuadPattern Id) (quads : List (Quad Id)) → a ≡ arrangement_for p → filter (matches id_order p) quads ≡ filter (λ q. is_sought (bounds_of a p) (key_of a q)) quads
exact_part a p quads e =
    let whole : gapless_in (bounds_of a p) ≡ true = ap (λ b. gapless_in (bounds_of b p)) e ∙ no_gap p.subject p.predicate p.object p.graph in
    λ i. filter (λ q. both_ways _ _ (sought a p q) (matched_in p q a whole) i) quads

pub part_has_all : {E : Type 0} (quad : E → Quad Id) (a : Arrangement) (pattern : QuadPattern Id) (p : E → Bool) → ((e : E) → p e ≡ true → matches id_order pattern (quad e) ≡ true) → (xs : List E)
    → filter p (filter (λ e. is_sought (bounds_of a pattern) (key_of a (quad e))) xs) ≡ filter p xs
part_has_all quad a pattern p h xs = filter_twice p _ (λ e f. sought a pattern (quad e) (h e f)) xs

-- ---- tests that a filter's parts share

kept_head : {A : Type 0} (p : A → Bool) (b : Bool) (x : A) (xs : List A) → p x ≡ b → list_any p xs ≡ list_any p (filter p xs) → (p x || list_any p xs) ≡ list_any p (cond b (x ∷ filter p xs) (filter p xs))
kept_head p true x xs e h = ap (λ b. p x || b) h
kept_head p false x xs e h = ap (λ b. b || list_any p xs) e ∙ h

any-kept : {A : Type 0} (p : A → Bool) (xs : List A) → list_any p xs ≡ list_any p (filter p xs)
any-kept p [] = refl
any-kept p (x ∷ xs) = kept_head p (p x) x xs refl (any-kept p xs)

pub any_by_part : {A : Type 0} (p : A → Bool) (xs ys : List A) → filter p xs ≡ filter p ys → list_any p xs ≡ list_any p ys
any_by_part p xs ys e = any-kept p xs ∙ ap (list_any p) e ∙ sym (any-kept p ys)
