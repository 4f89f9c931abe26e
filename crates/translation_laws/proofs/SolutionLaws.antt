-- What holds of the empty mapping, of each mapping that is fitted to terms of the dataset, and of
-- each merge holds of each solution.
use Rattle.std.proofs.Common.{ℕ, Bool, true, false, cond, List, [], ◌∷◌, ◌++◌, Option, Some, None, filter}
use Rattle.std.specs.Prelude.{IfSome, filter_map, option_and_then}
use Rattle.std.specs.List.{AllByRecursion, cons_option}
use Rattle.std.specs.declared.cmp.Ordering.{Ordering}
use Rattle.sets.specs.Sets.{has}
use Rattle.sets.proofs.Every.{all_joined, all_set_of, all_kept}
use Rattle.datasets.specs.Dataset.{Dataset, quads_in, same_graph}
use Rattle.datasets.specs.declared.quad.Quad.{Quad}
use Rattle.algebra.specs.declared.pattern.Place.{Place}
use Rattle.algebra.specs.declared.pattern.Place.TheVariants as place
use Rattle.algebra.specs.declared.pattern.TriplePattern.{TriplePattern}
use Rattle.algebra.specs.Expressions.{Expression}
use Rattle.algebra.specs.Plans.{Plan, Basic, Join, LeftJoin, Union, Minus, Filter, InGraph}
use Rattle.meaning.specs.Mapping.{Mapping, empty_mapping, merge, mapping_cmp, fitted, compatible, joined}
use Rattle.meaning.specs.Operators.{join, union_of, diff}
use Rattle.meaning.specs.Solutions.{mapping_onto, solutions_among, joined_with, passes_all, solutions}
use Rattle.translation_laws.proofs.NodeLaws.{all_gathered}

-- ---- what holds of all members holds of all members of lists made of them

module _ {A : Type 0} (P : A → Type 0) where
  pub all_chosen : (b : Bool) (xs : List A) → AllByRecursion P xs → AllByRecursion P (cond b xs [])
  all_chosen true xs h = h
  all_chosen false xs h = tt

  pub if_chosen : (b : Bool) (x : A) → P x → IfSome (cond b (Some x) None) P
  if_chosen true x h = h
  if_chosen false x h = tt

  if_then : (f : A → Option A) (o : Option A) → ((x : A) → P x → IfSome (f x) P) → IfSome o P → IfSome (option_and_then f o) P
  if_then f None each h = tt
  if_then f (Some x) each h = each x h

  pub all_found : {B : Type 0} (Q : B → Type 0) (h : A → Option B) → ((x : A) → P x → IfSome (h x) Q) → (xs : List A) → AllByRecursion P xs → AllByRecursion Q (filter_map h xs)
  all_found Q h each [] k = tt
  all_found {B = B} Q h each (x ∷ xs) k = at (h x) (each x k.0) (all_found Q h each xs k.1)
    where
      at : (o : Option B) → IfSome o Q → AllByRecursion Q (filter_map h xs) → AllByRecursion Q (cons_option o (filter_map h xs))
      at None e rest = rest
      at (Some y) e rest = (e, rest)

-- ---- solutions

module _ {K : Type 0} (R : K → K → Ordering) (width : ℕ) (T : K → Type 0) (P : Mapping K → Type 0) (empty : P (empty_mapping width))
    (fits : (p : Place K) (x : K) (m : Mapping K) → T x → P m → IfSome (fitted R p x m) P) (merges : (a b : Mapping K) → P a → P b → P (merge a b)) where
  abbrev Are : List (Mapping K) → Type 0
  Are = AllByRecursion P

  -- the terms of a triple, whatever its graph
  abbrev pub EachOfTerms : Quad K → Type 0
  EachOfTerms q = T q.subject × T q.predicate × T q.object

  onto_kept : (t : TriplePattern K) (q : Quad K) → EachOfTerms q → IfSome (mapping_onto R width t q) P
  onto_kept t q h =
      let subject = fitted R t.subject q.subject (empty_mapping width) in
      if_then P (fitted R t.object q.object) (option_and_then (fitted R t.predicate q.predicate) subject) (λ m. fits t.object q.object m h.2)
      (if_then P (fitted R t.predicate q.predicate) subject (λ m. fits t.predicate q.predicate m h.1) (fits t.subject q.subject (empty_mapping width) h.0 empty))

  among_kept : (t : TriplePattern K) (triples : List (Quad K)) → AllByRecursion EachOfTerms triples → Are (solutions_among R width t triples)
  among_kept t triples h = all_set_of P (mapping_cmp R) _ (all_found EachOfTerms P (mapping_onto R width t) (onto_kept t) triples h)

  pair_kept : (a b : Mapping K) → P a → P b → IfSome (joined R a b) P
  pair_kept a b ha hb = if_chosen P (compatible R a b) (merge a b) (merges a b ha hb)

  join_kept : (xs ys : List (Mapping K)) → Are xs → Are ys → Are (join R xs ys)
  join_kept xs ys hx hy =
      all_set_of P (mapping_cmp R) _ (all_gathered P P (λ a. filter_map (joined R a) ys) (λ a ha. all_found P P (joined R a) (λ b hb. pair_kept a b ha hb) ys hy) xs hx)

  union_kept : (xs ys : List (Mapping K)) → Are xs → Are ys → Are (union_of R xs ys)
  union_kept xs ys hx hy = all_set_of P (mapping_cmp R) (xs ++ ys) (all_joined P xs ys hx hy)

  basic_kept : (found : List (Mapping K)) (ts : List (TriplePattern K)) (triples : List (Quad K)) → Are found → AllByRecursion EachOfTerms triples
      → Are (joined_with R width found ts triples)
  basic_kept found [] triples h k = h
  basic_kept found (t ∷ ts) triples h k =
      basic_kept (join R found (solutions_among R width t triples)) ts triples (join_kept found (solutions_among R width t triples) h (among_kept t triples k)) k

  module _ (passes : Expression K → Mapping K → Bool) (d : Dataset K) (quads : AllByRecursion EachOfTerms d.quads) (names : AllByRecursion T d.names) where
    pub solutions_kept : (p : Plan K) (graph : Option K) → Are (solutions R passes width p d graph)
    solutions_kept (Basic ts) graph =
        basic_kept (empty_mapping width ∷ []) ts (quads_in R graph d.quads) (empty, tt) (all_kept EachOfTerms (λ q. same_graph R q.graph graph) d.quads quads)
    solutions_kept (Join a b) graph = join_kept (solutions R passes width a d graph) (solutions R passes width b d graph) (solutions_kept a graph) (solutions_kept b graph)
    solutions_kept (LeftJoin a b es) graph =
        let xs = solutions R passes width a d graph in
        let ys = solutions R passes width b d graph in
        let hx = solutions_kept a graph in
        let test = passes_all passes es in
        union_kept (filter test (join R xs ys)) (diff R test xs ys) (all_kept P test (join R xs ys) (join_kept xs ys hx (solutions_kept b graph))) (all_kept P _ xs hx)
    solutions_kept (Union a b) graph = union_kept (solutions R passes width a d graph) (solutions R passes width b d graph) (solutions_kept a graph) (solutions_kept b graph)
    solutions_kept (Minus a b) graph = all_kept P _ (solutions R passes width a d graph) (solutions_kept a graph)
    solutions_kept (Filter es a) graph = all_kept P (passes_all passes es) (solutions R passes width a d graph) (solutions_kept a graph)
    solutions_kept (InGraph (place.Term name) a) graph = all_chosen P (has R d.names name) (solutions R passes width a d (Some name)) (solutions_kept a (Some name))
    solutions_kept (InGraph (place.Variable v) a) graph =
        all_set_of P (mapping_cmp R) _
        (all_gathered T P (λ name. filter_map (fitted R (place.Variable v) name) (solutions R passes width a d (Some name)))
        (λ name is. all_found P P (fitted R (place.Variable v) name) (λ m. fits (place.Variable v) name m is) (solutions R passes width a d (Some name)) (solutions_kept a (Some name)))
        d.names names)
