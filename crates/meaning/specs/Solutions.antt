-- The solutions of a pattern (SPARQL 1.1 Query, 18.3 and 18.6), as a set of mappings:
-- multiplicities are left out.
use Rattle.std.specs.Prelude.{ℕ, Bool, List, [], ◌∷◌, Option, Some, cond, filter, filter_map, option_and_then}
use Rattle.std.specs.List.{list_all, flat_map}
use Rattle.std.specs.declared.cmp.Ordering.{Ordering}
use Rattle.sets.specs.Sets.{has, set_of}
use Rattle.datasets.specs.Dataset.{Dataset, quads_in}
use Rattle.datasets.specs.declared.quad.Quad.{Quad}
use Rattle.algebra.specs.declared.pattern.Place.TheVariants as place
use Rattle.algebra.specs.declared.pattern.TriplePattern.{TriplePattern}
use Rattle.algebra.specs.Expressions.{Expression}
use Rattle.algebra.specs.Plans.{Plan, Basic, Join, LeftJoin, Union, Minus, Filter, InGraph}
use Rattle.meaning.specs.Mapping.{Mapping, empty_mapping, mapping_cmp, fitted}
use Rattle.meaning.specs.Operators.{join, union_of, minus, left_join}

module _ {K : Type 0} (R : K → K → Ordering) (width : ℕ) where
  -- the one mapping of a triple pattern's variables under which it is this triple, if there is one
  abbrev pub mapping_onto : TriplePattern K → Quad K → Option (Mapping K)
  mapping_onto t q =
      option_and_then (fitted R t.object q.object)
      (option_and_then (fitted R t.predicate q.predicate) (fitted R t.subject q.subject (empty_mapping width)))

  -- the solutions of a triple pattern among the triples of a graph
  abbrev pub solutions_among : TriplePattern K → List (Quad K) → List (Mapping K)
  solutions_among t triples = set_of (mapping_cmp R) (filter_map (mapping_onto t) triples)

  -- these mappings, joined with the solutions of triple patterns in order
  abbrev pub joined_with : List (Mapping K) → List (TriplePattern K) → List (Quad K) → List (Mapping K)
  joined_with found [] triples = found
  joined_with found (t ∷ ts) triples = joined_with (join R found (solutions_among t triples)) ts triples

  -- the solutions of a basic graph pattern: those of its triple patterns, joined; of none, the
  -- empty mapping
  abbrev pub basic_solutions : List (TriplePattern K) → List (Quad K) → List (Mapping K)
  basic_solutions ts triples = joined_with (empty_mapping width ∷ []) ts triples

-- whether a mapping passes each filter
abbrev pub passes_all : {K : Type 0} → (Expression K → Mapping K → Bool) → List (Expression K) → Mapping K → Bool
passes_all passes filters mapping = list_all (λ e. passes e mapping) filters

module _ {K : Type 0} (R : K → K → Ordering) (passes : Expression K → Mapping K → Bool) (width : ℕ) where
  -- the solutions of a pattern in a dataset, with this graph as the active one
  abbrev pub solutions : Plan K → Dataset K → Option K → List (Mapping K)
  solutions (Basic ts) d graph = basic_solutions R width ts (quads_in R graph d.quads)
  solutions (Join a b) d graph = join R (solutions a d graph) (solutions b d graph)
  solutions (LeftJoin a b es) d graph = left_join R (passes_all passes es) (solutions a d graph) (solutions b d graph)
  solutions (Union a b) d graph = union_of R (solutions a d graph) (solutions b d graph)
  solutions (Minus a b) d graph = minus R (solutions a d graph) (solutions b d graph)
  solutions (Filter es a) d graph = filter (passes_all passes es) (solutions a d graph)
  solutions (InGraph (place.Term name) a) d graph = cond (has R d.names name) (solutions a d (Some name)) []
  solutions (InGraph (place.Variable v) a) d graph =
      set_of (mapping_cmp R) (flat_map (λ name. filter_map (fitted R (place.Variable v) name) (solutions a d (Some name))) d.names)
