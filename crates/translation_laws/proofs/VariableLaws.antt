-- The numbers of variables, against the width of their operation.
use Rattle.std.proofs.Common.{◌≡◌, ℕ, suc, ◌<◌, ◌≤◌, Bool, true, false, ◌||◌, cond, List, [], ◌∷◌, length, slice_get, unwrap_or, Option, Some, None, refl, sym, ap, ◌∙◌, subst, arith}
use Rattle.std.proofs.lemmas.Bool.{false≢true, or_cases, or_right}
use Rattle.std.specs.Prelude.{◌↔◌, filter_map, IfSome}
use Rattle.std.proofs.lemmas.Bool.{eqb-true}
use Rattle.std.specs.List.{AllByRecursion, Contains, list_any}
use Rattle.std.specs.Ordering.{is_eq, eq_by_cmp}
use Rattle.std.specs.Cmp.{tied_itself, eq_by_cmp_equiv, Equal-is}
use Rattle.std.proofs.lemmas.Map.Views.{list_any-from_Contains}
use Rattle.std.proofs.Math.Logic.{⊎_elim}
use Rattle.std.proofs.lemmas.Option.{same_Some}
use Rattle.sets.specs.Sets.{has}
use Rattle.sets.proofs.SetLaws.{has-set_of}
use Rattle.terms.specs.declared.term.Term.{Term}
use Rattle.terms.specs.Term.{text_cmp}
use Rattle.terms.specs.TermLaws.{text_total, text_exact}
use Rattle.datasets.specs.declared.quad.Quad.{Quad}
use Rattle.algebra.specs.declared.pattern.Place.{Place}
use Rattle.algebra.specs.declared.pattern.Place.TheVariants as place
use Rattle.algebra.specs.declared.pattern.TriplePattern.{TriplePattern}
use Rattle.algebra.specs.Plans.{Plan, Basic, Join, LeftJoin, Union, Minus, Filter, InGraph}
use Rattle.syntax_trees.specs.declared.tree.Name.{Name}
use Rattle.syntax_trees.specs.declared.tree.Node.{Node}
use Rattle.syntax_trees.specs.declared.tree.Node.TheVariants as node
use Rattle.syntax_trees.specs.declared.tree.Block.{Block}
use Rattle.syntax_trees.specs.declared.tree.Operation.{Operation}
use Rattle.syntax_trees.specs.declared.tree.Operation.TheVariants as operation
use Rattle.syntax_trees.specs.declared.tree.Step.{Step}
use Rattle.syntax_trees.specs.declared.tree.Step.TheVariants as step
use Rattle.syntax_trees.specs.Groups.{group}
use Rattle.names.specs.Names.{Prefixes, declare}
use Rattle.names.specs.Numbers.{Labels, variable_of, variables_of, number_of, labels_of, with_labels}
use Rattle.names.proofs.NumberLaws.{none_is}
use Rattle.nodes.specs.Nodes.{nodes_of_blocks, nodes_of_where, nodes_of_operation}
use Rattle.group_translation.specs.Triples.{template_of}
use Rattle.translation.specs.Translation.{operation_with, translated_after, translated}
use Rattle.meaning.specs.Vocabulary.{Vocabulary}
use Rattle.meaning_laws.specs.Answers.{IsExactOrder}
use Rattle.meaning_laws.specs.BasicPatterns.{is_variable, stands_in, JoinsAreSolutions}
use Rattle.meaning_laws.proofs.Members.{here, there, to_filter_map}
use Rattle.algebra.specs.declared.update.Operation.{Operation as Update}
use Rattle.algebra.specs.declared.update.Operation.TheVariants as update
use Rattle.translation_laws.specs.Each.{EachOfPlace, EachOfTriple, EachOfPlan, EachOfQuad}
use Rattle.translation_laws.specs.Widths.{IsWithinWidth, EachBasic, IsSolved}
use Rattle.translation_laws.proofs.NodeLaws.{EachOfNode, EachOfSlotNode, group_each, quads_each, template_each}

-- ---- a variable's number

number_below : (ws : List (List ℕ)) (v : List ℕ) → has text_cmp ws v ≡ true → number_of ws v < length ws
number_below [] v e = absurd (false≢true e)
number_below (w ∷ ws) v e = at (is_eq (text_cmp v w)) e (number_below ws v)
  where
    at : (b : Bool) → (b || has text_cmp ws v) ≡ true → (has text_cmp ws v ≡ true → number_of ws v < length ws) → cond b 0 (suc (number_of ws v)) < suc (length ws)
    at true e h = omega arith
    at false e h = let lt = h e in omega (arith, lt)

number_within : (ws : List (List ℕ)) (v : List ℕ) → number_of ws v ≤ length ws
number_within [] v = omega arith
number_within (w ∷ ws) v = at (is_eq (text_cmp v w)) (number_within ws v)
  where
    at : (b : Bool) → number_of ws v ≤ length ws → cond b 0 (suc (number_of ws v)) ≤ suc (length ws)
    at true h = omega arith
    at false h = omega (arith, h)

-- ---- each variable among nodes

abbrev names_of : List Node → List (List ℕ)
names_of ns = filter_map variable_of ns

abbrev KnownIn : List (List ℕ) → List Node → Type 0
KnownIn vs ns = (v : List ℕ) → has text_cmp (names_of ns) v ≡ true → number_of vs v < length vs

all_known : (ds : Prefixes) (vs : List (List ℕ)) (ns : List Node) → KnownIn vs ns → AllByRecursion (EachOfNode ds vs (λ t. Unit {0}) (λ v. v < length vs)) ns
all_known ds vs [] h = tt
all_known ds vs (node.Variable v ∷ ns) h =
    (h v (ap (λ r. is_eq r || has text_cmp (names_of ns) v) (tied_itself text_total v)), all_known ds vs ns (λ w e. h w (or_right (eq_by_cmp text_cmp w v) (has text_cmp (names_of ns) w) e)))
all_known ds vs (node.Name n ∷ ns) h = (tt, all_known ds vs ns h)
all_known ds vs (node.Type ∷ ns) h = (tt, all_known ds vs ns h)
all_known ds vs (node.Blank l ∷ ns) h = (tt, all_known ds vs ns h)
all_known ds vs (node.Literal l ∷ ns) h = (tt, all_known ds vs ns h)

nodes_known : (ds : Prefixes) (ns : List Node) → AllByRecursion (EachOfNode ds (variables_of ns) (λ t. Unit {0}) (λ v. v < length (variables_of ns))) ns
nodes_known ds ns = all_known ds (variables_of ns) ns (λ v e. number_below (variables_of ns) v (has-set_of text_total v (names_of ns) ∙ e))

slot_within : (ds : Prefixes) (vs : List (List ℕ)) (ls : Labels) (n : Node) → EachOfSlotNode ds vs ls (λ t. Unit {0}) (λ v. v ≤ length vs) (λ l. Unit {0}) n
slot_within ds vs ls (node.Variable v) = number_within vs v
slot_within ds vs ls (node.Blank l) = tt
slot_within ds vs ls (node.Name n) = tt
slot_within ds vs ls node.Type = tt
slot_within ds vs ls (node.Literal l) = tt

slots_within : (ds : Prefixes) (vs : List (List ℕ)) (ls : Labels) (ns : List Node) → AllByRecursion (EachOfSlotNode ds vs ls (λ t. Unit {0}) (λ v. v ≤ length vs) (λ l. Unit {0})) ns
slots_within ds vs ls [] = tt
slots_within ds vs ls (n ∷ ns) = (slot_within ds vs ls n, slots_within ds vs ls ns)

template_within : (ds : Prefixes) (vs : List (List ℕ)) (ls : Labels) (with : Option Name) (bs : List Block) → AllByRecursion (EachOfQuad (λ t. Unit {0}) (λ v. v ≤ length vs) (λ l. Unit {0})) (template_of ds vs ls with bs)
template_within ds vs ls with bs = template_each ds vs ls (λ t. Unit {0}) (λ v. v ≤ length vs) (λ l. Unit {0}) with bs (named with) (slots_within ds vs ls (nodes_of_blocks bs))
  where
    named : (with : Option Name) → IfSome with (λ n. Unit {0})
    named None = tt
    named (Some n) = tt

-- ---- operations

operation_within : (ds : Prefixes) (ls : Labels) (op : Operation) → IsWithinWidth (operation_with ds (variables_of (nodes_of_where op)) ls op)
operation_within ds ls (operation.Create silent n) = tt
operation_within ds ls (operation.Drop silent t) = tt
operation_within ds ls (operation.Clear silent t) = tt
operation_within ds ls (operation.Transfer how silent from to) = tt
operation_within ds ls (operation.InsertData qs) = (tt, tt, template_within ds (variables_of []) ls None qs)
operation_within ds ls (operation.DeleteData qs) = (tt, template_within ds (variables_of []) ls None qs, tt)
operation_within ds ls (operation.DeleteWhere qs) =
    let ns = nodes_of_blocks qs in
    (quads_each ds (variables_of ns) (λ t. Unit {0}) (λ v. v < length (variables_of ns)) qs (nodes_known ds ns), template_within ds (variables_of ns) ls None qs, tt)
operation_within ds ls (operation.Modify with xs ys g) =
    let ns = nodes_of_where (operation.Modify with xs ys g) in (
      group_each ds (variables_of ns) (λ t. Unit {0}) (λ v. v < length (variables_of ns)) (group g) (nodes_known ds ns),
      template_within ds (variables_of ns) ls with xs,
      template_within ds (variables_of ns) ls with ys,
    )

steps_within : (ds : Prefixes) (steps : List Step) → AllByRecursion IsWithinWidth (translated_after ds steps)
steps_within ds [] = tt
steps_within ds (step.Declare prefix iri ∷ steps) = steps_within (declare prefix iri ds) steps
steps_within ds (step.Do op ∷ steps) = (operation_within ds (with_labels (labels_of (nodes_of_operation op)) []) op, steps_within ds steps)

pub within_width : (steps : List Step) → AllByRecursion IsWithinWidth (translated steps)
within_width steps = steps_within [] steps

-- ---- basic graph patterns

module _ {K : Type 0} (width : ℕ) where
  place_below : (x : ℕ) (p : Place K) → EachOfPlace (λ t. Unit {0}) (λ v. v < width) p → is_variable x p ≡ true → x < width
  place_below x (place.Term t) h e = absurd (false≢true e)
  place_below x (place.Variable v) h e = subst (λ y. y < width) (eqb-true v x e) h

  triple_below : (x : ℕ) (t : TriplePattern K) → EachOfTriple (λ t. Unit {0}) (λ v. v < width) t → stands_in x t ≡ true → x < width
  triple_below x t h e =
      ⊎_elim (place_below x t.subject h.0)
      (λ f. ⊎_elim (place_below x t.predicate h.1) (place_below x t.object h.2) (or_cases (is_variable x t.predicate) (is_variable x t.object) f))
      (or_cases (is_variable x t.subject) (is_variable x t.predicate || is_variable x t.object) e)

  triples_below : (x : ℕ) (ts : List (TriplePattern K)) → AllByRecursion (EachOfTriple (λ t. Unit {0}) (λ v. v < width)) ts → list_any (stands_in x) ts ≡ true → x < width
  triples_below x [] h e = absurd (false≢true e)
  triples_below x (t ∷ ts) h e = ⊎_elim (triple_below x t h.0) (triples_below x ts h.1) (or_cases (stands_in x t) (list_any (stands_in x) ts) e)

  each_basic : (P : List (TriplePattern K) → Type 0) → ((ts : List (TriplePattern K)) → AllByRecursion (EachOfTriple (λ t. Unit {0}) (λ v. v < width)) ts → P ts)
      → (p : Plan K) → EachOfPlan (λ t. Unit {0}) (λ v. v < width) p → EachBasic P p
  each_basic P f (Basic ts) h = f ts h
  each_basic P f (Join a b) h = (each_basic P f a h.0, each_basic P f b h.1)
  each_basic P f (LeftJoin a b es) h = (each_basic P f a h.0, each_basic P f b h.1)
  each_basic P f (Union a b) h = (each_basic P f a h.0, each_basic P f b h.1)
  each_basic P f (Minus a b) h = (each_basic P f a h.0, each_basic P f b h.1)
  each_basic P f (Filter es a) h = each_basic P f a h.0
  each_basic P f (InGraph n a) h = each_basic P f a h.1

module _ (V : Vocabulary Term) (triples : List (Quad Term)) (joins : JoinsAreSolutions Term) (exact : IsExactOrder V) where
  operation_solved : (op : Update Term) → IsWithinWidth op → IsSolved V triples op
  operation_solved (update.Modify m) h = each_basic m.width _ (λ ts below. joins V m.width ts triples exact (λ x e. triples_below m.width x ts below e)) m.pattern h.0
  operation_solved (update.Graphs silent op) h = tt

  operations_solved : (ops : List (Update Term)) → AllByRecursion IsWithinWidth ops → AllByRecursion (IsSolved V triples) ops
  operations_solved [] h = tt
  operations_solved (op ∷ ops) h = (operation_solved op h.0, operations_solved ops h.1)

pub basic_patterns_solved : JoinsAreSolutions Term → (V : Vocabulary Term) (triples : List (Quad Term)) (steps : List Step) → IsExactOrder V → AllByRecursion (IsSolved V triples) (translated steps)
basic_patterns_solved joins V triples steps exact = operations_solved V triples joins exact (translated steps) (within_width steps)

-- ---- which variables are below the width

variable_is : (x y : List ℕ) → eq_by_cmp text_cmp x y ≡ true → x ≡ y
variable_is x y e = text_exact x y ((Equal-is (text_cmp x y)).0 e)

-- a name among those of nodes is that of a variable among them
from_names : (ns : List Node) (v : List ℕ) → has text_cmp (names_of ns) v ≡ true → Contains ns (node.Variable v)
from_names [] v e = absurd (false≢true e)
from_names (node.Variable w ∷ ns) v e =
    ⊎_elim (λ same. subst (λ u. Contains (node.Variable u ∷ ns) (node.Variable v)) (variable_is v w same) (here (node.Variable v) ns))
    (λ f. there (node.Variable w) ns (node.Variable v) (from_names ns v f))
    (or_cases (eq_by_cmp text_cmp v w) (has text_cmp (names_of ns) v) e)
from_names (node.Name n ∷ ns) v e = there (node.Name n) ns (node.Variable v) (from_names ns v e)
from_names (node.Type ∷ ns) v e = there node.Type ns (node.Variable v) (from_names ns v e)
from_names (node.Blank l ∷ ns) v e = there (node.Blank l) ns (node.Variable v) (from_names ns v e)
from_names (node.Literal l ∷ ns) v e = there (node.Literal l) ns (node.Variable v) (from_names ns v e)

to_names : (ns : List Node) (v : List ℕ) → Contains ns (node.Variable v) → has text_cmp (names_of ns) v ≡ true
to_names ns v c = list_any-from_Contains (eq_by_cmp_equiv text_total) v (names_of ns) (to_filter_map variable_of ns (node.Variable v) v c refl)

pub below_exactly : (ns : List Node) (v : List ℕ) → (number_of (variables_of ns) v < length (variables_of ns)) ↔ Contains ns (node.Variable v)
below_exactly ns v = (from (has text_cmp (names_of ns) v) refl, λ c. number_below (variables_of ns) v (has-set_of text_total v (names_of ns) ∙ to_names ns v c))
  where
    from : (b : Bool) → has text_cmp (names_of ns) v ≡ b → number_of (variables_of ns) v < length (variables_of ns) → Contains ns (node.Variable v)
    from true e lt = from_names ns v e
    from false e lt = let is = none_is (variables_of ns) v (has-set_of text_total v (names_of ns) ∙ e) in absurd (omega (arith, lt, is))

pub beyond_otherwise : (ns : List Node) (v : List ℕ) → (Contains ns (node.Variable v) → ⊥) → number_of (variables_of ns) v ≡ length (variables_of ns)
beyond_otherwise ns v none = from (has text_cmp (names_of ns) v) refl
  where
    from : (b : Bool) → has text_cmp (names_of ns) v ≡ b → number_of (variables_of ns) v ≡ length (variables_of ns)
    from true e = absurd (none (from_names ns v e))
    from false e = none_is (variables_of ns) v (has-set_of text_total v (names_of ns) ∙ e)

-- at its number stands the variable itself
at_number : (ws : List (List ℕ)) (v : List ℕ) → has text_cmp ws v ≡ true → slice_get ws (number_of ws v) ≡ Some v
at_number [] v e = absurd (false≢true e)
at_number (w ∷ ws) v e = at (is_eq (text_cmp v w)) refl (at_number ws v)
  where
    at : (b : Bool) → is_eq (text_cmp v w) ≡ b → (has text_cmp ws v ≡ true → slice_get ws (number_of ws v) ≡ Some v)
        → slice_get (w ∷ ws) (cond b 0 (suc (number_of ws v))) ≡ Some v
    at true is h = ap (λ x. Some x) (sym (variable_is v w is))
    at false is h = h (sym (ap (λ b. b || has text_cmp ws v) is) ∙ e)

known : (ns : List Node) (v : List ℕ) → Contains ns (node.Variable v) → has text_cmp (variables_of ns) v ≡ true
known ns v c = has-set_of text_total v (names_of ns) ∙ to_names ns v c

pub apart_by_number : (ns : List Node) (v w : List ℕ) → Contains ns (node.Variable v) → Contains ns (node.Variable w) → number_of (variables_of ns) v ≡ number_of (variables_of ns) w → v ≡ w
apart_by_number ns v w cv cw e =
    same_Some v w (sym (at_number (variables_of ns) v (known ns v cv)) ∙ ap (slice_get (variables_of ns)) e ∙ at_number (variables_of ns) w (known ns w cw))
