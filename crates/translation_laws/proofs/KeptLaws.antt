-- What a run keeps of the terms and quads of a dataset, where what is made of them, of what
-- requests bring and of made nodes has it too.
use Rattle.std.proofs.Common.{◌≡◌, ℕ, ◌+◌, ◌<◌, ◌≤◌, ◌^◌, Bool, true, false, List, [], ◌∷◌, ◌++◌, length, map, Option, Some, None, Result, Ok, Err, refl, arith, slice_set}
use Rattle.std.specs.Prelude.{zero, suc, IfSome, if◌then◌else◌}
use Rattle.std.specs.List.{AllByRecursion}
use Rattle.std.specs.Ordering.{eq_by_cmp}
use Rattle.std.proofs.lemmas.Bool.{ltb-false}
use Rattle.sets.specs.Sets.{has, union, without, with}
use Rattle.sets.proofs.Every.{all_joined, all_with, all_set_of, all_kept, all_weaker}
use Rattle.datasets.specs.declared.quad.Quad.{Quad}
use Rattle.datasets.specs.Dataset.{Dataset, quad_order, quads_in, same_graph, is_there, graph_name, names_of}
use Rattle.algebra.specs.declared.pattern.Place.{Place}
use Rattle.algebra.specs.declared.pattern.Place.TheVariants as place
use Rattle.algebra.specs.declared.template.Slot.{Slot}
use Rattle.algebra.specs.declared.template.Slot.TheVariants as slot
use Rattle.algebra.specs.declared.template.QuadTemplate.{QuadTemplate}
use Rattle.algebra.specs.declared.update.Target.TheVariants as target
use Rattle.algebra.specs.declared.update.Transfer.{Transfer}
use Rattle.algebra.specs.declared.update.Transfer.TheVariants as transfer
use Rattle.algebra.specs.declared.update.GraphOperation.{GraphOperation}
use Rattle.algebra.specs.declared.update.GraphOperation.TheVariants as graphs
use Rattle.algebra.specs.declared.update.Operation.{Operation}
use Rattle.algebra.specs.declared.update.Operation.TheVariants as operation
use Rattle.terms.specs.declared.term.Term.{Term}
use Rattle.terms.specs.declared.term.Term.TheVariants.{Made}
use Rattle.terms.specs.Term.{term_order}
use Rattle.meaning.specs.Mapping.{Mapping, empty_mapping, term_for, either, merge, bound_to, fitted}
use Rattle.meaning.specs.Solutions.{solutions}
use Rattle.meaning.specs.Template.{term_at, in_some, graph_at, is_legal, legal_quad, instance_of, instances_from, instances}
use Rattle.meaning.specs.GraphOperations.{outside, without_name, with_name, cleared, dropped, in_graph, moved_to, copied, transferred, if_there, graphs_after, silently}
use Rattle.meaning.specs.Effect.{is_too_many, replaced, modified, effect_of}
use Rattle.meaning.specs.Run.{Request, Failure, then_next, performed, settled, answer_of, run_from, run}
use Rattle.meaning.specs.declared.reply.Cause.{Cause}
use Rattle.meaning.specs.declared.reply.Cause.TheVariants.{GraphExists, GraphMissing, TooManySolutions}
use Rattle.dict.specs.Dictionary.{written}
use Rattle.nquads_laws.specs.WellFormed.{AreMadeNumbers}
use Rattle.translation_laws.specs.Each.{EachOfSlot, EachOfQuad}
use Rattle.translation_laws.specs.Formed.{EachOfGraphs, EachBrought}
use Rattle.translation_laws.proofs.LabelLaws.{IsNumber}
use Rattle.translation_laws.proofs.SolutionLaws.{if_chosen, all_found, solutions_kept}

-- what holds of terms (T), of names of graphs (G) and of quads (Q) is so of what is made of these
pub record IsKept (T G : Term → Type 0) (Q : Quad Term → Type 0) : Type 0 where
  pub name : (t : Term) → G t → T t
  pub made : (r o l s : ℕ) → AreMadeNumbers r o l s → T (Made r o l s)
  pub quad : (q : Quad Term) → Q q → T q.subject × T q.predicate × T q.object × IfSome q.graph G
  pub legal : (s p o : Term) (g : Option Term) → T s → T p → T o → IfSome g T → is_legal written s p g ≡ true
      → Q (record { subject = s; predicate = p; object = o; graph = g })
  pub moved : (g : Option Term) (q : Quad Term) → Q q → IfSome g G → Q (in_graph term_order g q)

module _ (T G : Term → Type 0) (Q : Quad Term → Type 0) (kept : IsKept T G Q) where
  -- ---- what mappings bind

  abbrev IfTerm : Option Term → Type 0
  IfTerm o = IfSome o T

  abbrev Binds : Mapping Term → Type 0
  Binds = AllByRecursion IfTerm

  empty_binds : (width : ℕ) → Binds (empty_mapping width)
  empty_binds zero = tt
  empty_binds (suc width) = (tt, empty_binds width)

  set_binds : (m : Mapping Term) (v : ℕ) (x : Term) → T x → Binds m → Binds (slice_set m v (Some x))
  set_binds [] v x hx h = tt
  set_binds (y ∷ m) zero x hx h = (hx, h.1)
  set_binds (y ∷ m) (suc v) x hx h = (h.0, set_binds m v x hx h.1)

  fitted_binds : (p : Place Term) (x : Term) (m : Mapping Term) → T x → Binds m → IfSome (fitted term_order p x m) Binds
  fitted_binds (place.Term y) x m hx h = if_chosen Binds (eq_by_cmp term_order x y) m h
  fitted_binds (place.Variable v) x m hx h = at (term_for m v)
    where
      at : (o : Option Term) → IfSome (bound_to term_order m v x o) Binds
      at None = set_binds m v x hx h
      at (Some y) = if_chosen Binds (eq_by_cmp term_order x y) m h

  merged_binds : (a b : Mapping Term) → Binds a → Binds b → Binds (merge a b)
  merged_binds [] b ha hb = tt
  merged_binds (x ∷ a) [] ha hb = tt
  merged_binds (x ∷ a) (y ∷ b) ha hb = (at x ha.0, merged_binds a b ha.1 hb.1)
    where
      at : (x : Option Term) → IfTerm x → IfTerm (either x y)
      at None h = hb.0
      at (Some z) h = h

  term_for_binds : (m : Mapping Term) (v : ℕ) → Binds m → IfTerm (term_for m v)
  term_for_binds [] v h = tt
  term_for_binds (x ∷ m) zero h = h.0
  term_for_binds (x ∷ m) (suc v) h = term_for_binds m v h.1

  -- ---- instances of templates

  abbrev KeptSlot : Slot Term → Type 0
  KeptSlot = EachOfSlot T (λ v. Unit {0}) IsNumber

  abbrev KeptQuad : QuadTemplate Term → Type 0
  KeptQuad = EachOfQuad T (λ v. Unit {0}) IsNumber

  module _ (node : ℕ → Term) (made : (l : ℕ) → IsNumber l → T (node l)) (m : Mapping Term) (binds : Binds m) where
    term_kept : (s : Slot Term) → KeptSlot s → IfTerm (term_at written node m s)
    term_kept (slot.Term t) h = h
    term_kept (slot.Variable v) h = term_for_binds m v binds
    term_kept (slot.Label l) h = made l h

    graph_kept : (g : Option (Slot Term)) → IfSome g KeptSlot → IfSome (graph_at written node m g) IfTerm
    graph_kept None h = tt
    graph_kept (Some s) h = at (term_at written node m s) (term_kept s h)
      where
        at : (o : Option Term) → IfTerm o → IfSome (in_some written o) IfTerm
        at None k = tt
        at (Some t) k = k

    quad_kept : (s p o : Option Term) (g : Option (Option Term)) → IfTerm s → IfTerm p → IfTerm o → IfSome g IfTerm → IfSome (legal_quad written s p o g) Q
    quad_kept None p o g hs hp ho hg = tt
    quad_kept (Some s) None o g hs hp ho hg = tt
    quad_kept (Some s) (Some p) None g hs hp ho hg = tt
    quad_kept (Some s) (Some p) (Some o) None hs hp ho hg = tt
    quad_kept (Some s) (Some p) (Some o) (Some g) hs hp ho hg = at (is_legal written s p g) refl
      where
        q : Quad Term
        q = record { subject = s; predicate = p; object = o; graph = g }

        at : (b : Bool) → is_legal written s p g ≡ b → IfSome (if b then Some q else None) Q
        at true e = kept.legal s p o g hs hp ho hg e
        at false e = tt

    instance_kept : (t : QuadTemplate Term) → KeptQuad t → IfSome (instance_of written node m t) Q
    instance_kept t h =
        quad_kept (term_at written node m t.subject) (term_at written node m t.predicate) (term_at written node m t.object) (graph_at written node m t.graph)
        (term_kept t.subject h.0) (term_kept t.predicate h.1) (term_kept t.object h.2) (graph_kept t.graph h.3)

  instances_kept : (r o : ℕ) (ts : List (QuadTemplate Term)) (rank : ℕ) (ms : List (Mapping Term)) → r < 2 ^ 32 → o < 2 ^ 32 → rank + length ms ≤ 2 ^ 32
      → AllByRecursion KeptQuad ts → AllByRecursion Binds ms → AllByRecursion Q (instances_from written r o ts rank ms)
  instances_kept r o ts rank [] hr ho small h k = tt
  instances_kept r o ts rank (m ∷ ms) hr ho small h k =
      let node : ℕ → Term = λ l. Made r o l rank in
      all_joined Q _ (instances_from written r o ts (rank + 1) ms)
      (all_found KeptQuad Q (instance_of written node m)
      (instance_kept node (λ l hl. kept.made r o l rank (record { request = hr; op = ho; label = hl; rank = omega (arith, small) })) m k.0) ts h)
      (instances_kept r o ts (rank + 1) ms hr ho (omega (arith, small)) h k.1)

  -- ---- datasets

  -- it holds of the quads and of the names of a dataset
  abbrev AreKept : Dataset Term → Type 0
  AreKept d = AllByRecursion Q d.quads × AllByRecursion G d.names

  abbrev LeavesKept : {E : Type 0} → Result (Dataset Term) E → Type 0
  LeavesKept (Ok d) = AreKept d
  LeavesKept (Err e) = Unit {0}

  graph_of_quad : (q : Quad Term) → Q q → IfSome (graph_name q) G
  graph_of_quad q h = let parts = kept.quad q h in parts.3

  terms_of_quad : (q : Quad Term) → Q q → T q.subject × T q.predicate × T q.object
  terms_of_quad q h = let parts = kept.quad q h in (parts.0, parts.1, parts.2)

  replaced_kept : (d : Dataset Term) (deleted inserted : List (Quad Term)) → AreKept d → AllByRecursion Q inserted → AreKept (replaced written d deleted inserted)
  replaced_kept d deleted inserted h k = (
    all_set_of Q (quad_order term_order) (without (quad_order term_order) d.quads deleted ++ inserted)
        (all_joined Q (without (quad_order term_order) d.quads deleted) inserted (all_kept Q _ d.quads h.0) k),
    all_set_of G term_order (d.names ++ names_of inserted) (all_joined G d.names (names_of inserted) h.1 (all_found Q G graph_name graph_of_quad inserted k)),
  )

  -- ---- operations on graphs

  without_kept : (g : Option Term) (names : List Term) → AllByRecursion G names → AllByRecursion G (without_name term_order g names)
  without_kept None names h = h
  without_kept (Some g) names h = all_kept G _ names h

  named_kept : (g : Option Term) (names : List Term) → IfSome g G → AllByRecursion G names → AllByRecursion G (with_name term_order g names)
  named_kept None names hg h = h
  named_kept (Some g) names hg h = all_with G term_order g names hg h

  outside_kept : (g : Option Term) (quads : List (Quad Term)) → AllByRecursion Q quads → AllByRecursion Q (outside term_order g quads)
  outside_kept g quads h = all_kept Q _ quads h

  inside_kept : (g : Option Term) (quads : List (Quad Term)) → AllByRecursion Q quads → AllByRecursion Q (quads_in term_order g quads)
  inside_kept g quads h = all_kept Q _ quads h

  moved_kept : (to : Option Term) (quads : List (Quad Term)) → IfSome to G → AllByRecursion Q quads → AllByRecursion Q (map (in_graph term_order to) quads)
  moved_kept to [] ht h = tt
  moved_kept to (q ∷ quads) ht h =
      (kept.moved to q h.0 ht, moved_kept to quads ht h.1)

  dropped_kept : (g : Option Term) (d : Dataset Term) → AreKept d → AreKept (dropped term_order g d)
  dropped_kept g d h = (outside_kept g d.quads h.0, without_kept g d.names h.1)

  joined_kept : (from to : Option Term) (kept : List (Quad Term)) (d : Dataset Term) → IfSome to G → AllByRecursion Q kept → AreKept d
      → AllByRecursion Q (union (quad_order term_order) kept (moved_to term_order from to d)) × AllByRecursion G (with_name term_order to d.names)
  joined_kept from to kept d ht k h = (
    all_set_of Q (quad_order term_order) (kept ++ moved_to term_order from to d)
        (all_joined Q kept (moved_to term_order from to d) k (moved_kept to (quads_in term_order from d.quads) ht (inside_kept from d.quads h.0))),
    named_kept to d.names ht h.1,
  )

  transferred_kept : (how : Transfer) (from to : Option Term) (d : Dataset Term) → IfSome to G → AreKept d → AreKept (transferred term_order how from to d)
  transferred_kept transfer.Add from to d ht h = joined_kept from to d.quads d ht h.0 h
  transferred_kept transfer.Copy from to d ht h = joined_kept from to (outside term_order to d.quads) d ht (outside_kept to d.quads h.0) h
  transferred_kept transfer.Move from to d ht h =
      dropped_kept from (copied term_order from to d) (joined_kept from to (outside term_order to d.quads) d ht (outside_kept to d.quads h.0) h)

  if_kept : (b : Bool) (x y : Result (Dataset Term) Cause) → LeavesKept x → LeavesKept y → LeavesKept (if b then x else y)
  if_kept true x y h k = h
  if_kept false x y h k = k

  graphs_kept : (op : GraphOperation Term) (d : Dataset Term) → EachOfGraphs G op → AreKept d → LeavesKept (graphs_after term_order op d)
  graphs_kept (graphs.Create g) d hg h =
      if_kept (has term_order d.names g) (Err GraphExists) (Ok (record { quads = d.quads; names = with term_order g d.names })) tt (h.0, all_with G term_order g d.names hg h.1)
  graphs_kept (graphs.Drop (target.Graph g)) d hg h = if_kept (is_there term_order d (Some g)) (Ok (dropped term_order (Some g) d)) (Err GraphMissing) (dropped_kept (Some g) d h) tt
  graphs_kept (graphs.Drop target.Default) d hg h = (outside_kept None d.quads h.0, h.1)
  graphs_kept (graphs.Drop target.Named) d hg h = (inside_kept None d.quads h.0, tt)
  graphs_kept (graphs.Drop target.All) d hg h = (tt, tt)
  graphs_kept (graphs.Clear (target.Graph g)) d hg h =
      if_kept (is_there term_order d (Some g)) (Ok (cleared term_order (Some g) d)) (Err GraphMissing) (outside_kept (Some g) d.quads h.0, h.1) tt
  graphs_kept (graphs.Clear target.Default) d hg h = (outside_kept None d.quads h.0, h.1)
  graphs_kept (graphs.Clear target.Named) d hg h = (inside_kept None d.quads h.0, h.1)
  graphs_kept (graphs.Clear target.All) d hg h = (tt, h.1)
  graphs_kept (graphs.Transfer how from to) d hg h =
      if_kept (same_graph term_order from to) (Ok d) (if_there term_order d from (transferred term_order how from to d)) h
      (if_kept (is_there term_order d from) (Ok (transferred term_order how from to d)) (Err GraphMissing) (transferred_kept how from to d hg h) tt)

  silently_kept : (silent : Bool) (d : Dataset Term) (e : Result (Dataset Term) Cause) → AreKept d → LeavesKept e → LeavesKept (silently term_order silent d e)
  silently_kept silent d (Ok e) h k = k
  silently_kept true d (Err cause) h k = h
  silently_kept false d (Err cause) h k = tt

  -- ---- operations, answers and runs

  modified_kept : (r o : ℕ) (delete insert : List (QuadTemplate Term)) (found : List (Mapping Term)) (d : Dataset Term) → r < 2 ^ 32 → o < 2 ^ 32
      → AllByRecursion KeptQuad insert → AllByRecursion Binds found → AreKept d → LeavesKept (modified written r o delete insert found d)
  modified_kept r o delete insert found d hr ho h k is = at (is_too_many (length found)) refl
    where
      after : Dataset Term
      after = replaced written d (instances written r o delete found) (instances written r o insert found)

      at : (b : Bool) → is_too_many (length found) ≡ b → LeavesKept {E = Cause} (if b then Err TooManySolutions else Ok after)
      at true e = tt
      at false e =
          let few : length found ≤ 1000000 = ltb-false 1000000 (length found) e in
          replaced_kept d (instances written r o delete found) (instances written r o insert found) is (instances_kept r o insert 0 found hr ho (omega (arith, few)) h k)

  effect_kept : (r o : ℕ) (op : Operation Term) (d : Dataset Term) → r < 2 ^ 32 → o < 2 ^ 32 → EachBrought T G IsNumber op → AreKept d → LeavesKept (effect_of written r o op d)
  effect_kept r o (operation.Modify m) d hr ho h is =
      modified_kept r o m.delete m.insert (solutions written.order written.passes m.width m.pattern d m.active) d hr ho h
      (solutions_kept term_order m.width T Binds (empty_binds m.width) fitted_binds merged_binds written.passes d
      (all_weaker Q (λ q. T q.subject × T q.predicate × T q.object) terms_of_quad d.quads is.0) (all_weaker G T kept.name d.names is.1) m.pattern m.active)
      is
  effect_kept r o (operation.Graphs silent op) d hr ho h is = silently_kept silent d (graphs_after term_order op d) is (graphs_kept op d h is)

  next_kept : (o : ℕ) (e : Result (Dataset Term) Cause) (go : Dataset Term → Result (Dataset Term) Failure) → LeavesKept e
      → ((d : Dataset Term) → AreKept d → LeavesKept (go d)) → LeavesKept (then_next written o e go)
  next_kept o (Ok d) go h each = each d h
  next_kept o (Err cause) go h each = tt

  performed_kept : (r o : ℕ) (ops : List (Operation Term)) (d : Dataset Term) → r < 2 ^ 32 → o + length ops ≤ 2 ^ 32 → AllByRecursion (EachBrought T G IsNumber) ops → AreKept d
      → LeavesKept (performed written r o ops d)
  performed_kept r o [] d hr small h is = is
  performed_kept r o (op ∷ ops) d hr small h is =
      next_kept o (effect_of written r o op d) (performed written r (o + 1) ops) (effect_kept r o op d hr (omega (arith, small)) h.0 is)
      (λ e k. performed_kept r (o + 1) ops e hr (omega (arith, small)) h.1 k)

  settled_kept : (d : Dataset Term) (e : Result (Dataset Term) Failure) → AreKept d → LeavesKept e → AreKept (settled written d e).0
  settled_kept d (Ok e) h k = k
  settled_kept d (Err failure) h k = h

  -- what a request that isn't refused brings is so, and its operations' places are numbers of 32
  -- bits
  abbrev pub IsBrought : Request Term → Type 0
  IsBrought (Ok operations) = (length operations ≤ 2 ^ 32) × AllByRecursion (EachBrought T G IsNumber) operations
  IsBrought (Err refusal) = Unit {0}

  answer_kept : (i : ℕ) (request : Request Term) (d : Dataset Term) → i < 2 ^ 32 → IsBrought request → AreKept d → AreKept (answer_of written i request d).0
  answer_kept i (Ok ops) d small h is = settled_kept d (performed written i 0 ops d) is (performed_kept i 0 ops d small (let few = h.0 in omega (arith, few)) h.1 is)
  answer_kept i (Err refusal) d small h is = is

  run_from_kept : (i : ℕ) (requests : List (Request Term)) (d : Dataset Term) → i + length requests ≤ 2 ^ 32 → AllByRecursion IsBrought requests → AreKept d
      → AreKept (run_from written i requests d).0
  run_from_kept i [] d small h is = is
  run_from_kept i (r ∷ rs) d small h is = run_from_kept (i + 1) rs (answer_of written i r d).0 (omega (arith, small)) h.1 (answer_kept i r d (omega (arith, small)) h.0 is)

  pub run_kept : (requests : List (Request Term)) (d : Dataset Term) → length requests ≤ 2 ^ 32 → AllByRecursion IsBrought requests → AreKept d → AreKept (run written requests d).0
  run_kept requests d small h is = run_from_kept 0 requests d (omega (arith, small)) h is
