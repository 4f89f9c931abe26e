-- What operations on whole graphs make of a dataset is a dataset.
use Rattle.std.proofs.Common.{◌≡◌, Bool, true, false, ◌||◌, List, [], ◌∷◌, ◌++◌, Option, Some, None, Result, Ok, Err, map, sym, refl, ap, ◌∙◌}
use Rattle.std.specs.Prelude.{not, filter, if◌then◌else◌}
use Rattle.std.specs.List.{list_any}
use Rattle.std.specs.List.Sorted.{IsStrictlySortedBy}
use Rattle.std.specs.declared.cmp.Ordering.{Ordering}
use Rattle.std.specs.declared.cmp.Ordering.TheVariants.{Equal}
use Rattle.std.specs.Ordering.{eq_by_cmp}
use Rattle.std.specs.Cmp.{IsTotalOrder}
use Rattle.std.proofs.lemmas.Bool.{false≢true, and_from, or_left, or_right, or_cases}
use Rattle.std.proofs.lemmas.List.Kept.{IsStrictlySortedBy-filter}
use Rattle.std.proofs.Math.Logic.{⊎_elim}
use Rattle.std.proofs.lemmas.List.Folds.{list_any-append}
use Rattle.sets.specs.Sets.{with, has, union}
use Rattle.sets.proofs.SetLaws.{sorted-empty, sorted-with, sorted-set_of, has-with, has-without, exact_by}
use Rattle.datasets.specs.declared.quad.Quad.{Quad}
use Rattle.datasets.specs.Dataset.{Dataset, IsDataset, quad_order, quads_in, same_graph, is_there, names_of}
use Rattle.datasets.specs.Id.{quad_total}
use Rattle.algebra.specs.declared.update.Target.TheVariants as target
use Rattle.algebra.specs.declared.update.Transfer.{Transfer}
use Rattle.algebra.specs.declared.update.Transfer.TheVariants as transfer
use Rattle.algebra.specs.declared.update.GraphOperation.{GraphOperation}
use Rattle.algebra.specs.declared.update.GraphOperation.TheVariants as graphs
use Rattle.meaning.specs.GraphOperations.{outside, without_name, with_name, cleared, dropped, in_graph, moved_to, copied, transferred, graphs_after}
use Rattle.meaning.specs.declared.reply.Cause.{Cause}
use Rattle.meaning.specs.declared.reply.Cause.TheVariants.{GraphExists, GraphMissing}
use Rattle.meaning_laws.proofs.Parts.{any-filter, any-set_of, is_of, in_it, has-names_of, LeavesDataset}

-- ---- what holds of some member that a filter keeps

or-nothing : (b : Bool) → not b ≡ true → not (b || false) ≡ true
or-nothing true h = h
or-nothing false h = refl

module _ {A : Type 0} (p q : A → Bool) (c : Bool) (each : (x : A) → p x ≡ true → q x ≡ true → c ≡ true) where
  if-kept : (b : Bool) (x : A) (ys : List A) → (b ≡ true → p x ≡ true → c ≡ true) → (list_any p ys ≡ true → c ≡ true) → list_any p (if b then x ∷ ys else ys) ≡ true → c ≡ true
  if-kept true x ys f k h = ⊎_elim (f refl) k (or_cases (p x) (list_any p ys) h)
  if-kept false x ys f k h = k h

  any-kept : (xs : List A) → list_any p (filter q xs) ≡ true → c ≡ true
  any-kept [] h = absurd (false≢true h)
  any-kept (x ∷ xs) h = if-kept (q x) x (filter q xs) (λ hq hp. each x hp hq) (any-kept xs) h

module _ {K : Type 0} {R : K → K → Ordering} (total : IsTotalOrder R) (exact : (x y : K) → R x y ≡ Equal → x ≡ y) where
  some-in : (qs : List (Quad K)) (h : K) → has R (names_of qs) h ≡ true → list_any (in_it R h) qs ≡ true
  some-in qs h e = sym (has-names_of R h qs) ∙ e

  named-whole : (d : Dataset K) → IsDataset R d → (h : K) → list_any (in_it R h) d.quads ≡ true → has R d.names h ≡ true
  named-whole d s h e = s.named h (has-names_of R h d.quads ∙ e)

  named-part : (d : Dataset K) → IsDataset R d → (p : Quad K → Bool) (h : K) → list_any (in_it R h) (filter p d.quads) ≡ true → has R d.names h ≡ true
  named-part d s p h e = named-whole d s h (any-filter (in_it R h) p d.quads e)

  -- ---- less quads, or less names

  cleared-dataset : (g : Option K) (d : Dataset K) → IsDataset R d → IsDataset R (cleared R g d)
  cleared-dataset g d s = record {
    quads = IsStrictlySortedBy-filter (quad_order R) (λ q. not (same_graph R q.graph g)) d.quads s.quads;
    names = s.names;
    named = λ h e. named-part d s (λ q. not (same_graph R q.graph g)) h (some-in (outside R g d.quads) h e);
  }

  sorted-without_name : (g : Option K) (ns : List K) → IsStrictlySortedBy R ns → IsStrictlySortedBy R (without_name R g ns)
  sorted-without_name None ns s = s
  sorted-without_name (Some g) ns s = IsStrictlySortedBy-filter R (λ x. not (has R (g ∷ []) x)) ns s

  -- the graph of a quad that is kept isn't the one that goes
  not-gone : (g h : K) (n : Option K) → is_of R h n ≡ true → not (same_graph R n (Some g)) ≡ true → not (has R (g ∷ []) h) ≡ true
  not-gone g h None e k = absurd (false≢true e)
  not-gone g h (Some n) e k = ap (λ m. not (eq_by_cmp R m g || false)) (exact_by total exact h n e) ∙ or-nothing (eq_by_cmp R n g) k

  has-without_name : (g : Option K) (ns : List K) (qs : List (Quad K)) (h : K) → has R ns h ≡ true → list_any (in_it R h) (outside R g qs) ≡ true
      → has R (without_name R g ns) h ≡ true
  has-without_name None ns qs h e k = e
  has-without_name (Some g) ns qs h e k =
      has-without total exact h ns (g ∷ [])
      ∙ and_from (has R ns h) (not (has R (g ∷ []) h)) e
      (any-kept (in_it R h) (λ q. not (same_graph R q.graph (Some g))) (not (has R (g ∷ []) h)) (λ q. not-gone g h q.graph) qs k)

  dropped-dataset : (g : Option K) (d : Dataset K) → IsDataset R d → IsDataset R (dropped R g d)
  dropped-dataset g d s = record {
    quads = IsStrictlySortedBy-filter (quad_order R) (λ q. not (same_graph R q.graph g)) d.quads s.quads;
    names = sorted-without_name g d.names s.names;
    named = λ h e.
        let k = some-in (outside R g d.quads) h e in
        has-without_name g d.names d.quads h (named-part d s (λ q. not (same_graph R q.graph g)) h k) k;
  }

  -- a quad of the default graph has no graph name
  in-default : (h : K) (c : Bool) (n : Option K) → is_of R h n ≡ true → same_graph R n None ≡ true → c ≡ true
  in-default h c None e k = absurd (false≢true e)
  in-default h c (Some n) e k = absurd (false≢true k)

  default-dataset : (d : Dataset K) (names : List K) → IsDataset R d → IsStrictlySortedBy R names → IsDataset R (record { quads = quads_in R None d.quads; names = names })
  default-dataset d names s n = record {
    quads = IsStrictlySortedBy-filter (quad_order R) (λ q. same_graph R q.graph None) d.quads s.quads;
    names = n;
    named = λ h e.
        any-kept (in_it R h) (λ q. same_graph R q.graph None) (has R names h) (λ q. in-default h (has R names h) q.graph) d.quads
        (some-in (quads_in R None d.quads) h e);
  }

  empty-dataset : (names : List K) → IsStrictlySortedBy R names → IsDataset R (record { quads = []; names = names })
  empty-dataset names n = record { quads = sorted-empty (quad_order R); names = n; named = λ h e. absurd (false≢true e) }

  -- ---- more names, or more quads

  sorted-with_name : (g : Option K) (ns : List K) → IsStrictlySortedBy R ns → IsStrictlySortedBy R (with_name R g ns)
  sorted-with_name None ns s = s
  sorted-with_name (Some g) ns s = sorted-with total g ns s

  has-with_name : (g : Option K) (ns : List K) (h : K) → has R ns h ≡ true → has R (with_name R g ns) h ≡ true
  has-with_name None ns h e = e
  has-with_name (Some g) ns h e = has-with total h g ns ∙ or_right (eq_by_cmp R h g) (has R ns h) e

  is-with_name : (g : Option K) (ns : List K) (h : K) → is_of R h g ≡ true → has R (with_name R g ns) h ≡ true
  is-with_name None ns h e = absurd (false≢true e)
  is-with_name (Some g) ns h e = has-with total h g ns ∙ or_left (eq_by_cmp R h g) (has R ns h) e

  created-dataset : (g : K) (d : Dataset K) → IsDataset R d → IsDataset R (record { quads = d.quads; names = with R g d.names })
  created-dataset g d s = record {
    quads = s.quads;
    names = sorted-with total g d.names s.names;
    named = λ h e. has-with_name (Some g) d.names h (s.named h e);
  }

  -- what is moved is of the graph that it is moved to
  moved-is : (to : Option K) (qs : List (Quad K)) (h : K) → list_any (in_it R h) (map (in_graph R to) qs) ≡ true → is_of R h to ≡ true
  moved-is to [] h e = absurd (false≢true e)
  moved-is to (q ∷ qs) h e = ⊎_elim (λ k. k) (moved-is to qs h) (or_cases (is_of R h to) (list_any (in_it R h) (map (in_graph R to) qs)) e)

  joined-dataset : (from to : Option K) (d : Dataset K) (kept : List (Quad K)) → IsDataset R d → ((h : K) → list_any (in_it R h) kept ≡ true → has R d.names h ≡ true)
      → IsDataset R (record { quads = union (quad_order R) kept (moved_to R from to d); names = with_name R to d.names })
  joined-dataset from to d kept s named = record {
    quads = sorted-set_of (quad_total total) (kept ++ moved_to R from to d);
    names = sorted-with_name to d.names s.names;
    named = λ h e.
        let p = in_it R h in
        let moved = moved_to R from to d in
        let some : list_any p (kept ++ moved) ≡ true = any-set_of (quad_order R) p (kept ++ moved) (some-in (union (quad_order R) kept moved) h e) in
        ⊎_elim (λ k. has-with_name to d.names h (named h k)) (λ k. is-with_name to d.names h (moved-is to (quads_in R from d.quads) h k)) (or_cases (list_any p kept) (list_any p moved) (sym (list_any-append p kept moved) ∙ some));
  }

  copied-dataset : (from to : Option K) (d : Dataset K) → IsDataset R d → IsDataset R (copied R from to d)
  copied-dataset from to d s = joined-dataset from to d (outside R to d.quads) s (named-part d s (λ q. not (same_graph R q.graph to)))

  transferred-dataset : (how : Transfer) (from to : Option K) (d : Dataset K) → IsDataset R d → IsDataset R (transferred R how from to d)
  transferred-dataset transfer.Add from to d s = joined-dataset from to d d.quads s (named-whole d s)
  transferred-dataset transfer.Copy from to d s = copied-dataset from to d s
  transferred-dataset transfer.Move from to d s = dropped-dataset from (copied R from to d) (copied-dataset from to d s)

  -- ---- operations

  there-dataset : (b : Bool) (e : Dataset K) → IsDataset R e → LeavesDataset R {E = Cause} (if b then Ok e else Err GraphMissing)
  there-dataset true e s = s
  there-dataset false e s = tt

  exists-dataset : (b : Bool) (e : Dataset K) → IsDataset R e → LeavesDataset R {E = Cause} (if b then Err GraphExists else Ok e)
  exists-dataset true e s = tt
  exists-dataset false e s = s

  same-dataset : (b : Bool) (d : Dataset K) (e : Result (Dataset K) Cause) → IsDataset R d → LeavesDataset R e → LeavesDataset R (if b then Ok d else e)
  same-dataset true d e s h = s
  same-dataset false d e s h = h

  pub graphs-dataset : (op : GraphOperation K) (d : Dataset K) → IsDataset R d → LeavesDataset R (graphs_after R op d)
  graphs-dataset (graphs.Create g) d s = exists-dataset (has R d.names g) (record { quads = d.quads; names = with R g d.names }) (created-dataset g d s)
  graphs-dataset (graphs.Drop (target.Graph g)) d s = there-dataset (is_there R d (Some g)) (dropped R (Some g) d) (dropped-dataset (Some g) d s)
  graphs-dataset (graphs.Drop target.Default) d s = cleared-dataset None d s
  graphs-dataset (graphs.Drop target.Named) d s = default-dataset d [] s (sorted-empty R)
  graphs-dataset (graphs.Drop target.All) d s = empty-dataset [] (sorted-empty R)
  graphs-dataset (graphs.Clear (target.Graph g)) d s = there-dataset (is_there R d (Some g)) (cleared R (Some g) d) (cleared-dataset (Some g) d s)
  graphs-dataset (graphs.Clear target.Default) d s = cleared-dataset None d s
  graphs-dataset (graphs.Clear target.Named) d s = default-dataset d d.names s s.names
  graphs-dataset (graphs.Clear target.All) d s = empty-dataset d.names s.names
  graphs-dataset (graphs.Transfer how from to) d s =
      same-dataset (same_graph R from to) d (if is_there R d from then Ok (transferred R how from to d) else Err GraphMissing) s
      (there-dataset (is_there R d from) (transferred R how from to d) (transferred-dataset how from to d s))
