-- Answers keep datasets, and a run goes on by one.
use Rattle.std.proofs.Common.{◌≡◌, ℕ, zero, suc, ◌+◌, Bool, true, false, ◌||◌, List, [], ◌∷◌, ◌++◌, length, take, Option, Some, None, Result, Ok, Err, refl, sym, ap, ◌∙◌, arith, slice_get, add-zero}
use Rattle.std.specs.Prelude.{not, if◌then◌else◌}
use Rattle.std.specs.List.{list_any}
use Rattle.std.proofs.lemmas.List.Folds.{list_any-append}
use Rattle.std.proofs.lemmas.Option.{same_Some}
use Rattle.sets.specs.Sets.{has, union, without}
use Rattle.sets.proofs.SetLaws.{has-union, sorted-set_of}
use Rattle.datasets.specs.declared.quad.Quad.{Quad}
use Rattle.datasets.specs.Dataset.{Dataset, IsDataset, quad_order, names_of}
use Rattle.datasets.specs.Id.{quad_total}
use Rattle.meaning.specs.Vocabulary.{Vocabulary}
use Rattle.meaning.specs.Effect.{is_too_many, replaced, effect_of}
use Rattle.meaning.specs.GraphOperations.{graphs_after, silently}
use Rattle.meaning.specs.Template.{instances}
use Rattle.meaning.specs.Solutions.{solutions}
use Rattle.meaning.specs.Run.{Request, Failure, then_next, performed, settled, answer_of, run_from, run_of_first}
use Rattle.algebra.specs.declared.update.Operation.{Operation}
use Rattle.algebra.specs.declared.update.Operation.TheVariants as operation
use Rattle.meaning.specs.declared.reply.Cause.{Cause}
use Rattle.meaning.specs.declared.reply.Cause.TheVariants.{TooManySolutions}
use Rattle.meaning_laws.specs.Answers.{IsExactOrder, with_next, AnswersWithDatasets, GoesOnByOne}
use Rattle.meaning_laws.proofs.Parts.{any-filter, any-set_of, in_it, has-names_of, either, LeavesDataset}
use Rattle.meaning_laws.proofs.GraphDatasets.{graphs-dataset}

-- ---- datasets

module _ {K : Type 0} (V : Vocabulary K) (o : IsExactOrder V) where
  replaced-dataset : (d : Dataset K) (deleted inserted : List (Quad K)) → IsDataset V.order d → IsDataset V.order (replaced V d deleted inserted)
  replaced-dataset d deleted inserted h = record {
    quads = sorted-set_of (quad_total o.total) (without (quad_order V.order) d.quads deleted ++ inserted);
    names = sorted-set_of o.total (d.names ++ names_of inserted);
    named = λ g e.
        let p = in_it V.order g in
        let kept = without (quad_order V.order) d.quads deleted in
        let some : list_any p (kept ++ inserted) ≡ true = any-set_of (quad_order V.order) p (kept ++ inserted) (sym (has-names_of V.order g (union (quad_order V.order) kept inserted)) ∙ e) in
        let cases : (list_any p kept || list_any p inserted) ≡ true = sym (list_any-append p kept inserted) ∙ some in
        has-union o.total g d.names (names_of inserted)
        ∙ either (list_any p kept) (list_any p inserted) (has V.order d.names g) (has V.order (names_of inserted) g) cases
        (λ k. h.named g (has-names_of V.order g d.quads ∙ any-filter p (λ x. not (has (quad_order V.order) deleted x)) d.quads k))
        (λ k. has-names_of V.order g inserted ∙ k);
  }

  unless-dataset : (b : Bool) (d : Dataset K) → IsDataset V.order d → LeavesDataset V.order {E = Cause} (if b then Err TooManySolutions else Ok d)
  unless-dataset true d h = tt
  unless-dataset false d h = h

  graphs-effect : (silent : Bool) (d : Dataset K) (e : Result (Dataset K) Cause) → IsDataset V.order d → LeavesDataset V.order e → LeavesDataset V.order (silently V.order silent d e)
  graphs-effect silent d (Ok e) h h' = h'
  graphs-effect true d (Err cause) h h' = h
  graphs-effect false d (Err cause) h h' = tt

  effect-dataset : (i n : ℕ) (op : Operation K) (d : Dataset K) → IsDataset V.order d → LeavesDataset V.order (effect_of V i n op d)
  effect-dataset i n (operation.Modify m) d h =
      let found = solutions V.order V.passes m.width m.pattern d m.active in
      unless-dataset (is_too_many (length found)) (replaced V d (instances V i n m.delete found) (instances V i n m.insert found))
      (replaced-dataset d (instances V i n m.delete found) (instances V i n m.insert found) h)
  effect-dataset i n (operation.Graphs silent op) d h =
      let e = graphs_after V.order op d in
      graphs-effect silent d e h (graphs-dataset o.total o.exact op d h)

  next-dataset : (n : ℕ) (e : Result (Dataset K) Cause) (go : Dataset K → Result (Dataset K) Failure) → LeavesDataset V.order e
      → ((d : Dataset K) → IsDataset V.order d → LeavesDataset V.order (go d)) → LeavesDataset V.order (then_next V n e go)
  next-dataset n (Ok d) go h each = each d h
  next-dataset n (Err cause) go h each = tt

  performed-dataset : (i n : ℕ) (ops : List (Operation K)) (d : Dataset K) → IsDataset V.order d → LeavesDataset V.order (performed V i n ops d)
  performed-dataset i n [] d h = h
  performed-dataset i n (op ∷ ops) d h =
      next-dataset n (effect_of V i n op d) (performed V i (n + 1) ops) (effect-dataset i n op d h) (λ e k. performed-dataset i (n + 1) ops e k)

  settled-dataset : (d : Dataset K) (e : Result (Dataset K) Failure) → IsDataset V.order d → LeavesDataset V.order e → IsDataset V.order (settled V d e).0
  settled-dataset d (Ok e) h k = k
  settled-dataset d (Err failure) h k = h

  answer-dataset : (i : ℕ) (request : Request K) (d : Dataset K) → IsDataset V.order d → IsDataset V.order (answer_of V i request d).0
  answer-dataset i (Ok ops) d h = settled-dataset d (performed V i 0 ops d) h (performed-dataset i 0 ops d h)
  answer-dataset i (Err refusal) d h = h

pub answers_with_datasets : {K : Type 0} → AnswersWithDatasets K
answers_with_datasets V i request d o h = answer-dataset V o i request d h

-- ---- a run goes on

module _ {K : Type 0} (V : Vocabulary K) where
  -- the first request is taken off the front
  goes_on_from : (i n : ℕ) (requests : List (Request K)) (request : Request K) (d : Dataset K) → slice_get requests n ≡ Some request
      → run_from V i (take (suc n) requests) d
      ≡ with_next (run_from V i (take n requests) d) (answer_of V (i + n) request (run_from V i (take n requests) d).0)
  goes_on_from i n [] request d e = absurd (let none : None ≡ Some request = e in (cc))
  goes_on_from i zero (r ∷ rs) request d e =
      let same : r ≡ request = same_Some r request e in
      (λ t. let a = answer_of V (sym (add-zero i) t) (same t) d in (a.0, a.1 ∷ []))
  goes_on_from i (suc n) (r ∷ rs) request d e =
      let first = answer_of V i r d in
      let rest = goes_on_from (i + 1) n rs request first.0 e in
      let place : (i + 1) + n ≡ i + suc n = omega arith in
      (λ t. ((rest t).0, first.1 ∷ (rest t).1))
      ∙ (λ t. with_next (run_from V i (take (suc n) (r ∷ rs)) d) (answer_of V (place t) request (run_from V i (take (suc n) (r ∷ rs)) d).0))

pub goes_on_by_one : {K : Type 0} → GoesOnByOne K
goes_on_by_one V n requests request d e =
    goes_on_from V 0 n requests request d e
    ∙ (λ t. with_next (run_of_first V n requests d) (answer_of V (zero_first n t) request (run_of_first V n requests d).0))
  where
    zero_first : (n : ℕ) → 0 + n ≡ n
    zero_first n = omega arith
