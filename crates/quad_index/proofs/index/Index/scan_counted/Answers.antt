use Rattle.std.proofs.Common.{ap, sym, ◌∙◌, length}
use Rattle.std.specs.Prelude.{filter}
use Rattle.std.proofs.lemmas.Result.{IfOk-weaker}
use Rattle.std.proofs.lemmas.List.Sorted.{list_any-IsPermutation, length_permutation}
use Rattle.datasets.specs.Id.{id_order}
use Rattle.datasets.specs.Dataset.{matches}
use Rattle.quad_index.proofs.Alike.{sorted_back, same_count, scan_of}
use Rattle.quad_index.proofs.index.Index.scan_counted.Goals as goal

pub returns-in-Some-clause-found : goal.returns-in-Some-clause-found
returns-in-Some-clause-found c =
    IfOk-weaker c.matching_set.result _ _
    (λ found e. e ∙ sorted_back (matches id_order c.args.pattern.now) c.args.self.now.quads _ c.other.ensures.set (λ t. sym (list_any-IsPermutation t _ _ c.in-Some.ensures.alike)))
    c.matching_set.ensures.found

pub returns-in-Some-clause-looks : goal.returns-in-Some-clause-looks
returns-in-Some-clause-looks c =
    let fits = matches id_order c.args.pattern.now in
    let quads = c.args.self.now.quads in
    let others = c.in-Some.order.now.quads in
    let alike = c.in-Some.ensures.alike in
    IfOk-weaker c.matching_set.result _ _
    (λ found e kept. scan_of c.args.looks.now c.matching_set.new.looks quads others found (filter fits others) (length_permutation quads others alike)
    (same_count fits quads others alike ∙ sym (ap length e))
    (c.matching_set.ensures.looks (c.in-Some.ensures.arrangement ∙ c.order_for.ensures)))
    (returns-in-Some-clause-found c)
