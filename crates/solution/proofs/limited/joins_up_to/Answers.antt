use Rattle.std.specs.Prelude.{map, filter, filter_map}
use Rattle.std.specs.List.{flat_map}
use Rattle.std.proofs.Common.{◌≡◌, ◌++◌, ◌+◌, ◌<◌, ◌≤◌, List, length, drop, ap, ◌∙◌, subst, arith}
use Rattle.algebra.specs.Expressions.{expression_of}
use Rattle.datasets.specs.declared.id.Id.{Id}
use Rattle.datasets.specs.Id.{id_order}
use Rattle.meaning.specs.Mapping.{Mapping, mapping_cmp, joined}
use Rattle.meaning.specs.Solutions.{passes_all}
use Rattle.sets.specs.Sets.{set_of}
use Rattle.solution.specs.Lookups.{near}
use Rattle.solution.proofs.Sizes.{above, before_fewer, one_more, set_early}
use Rattle.solution.proofs.limited.joins_up_to.Goals.{then-saturating_sub-limit+else-known-limit, else-saturating_sub-limit}
use Rattle.solution.proofs.limited.joins_up_to.Goals as goal

pub returns-then-known-limit : goal.returns-then-known-limit
returns-then-known-limit g c =
    let set : List (Mapping Id) → List (Mapping Id) = set_of (mapping_cmp id_order) in
    let f : Mapping Id → List (Mapping Id) = λ a.
    filter (passes_all (g.F.Filters.passes c.args.by.now) (map expression_of c.args.filters.now)) (filter_map (joined id_order a) (near c.args.right.now.variables.items c.args.right.now.mappings.items c.args.right.now.loose.items a)) in
    let left = c.args.left.now in
    let rest = flat_map f (drop (c.loop-a.a-index + 1) left) in
    let pushed = c.push_passing.new.found.items in
    let all : set (pushed ++ rest) ≡ set (flat_map f left) =
    ap set (one_more f left c.loop-a.a-index (c.loop-a.a-index + 1) c.a-item.result c.loop-a.found.items pushed (omega arith) c.loop-a-test.true c.a-item.is c.in_ok-push_passing.ensures) ∙ c.loop-a.invariant in
    let some : length (set pushed) ≤ length (set (pushed ++ rest)) = before_fewer pushed rest in
    let many : c.args.limit < length (set pushed) = subst (λ (xs : List (Mapping Id)). c.args.limit < length xs) c.set_of-found.ensures (omega (arith, c.len-known.ensures, c.if-known-limit.true)) in
    above c.args.limit (set (flat_map f left)) (subst (λ (xs : List (Mapping Id)). c.args.limit < length xs) all (omega arith))

pub loop-a-preserved : goal.loop-a-preserved
loop-a-preserved g c =
    let set : List (Mapping Id) → List (Mapping Id) = set_of (mapping_cmp id_order) in
    let f : Mapping Id → List (Mapping Id) = λ a.
    filter (passes_all (g.F.Filters.passes c.args.by.now) (map expression_of c.args.filters.now)) (filter_map (joined id_order a) (near c.args.right.now.variables.items c.args.right.now.mappings.items c.args.right.now.loose.items a)) in
    let left = c.args.left.now in
    let rest = flat_map f (drop (c.loop-a.a-index + 1) left) in
    let pushed = c.push_passing.new.found.items in
    let all : set (pushed ++ rest) ≡ set (flat_map f left) =
    ap set (one_more f left c.loop-a.a-index (c.loop-a.a-index + 1) c.a-item.result c.loop-a.found.items pushed (omega arith) c.loop-a-test.true c.a-item.is c.in_ok-push_passing.ensures) ∙ c.loop-a.invariant in
    elim c.if-saturating_sub-limit.branch [
      | then-saturating_sub-limit+else-known-limit w ↦ (λ i. set ((w.found-is i).items ++ rest)) ∙ ap (λ xs. set (xs ++ rest)) w.set_of-found.ensures ∙ set_early pushed rest ∙ all
      | else-saturating_sub-limit w ↦ (λ i. set ((w.found-is i).items ++ rest)) ∙ all
    ]
