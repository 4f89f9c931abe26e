use Rattle.std.proofs.Common.{◌≡◌, ◌+◌, ◌∷◌, length, true, false, is_eq, sym, ap, ◌∙◌, arith}
use Rattle.std.specs.Cmp.{Equal-is}
use Rattle.quad_sets.proofs.RunLaws.{parted_at, parted_between, first_same}
use Rattle.quad_sets.proofs.runs.parted.Goals as goal
use Rattle.quad_sets.proofs.runs.parted.Goals.{in_default-via-in-Some+else-is_eq, in_default-via-in_default}

pub returns-in-Some : goal.returns-in-Some
returns-in-Some g c =
    parted_at g.met.T.Ord.total c.args.set.now c.args.value.now c.in-Some.first.now c.count_below.result c.split_at.result.0.now c.split_at.result.1.now c.in-Some.above.now c.count_below.ensures c.split_at.ensures.front c.split_at.ensures.back
    c.in-Some.ensures.cases.0 c.requires (sym c.cmp.ensures ∙ (Equal-is c.cmp.result).0 (sym c.if-is_eq.ensures))

pub returns-in_default : goal.returns-in_default
returns-in_default g c =
    parted_between g.met.T.Ord.total c.args.set.now c.args.value.now c.count_below.result c.split_at.result.0.now c.split_at.result.1.now c.count_below.ensures c.split_at.ensures.front c.split_at.ensures.back c.requires
    (λ x xs e same. elim c.in_default.branch [
      | in_default-via-in-Some+else-is_eq w ↦ absurd (let told : false ≡ true = w.if-is_eq.ensures ∙ ap is_eq (w.cmp.ensures ∙ ap (λ y. g.T.Ord.cmp y c.args.value.now) (first_same w.in-Some.first.now x w.in-Some.above.now xs (sym w.in-Some.ensures.cases.0 ∙ e)) ∙ same) in cc)
      | in_default-via-in_default w ↦ absurd (let none : length (x ∷ xs) ≡ 0 = ap length (sym e) ∙ w.in_default.ensures.cases in let more : length (x ∷ xs) ≡ length xs + 1 = omega arith in omega arith)
    ])
