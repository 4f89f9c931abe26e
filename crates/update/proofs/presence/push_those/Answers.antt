use Rattle.std.proofs.Common.{◌≡◌, ◌++◌, ◌+◌, [], Bool, List, drop, sym, ap, ◌∙◌, subst, arith}
use Rattle.std.proofs.lemmas.List.{drop_all, append-nil}
use Rattle.std.specs.Prelude.{filter}
use Rattle.sets.specs.Sets.{has}
use Rattle.datasets.specs.declared.id.Id.{Id}
use Rattle.datasets.specs.declared.quad.Quad.{Quad}
use Rattle.datasets.specs.Dataset.{quad_order}
use Rattle.datasets.specs.Id.{id_order}
use Rattle.reads.specs.Same.{bool_eq}
use Rattle.update.specs.Known.{scans_for_untold, Tell}
use Rattle.update.proofs.Members.{next_of, filtered_more}
use Rattle.update.proofs.presence.push_those.Goals as goal

pub loop-quad-preserved : goal.loop-quad-preserved
loop-quad-preserved c d later t =
    let before = c.loop-quad.invariant d later t in
    let rest : List (Quad Id) = drop (c.loop-quad.quad-index + 1) c.args.quads.now in
    let first = c.told_first-is_there.ensures d rest later (subst (λ qs. Tell c.args.known.now (scans_for_untold c.args.known.now qs ++ later) c.loop-quad.left.now d) (next_of c.args.quads.now c.loop-quad.quad-index _ c.loop-quad-test.true) before.0) in
    (first.1, filtered_more (λ q. bool_eq c.args.are_there (has (quad_order id_order) d.quads q)) _ _ _ _ _ _ _ c.loop-quad-test.true (c.same_bool.ensures ∙ ap (bool_eq c.args.are_there) first.0) c.in_ok-push_if.ensures before.1)

pub returns : goal.returns
returns c d later t =
    let after = c.loop-quad.invariant d later t in
    let none : drop c.loop-quad.quad-index c.args.quads.now ≡ [] = drop_all c.loop-quad.quad-index c.args.quads.now (omega (arith, c.loop-quad-test.false)) in
    let so : Quad Id → Bool = λ q. bool_eq c.args.are_there (has (quad_order id_order) d.quads q) in
    (sym (append-nil c.loop-quad.found.items) ∙ ap (λ qs. c.loop-quad.found.items ++ filter so qs) (sym none) ∙ after.1, subst (λ qs. Tell c.args.known.now (scans_for_untold c.args.known.now qs ++ later) c.loop-quad.left.now d) none after.0)
