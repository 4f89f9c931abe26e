use Rattle.std.proofs.Common.{◌≡◌, ◌++◌, ◌+◌, [], Bool, List, drop, sym, ap, ◌∙◌, subst, arith}
use Rattle.std.proofs.lemmas.List.{drop_all, append-nil}
use Rattle.std.specs.Prelude.{filter}
use Rattle.sets.specs.Sets.{has}
use Rattle.datasets.specs.declared.id.Id.{Id}
use Rattle.datasets.specs.Id.{id_order}
use Rattle.reads.specs.Same.{bool_eq}
use Rattle.update.specs.Known.{questions_for_untold, Tell}
use Rattle.update.proofs.KnownQuads.{no_names}
use Rattle.update.proofs.Members.{next_of, filtered_more}
use Rattle.update.proofs.lot.push_those_names.Goals as goal

pub loop-name-preserved : goal.loop-name-preserved
loop-name-preserved c d later t =
    let before = c.loop-name.invariant d later t in
    let rest : List Id = drop (c.loop-name.name-index + 1) c.args.names.now in
    let first = c.named_first-is_there.ensures d rest later (subst (λ gs. Tell c.args.known.now (questions_for_untold c.args.known.now gs ++ later) c.loop-name.left.now d) (next_of c.args.names.now c.loop-name.name-index _ c.loop-name-test.true) before.0) in
    (first.1, filtered_more (λ g. bool_eq c.args.are_there (has id_order d.names g)) _ _ _ _ _ _ _ c.loop-name-test.true (c.same_bool.ensures ∙ ap (bool_eq c.args.are_there) first.0) c.in_ok-push_if.ensures before.1)

pub returns : goal.returns
returns c d later t =
    let after = c.loop-name.invariant d later t in
    let none : drop c.loop-name.name-index c.args.names.now ≡ [] = drop_all c.loop-name.name-index c.args.names.now (omega (arith, c.loop-name-test.false)) in
    let so : Id → Bool = λ g. bool_eq c.args.are_there (has id_order d.names g) in
    (sym (append-nil c.loop-name.found.items) ∙ ap (λ gs. c.loop-name.found.items ++ filter so gs) (sym none) ∙ after.1, subst (λ rs. Tell c.args.known.now rs c.loop-name.left.now d) (ap (λ gs. questions_for_untold c.args.known.now gs ++ later) none ∙ no_names c.args.known.now later) after.0)
