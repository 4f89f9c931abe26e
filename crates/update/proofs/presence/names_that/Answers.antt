use Rattle.std.proofs.Common.{true, ap, ◌∙◌}
use Rattle.sets.specs.Sets.{has}
use Rattle.datasets.specs.Id.{id_order}
use Rattle.reads.specs.Same.{bool_eq}
use Rattle.update.specs.Known.{questions_for_untold}
use Rattle.update.proofs.Members.{filtered_more}
use Rattle.update.proofs.ToldReads.{one_question, any_allowed}
use Rattle.asking.proofs.Notes.{goes_on, goes_short, goes_as, agreed}
use Rattle.update.proofs.presence.names_that.Goals as goal

pub returns-in_err-is_there-clause-goes : goal.returns-in_err-is_there-clause-goes
returns-in_err-is_there-clause-goes g c allowed h =
    goes_as _ c.from_residual.ensures.1 (goes_on (c.loop-name.invariant.goes allowed h) (c.in_err-is_there.ensures.goes allowed (one_question allowed c.args.known.now c.args.names.now _ _ c.loop-name-test.true h)))

pub returns-in_err-push_if-clause-goes : goal.returns-in_err-push_if-clause-goes
returns-in_err-push_if-clause-goes g c allowed h =
    goes_short _ c.from_residual-in_err-push_if.ensures.1 (goes_on (c.loop-name.invariant.goes allowed h) (c.in_ok-is_there.ensures.goes allowed (one_question allowed c.args.known.now c.args.names.now _ _ c.loop-name-test.true h)))

pub loop-name-preserved : goal.loop-name-preserved
loop-name-preserved g c = record {
  goes = λ allowed h.
      goes_on (c.loop-name.invariant.goes allowed h) (c.in_ok-is_there.ensures.goes allowed (one_question allowed c.args.known.now c.args.names.now _ _ c.loop-name-test.true h));
  told = λ d a.
      let before = agreed (c.in_ok-is_there.ensures.goes (λ r. true) (one_question (λ r. true) c.args.known.now c.args.names.now _ _ c.loop-name-test.true (any_allowed (questions_for_untold c.args.known.now c.args.names.now)))) d a in
      let start = agreed (c.loop-name.invariant.goes (λ r. true) (any_allowed (questions_for_untold c.args.known.now c.args.names.now))) d before in
      filtered_more (λ q. bool_eq c.args.are_there (has id_order d.names q)) _ _ _ _ _ _ _ c.loop-name-test.true (c.same_bool.ensures ∙ ap (bool_eq c.args.are_there) (c.in_ok-is_there.ensures.told d (c.requires d start) a)) c.in_ok-push_if.ensures
      (c.loop-name.invariant.told d before);
}
