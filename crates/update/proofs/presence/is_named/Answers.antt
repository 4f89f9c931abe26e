use Rattle.std.specs.Prelude.{map, if◌then◌else◌}
use Rattle.std.proofs.Common.{◌≡◌, Bool, true, false, [], ◌∷◌, sym, ap, subst, ◌∙◌}
use Rattle.datasets.specs.declared.id.Id.{Id}
use Rattle.datasets.specs.declared.read.Read.TheVariants.{GraphIs}
use Rattle.reads.specs.Reads.{Read, says}
use Rattle.asking.specs.Goes.{AreAllowed}
use Rattle.asking.proofs.Notes.{told_last, goes_as}
use Rattle.update.specs.Asked.{has_name}
use Rattle.update.specs.Known.{WhatIsKnown, questions_for_untold}
use Rattle.update.proofs.presence.is_named.Goals as goal

-- the question for a name is allowed, where the names of all graphs are not known
asked_allowed : (allowed : Read → Bool) (k : WhatIsKnown) (g : Id) → k.has_graphs ≡ false → AreAllowed allowed (questions_for_untold k (g ∷ [])) → allowed (GraphIs g) ≡ true
asked_allowed allowed k g none h = (subst (λ (b : Bool). AreAllowed allowed (if b then [] else map (λ x. GraphIs x) (g ∷ []))) none h).0

pub returns-then-has_graphs-clause-told : goal.returns-then-has_graphs-clause-told
returns-then-has_graphs-clause-told g c d known a = c.is_graph.ensures ∙ known.graphs (sym c.has_graphs.ensures ∙ c.if-has_graphs.true) c.args.name

pub returns-clause-told : goal.returns-clause-told
unfolding says
returns-clause-told g c d known a = c.has_name.ensures ∙ ap has_name (told_last c.args.notes.now.items c.ask.new.notes.items _ d c.in_ok-answer.ensures.noted a)

pub returns-in_err-answer-clause-goes : goal.returns-in_err-answer-clause-goes
returns-in_err-answer-clause-goes g c allowed h =
    goes_as _ c.from_residual.ensures.1 (c.in_err-answer.ensures.goes allowed (asked_allowed allowed c.args.known.now c.args.name (sym c.has_graphs.ensures ∙ c.if-has_graphs.false) h))

pub returns-clause-goes : goal.returns-clause-goes
returns-clause-goes g c allowed h = c.in_ok-answer.ensures.goes allowed (asked_allowed allowed c.args.known.now c.args.name (sym c.has_graphs.ensures ∙ c.if-has_graphs.false) h)
