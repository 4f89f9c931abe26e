use Rattle.std.proofs.Common.{Some, refl, sym, ap, ◌∙◌}
use Rattle.nquads.proofs.FedLaws.{taken_answer, taken_fed, refused_answer, refused_fed, again_answer, again_fed}
use Rattle.nquads.proofs.feed.Feed.feed.Goals as goal

pub returns-in-Some-clause-answer : goal.returns-in-Some-clause-answer
returns-in-Some-clause-answer c = λ limit before is. again_answer _ limit before c.args.piece.now c.args.self.now c.again.result (c.in-Some.is ∙ ap (λ f. Some f) (sym c.again.ensures)) is

pub returns-in-Some-clause-fed : goal.returns-in-Some-clause-fed
returns-in-Some-clause-fed c = λ limit before is. again_fed (Unit {0}) limit before c.args.piece.now c.args.self.now c.again.result (c.in-Some.is ∙ ap (λ f. Some f) (sym c.again.ensures)) is

pub returns-in-Ok-clause-answer : goal.returns-in-Ok-clause-answer
returns-in-Ok-clause-answer c = λ limit before is. taken_answer _ limit before c.args.piece.now c.args.self.now c.take_within.new.kept c.in_default.is c.in-Ok.ensures.ok c.take_within.ensures.within is

pub returns-in-Ok-clause-fed : goal.returns-in-Ok-clause-fed
returns-in-Ok-clause-fed c = λ limit before is. taken_fed {A = Unit {0}} tt limit before c.args.piece.now c.args.self.now _ c.in_default.is refl refl c.in-Ok.ensures.ok is

pub returns-in-Err-clause-answer : goal.returns-in-Err-clause-answer
returns-in-Err-clause-answer c = λ limit before is. refused_answer _ limit before c.args.piece.now c.args.self.now c.in-Err.fault c.in_default.is c.in-Err.ensures.err is

pub returns-in-Err-clause-fed : goal.returns-in-Err-clause-fed
returns-in-Err-clause-fed c = λ limit before is.
    refused_fed (Unit {0}) limit before c.args.piece.now c.args.self.now _ c.in-Err.fault c.in_default.is refl c.lasting-self.ensures c.in-Err.ensures.same c.in-Err.ensures.err is
