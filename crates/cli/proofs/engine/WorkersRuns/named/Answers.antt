use Rattle.std.proofs.Common.{ap, ◌∙◌}
use Rattle.std.proofs.lemmas.Result.{IfOk-weaker}
use Rattle.dict.specs.Dictionary.{term_of}
use Rattle.meaning_laws.specs.Renaming.{renamed}
use Rattle.std.proofs.Crossing.{crosses}
use Rattle.datasets.specs.contracts.id.Id as Id
use Rattle.datasets.proofs.id.Id.TheSendSync as id
use Rattle.rules.proofs.Sent.{request}
use denote.Param.Send.{sendable}
use Rattle.cli.proofs.engine.WorkersRuns.named.Goals as goal

pub join-answer-requires-send-F : goal.join-answer-requires-send-F
join-answer-requires-send-F g c κs within = let r = request Id.the_row id.the_send in search (sendable, crosses) depth 30

pub join-answer-requires-after_bounds : goal.join-answer-requires-after_bounds
join-answer-requires-after_bounds g c κs within = rw c.apart-terms.ensures.terms (tt, (c.requires.known, c.requires.dataset))

pub returns : goal.returns
returns g c =
    IfOk-weaker c.join-answer.result.1 _ _
    (λ answer e. e ∙ ap (λ dict. renamed (term_of dict) c.args.dataset) c.apart-terms.ensures.terms) c.join-answer.ensures.second
