use Rattle.std.proofs.Common.{List, ap, ◌∙◌}
use Rattle.std.proofs.lemmas.Result.{IfOk-weaker}
use Rattle.datasets.specs.declared.id.Id.{Id}
use Rattle.dict.specs.Dictionary.{numbers}
use Rattle.meaning.specs.Run.{Request, run}
use Rattle.engines.proofs.Composed.{whole_run}
use Rattle.engines.proofs.in_order.OneByOneRuns.outcome.Goals as goal

pub returns : goal.returns
returns c =
    let base = c.args.numbered.now.base in
    IfOk-weaker c.run.result _ _
    (λ o e. whole_run base.terms base.dataset c.args.numbered.now.block.items o.dataset o.replies (e ∙ ap (λ (block : List (Request Id)). run (numbers base.terms) block base.dataset) c.as_slice.ensures.value)) c.run.ensures.run
