use Rattle.std.proofs.Common.{Some}
use Rattle.std.proofs.lemmas.Result.{err_from_is_err_and}
use Rattle.incarnations.specs.declared.state.Event.TheVariants.{Publish}
use Rattle.shared.proofs.Made.{tried_not}
use Rattle.shared.proofs.shared_block.SharedBlock.try_publish.Goals as goal

pub returns-in_err-copy : goal.returns-in_err-copy
returns-in_err-copy c =
    let told = err_from_is_err_and c.from_residual.result c.from_residual.ensures.1 in
    tried_not c.args.pass.now (Publish c.args.i c.args.n (Some c.args.finished.now)) c.from_residual.result told.0 told.1
