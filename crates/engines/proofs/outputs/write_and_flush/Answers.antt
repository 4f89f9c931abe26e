use Rattle.engines.proofs.Bytes.{whole_is_part, on_err}
use Rattle.engines.proofs.outputs.write_and_flush.Goals as goal

pub returns-in-Ok-clause-part : goal.returns-in-Ok-clause-part
returns-in-Ok-clause-part g c = on_err c.flush.result (whole_is_part _ _ _ c.args.text.now c.in-Ok.ensures.ok c.flush.ensures.bytes)
