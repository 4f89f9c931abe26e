use Rattle.nquads.proofs.PortionLaws.{further_begun}
use Rattle.nquads.proofs.portions.begun_further.Goals as goal

pub returns-in-Ok-clause-ok : goal.returns-in-Ok-clause-ok
returns-in-Ok-clause-ok g c = λ before is.
    further_begun before (g.R.Read.remaining c.args.reader.now.inner) (g.R.Read.remaining c.fill.new.reader.inner) _ c.args.read c.fill.new.bytes c.in-Ok.is_all is c.in-Ok.ensures.filled
