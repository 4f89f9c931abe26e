use Rattle.store.proofs.KnownNumbers.{known_are}
use Rattle.store.proofs.numbers.known_numbers_by.Goals as goal

pub returns : goal.returns
returns g c = known_are c.args.ids.now c.requires.numbers c.args.quads.now c.known_put_by.result.items c.known_put_by.ensures.long c.known_put_by.ensures.each
