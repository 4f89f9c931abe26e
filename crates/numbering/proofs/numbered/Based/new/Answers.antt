use Rattle.store.specs.Held.{is_held}
use Rattle.numbering.proofs.Holding.{block_held}
use Rattle.numbering.proofs.numbered.Based.new.Goals as goal

pub returns-clause-held : goal.returns-clause-held
returns-clause-held g c =
    let held = is_held c.in_ok-base.base.terms in
    block_held held c.args.block.now (c.in_ok-terms.ensures held c.in_ok-base.ensures.held)
