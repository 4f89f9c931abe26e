use Rattle.pool.proofs.Passes.{still_adds}
use Rattle.pool.proofs.Seen.{adds_seen, same_seen}
use Rattle.pool.proofs.worker.Workers.settle.Goals as goal

pub show_settled-requires : goal.show_settled-requires
show_settled-requires g c =
    same_seen _ _ _ _ c.from.ensures.0 (adds_seen _ _ _ _ _ c.settle-settled.result c.new-replies.ensures.items c.settle-settled.ensures)

pub returns-in_err-settled : goal.returns-in_err-settled
returns-in_err-settled g c = still_adds _ _ _ _ _ _ _ c.requires c.settle-settled.ensures

pub returns : goal.returns
returns g c = still_adds _ _ _ _ _ _ _ c.requires c.settle-settled.ensures
