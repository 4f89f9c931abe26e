use Rattle.pool.proofs.Seen.{first_seen, others_seen}
use Rattle.pool.proofs.worker.Workers.show_settled.Goals as goal

pub show_next-requires : goal.show_next-requires
show_next-requires g c = first_seen _ _ _ _ c.requires

pub show_checks-requires : goal.show_checks-requires
show_checks-requires g c = others_seen _ _ _ _ _ c.requires c.show_next.ensures
