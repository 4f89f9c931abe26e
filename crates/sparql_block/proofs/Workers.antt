-- A command line's job has from 1 to 64 workers, where it has any.
use Rattle.std.proofs.Common.{Ok}
use Rattle.command_line.specs.declared.job.Job.{Job}
use Rattle.command_line.specs.declared.job.Job.TheVariants.{Run, Serial, Replay, Check}
use Rattle.command_line.specs.CommandLine.{IsAnswer, HasWorkers}
use Rattle.std.specs.Prelude.{List, ℕ}

pub in_range : (words : List (List ℕ)) (j : Job) → IsAnswer words (Ok j) → HasWorkers j
in_range words (Run base block out workers journal) h = (h.1.3.4.1, h.1.3.4.2)
in_range words (Serial base block out) h = tt
in_range words (Replay base block journal out) h = tt
in_range words (Check block) h = tt
