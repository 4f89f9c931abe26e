use Rattle.std.proofs.lemmas.Result.{err_from_is_err_and}
use Rattle.clap.specs.Words.{found_of, rows_of}
use Rattle.command_line.proofs.JobLaws.{workers_fail}
use Rattle.command_line.specs.declared.words.Mistake.TheVariants.{Workers}
use Rattle.command_line.proofs.words.run_words.Goals as goal

pub returns-in_err-worker_count : goal.returns-in_err-worker_count
returns-in_err-worker_count c =
    let p = err_from_is_err_and c.from_residual-in_err-worker_count.result c.from_residual-in_err-worker_count.ensures.1 in
    rw p.1 (workers_fail (rows_of (found_of c.args.run.now)) Workers c.in_err-worker_count.ensures)
