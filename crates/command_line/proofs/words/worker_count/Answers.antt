use Rattle.std.proofs.Common.{◌≡◌, ◌∙◌, ℕ, codes, arith, sym, subst}
use Rattle.std.specs.Str.Parse.{ParsesUnsigned, ExplainsUnsignedError, HasUnsignedDigitsIfOk}
use Rattle.clap.specs.Words.{found_of, one_of, rows_of}
use Rattle.command_line.specs.CommandLine.{IsWorkers}
use Rattle.command_line.proofs.JobLaws.{number_is, number_read}
use Rattle.command_line.proofs.words.worker_count.Goals as goal

pub returns-then-workers-lt1 : goal.returns-then-workers-lt1
returns-then-workers-lt1 c =
    λ w h.
    let is : c.unwrap_or-workers.result ≡ w = c.unwrap_or-workers.ensures
    ∙ number_is (λ bs r. ParsesUnsigned 32 10 bs r × ExplainsUnsignedError 10 bs r × HasUnsignedDigitsIfOk bs r) (λ bs r g. g.0) (found_of c.args.run.now) c.get_one.result c.get_one.ensures.value w h in
    absurd (omega (arith, is, h.1, h.2, c.then-workers-lt1.either))

pub returns : goal.returns
returns c =
    subst (λ (n : ℕ). IsWorkers (one_of (codes "workers") (rows_of (found_of c.args.run.now))) n) (sym c.unwrap_or-workers.ensures)
    (number_read (λ bs r. ParsesUnsigned 32 10 bs r × ExplainsUnsignedError 10 bs r × HasUnsignedDigitsIfOk bs r) (λ bs r g. g.0) (found_of c.args.run.now) c.get_one.result
    c.get_one.ensures.none c.get_one.ensures.value (omega (arith, c.unwrap_or-workers.ensures, c.if-workers-lt1.false))
    (omega (arith, c.unwrap_or-workers.ensures, c.if-workers-gt-MAX_WORKERS.false)))
