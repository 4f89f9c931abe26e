use Rattle.clap.specs.Words.{app_of}
use Rattle.command_line.proofs.JobLaws.{parse_fails, parse_gives, parse_lacks}
use Rattle.command_line.proofs.job.answer.Goals as goal

pub returns-in-Err-clause-answer : goal.returns-in-Err-clause-answer
returns-in-Err-clause-answer c =
    parse_fails (app_of c.in_ok-program.field-0) c.in_ok-program.ensures _ c.in-Err.error c.in_ok-line_fault-in-Err.field-0 c.in-Err.ensures.kinds c.in_ok-line_fault-in-Err.ensures

pub returns-in-Ok-words_of-clause-answer : goal.returns-in-Ok-words_of-clause-answer
returns-in-Ok-words_of-clause-answer c =
    parse_gives (app_of c.in_ok-program.field-0) c.in_ok-program.ensures _ c.in-Ok.matches c.in-Ok.ensures.kinds c.in-Ok.ensures.matches c.in-Ok-words_of.words c.in_ok-job_of-in-Ok-words_of.field-0
    c.in-Ok-words_of.ensures c.in_ok-job_of-in-Ok-words_of.ensures

pub returns-clause-answer : goal.returns-clause-answer
returns-clause-answer c =
    parse_lacks (app_of c.in_ok-program.field-0) c.in_ok-program.ensures _ c.in-Ok.matches c.in-Ok.ensures.kinds c.in-Ok.ensures.matches c.in-Err-words_of.mistake
    c.in_ok-mistake_fault-in-Err-words_of.field-0 c.in-Err-words_of.ensures c.in_ok-mistake_fault-in-Err-words_of.ensures
