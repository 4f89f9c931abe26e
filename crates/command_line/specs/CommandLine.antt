-- The command line, as `clap` reads it: `sparql-block run BASE BLOCK OUT [--workers N] [--journal
-- FILE]`, `sparql-block serial BASE BLOCK OUT`, `sparql-block replay BASE BLOCK JOURNAL OUT` or
-- `sparql-block check BLOCK`.
use Rattle.std.specs.Prelude.{◌≡◌, ◌≢◌, ◌≤◌, ⊤, true, ℕ, List, [], ◌∷◌, Option, Some, None, Result, Ok, Err, codes, pos, option_map, string_bytes}
use Rattle.std.specs.Borrow.{Bor}
use Rattle.std.specs.Str.Parse.{IsNumeral, digits_value, without_leading_plus}
use Rattle.clap.specs.Words.{App, Row, Rule, Shape, Text, new_app, new_rule, with_rule, with_subcommand, first_of, one_of, subcommand_of, fault_of, IsAmong}
use Rattle.clap.specs.declared.builder.value_parser.ValueParser.TheVariants.{Signed}
use Rattle.clap.specs.declared.error.kind.ErrorKind.{ErrorKind}
use Rattle.clap.specs.declared.error.kind.ErrorKind.TheVariants.{DisplayHelp, OutOfMemory}
use Rattle.command_line.specs.declared.fault.LineFault.{LineFault}
use Rattle.command_line.specs.declared.fault.LineFault.TheVariants.{Memory, Help, Wrong}
use Rattle.command_line.specs.declared.job.Job.{Job}
use Rattle.command_line.specs.declared.job.Job.TheVariants.{Run, Serial, Replay, Check}
use Rattle.command_line.specs.declared.words.JobWords.{JobWords}
use Rattle.command_line.specs.declared.words.JobWords.TheVariants as job_words
use Rattle.command_line.specs.declared.words.Mistake.{Mistake}

-- a file is a word that must be there
abbrev pub file_rule : Text → Rule
file_rule id = record (new_rule id) { required = true }

-- `--workers`, with a number
abbrev pub workers_option_rule : Rule
workers_option_rule = record (new_rule (codes "workers")) { long = Some (codes "workers"); parser = Some (Signed (pos 0) (pos 4294967295)) }

-- `--workers N`, 4 where it is not there
abbrev pub workers_rule : Rule
workers_rule = record workers_option_rule { value_names = 1; defaults = codes "4" ∷ [] }

-- `--journal FILE`, which need not be there
abbrev pub journal_rule : Rule
journal_rule = record (new_rule (codes "journal")) { long = Some (codes "journal"); value_names = 1 }

-- a command of a base and a block
abbrev pub app_of_block : Text → App
app_of_block name = with_rule (with_rule (new_app name) (file_rule (codes "BASE"))) (file_rule (codes "BLOCK"))

abbrev pub run_app : App
run_app = with_rule (with_rule (with_rule (app_of_block (codes "run")) (file_rule (codes "OUT"))) workers_rule) journal_rule

abbrev pub serial_app : App
serial_app = with_rule (app_of_block (codes "serial")) (file_rule (codes "OUT"))

abbrev pub replay_app : App
replay_app = with_rule (with_rule (app_of_block (codes "replay")) (file_rule (codes "JOURNAL"))) (file_rule (codes "OUT"))

abbrev pub check_app : App
check_app = with_rule (new_app (codes "check")) (file_rule (codes "BLOCK"))

-- one subcommand must be there, and `help` is none
abbrev pub program_shape : Shape
program_shape = record (new_app (codes "sparql-block")).top { subcommand_required = true; disable_help_subcommand = true }

abbrev pub bare_program : App
bare_program = record { top = program_shape; subs = [] }

-- the program with the commands that run a block
abbrev pub program_of_runs : App
program_of_runs = with_subcommand (with_subcommand bare_program run_app.top) serial_app.top

abbrev pub program : App
program = with_subcommand (with_subcommand program_of_runs replay_app.top) check_app.top

-- the text is the number in decimal digits, where a plus may stand first
abbrev pub IsNumber : Text → ℕ → Type 0
IsNumber t n = IsNumeral 10 (without_leading_plus t) × (n ≡ digits_value 10 (without_leading_plus t))

-- the text of `--workers` is this number, from 1 to 64
abbrev pub IsWorkers : Option Text → ℕ → Type 0
IsWorkers text n = ((t : Text) × (text ≡ Some t) × IsNumber t n) × (1 ≤ n) × (n ≤ 64)

-- the words that a job is made of: its files, its workers, and the file of its journal, if one is
-- written
pub data Words : Type 0 where
  run : (base block out : Text) (workers : ℕ) (journal : Option Text) → Words
  serial : (base block out : Text) → Words
  replay : (base block journal out : Text) → Words
  check : (block : Text) → Words

-- the words of a job, and words where they are in the command line
abbrev pub words_of : Job → Words
words_of (Run base block out workers journal) = run (string_bytes base) (string_bytes block) (string_bytes out) workers (option_map string_bytes journal)
words_of (Serial base block out) = serial (string_bytes base) (string_bytes block) (string_bytes out)
words_of (Replay base block journal out) = replay (string_bytes base) (string_bytes block) (string_bytes journal) (string_bytes out)
words_of (Check block) = check (string_bytes block)

abbrev pub words_in : JobWords → Words
words_in (job_words.Run base block out workers journal) = run base.now block.now out.now workers (option_map (λ path. path.now) journal)
words_in (job_words.Serial base block out) = serial base.now block.now out.now
words_in (job_words.Replay base block journal out) = replay base.now block.now journal.now out.now
words_in (job_words.Check block) = check block.now

-- the command of this name and its rows give these words: the files are words of the rows, and the
-- workers their number
abbrev pub IsAsked : Text → List Row → Words → Type 0
IsAsked name rows (run base block out workers journal) = (name ≡ codes "run")
    × (first_of (codes "BASE") rows ≡ Some base)
    × (first_of (codes "BLOCK") rows ≡ Some block)
    × (first_of (codes "OUT") rows ≡ Some out)
    × IsWorkers (one_of (codes "workers") rows) workers
    × (first_of (codes "journal") rows ≡ journal)
IsAsked name rows (serial base block out) = (name ≡ codes "serial")
    × (first_of (codes "BASE") rows ≡ Some base)
    × (first_of (codes "BLOCK") rows ≡ Some block)
    × (first_of (codes "OUT") rows ≡ Some out)
IsAsked name rows (replay base block journal out) = (name ≡ codes "replay")
    × (first_of (codes "BASE") rows ≡ Some base)
    × (first_of (codes "BLOCK") rows ≡ Some block)
    × (first_of (codes "JOURNAL") rows ≡ Some journal)
    × (first_of (codes "OUT") rows ≡ Some out)
IsAsked name rows (check block) = (name ≡ codes "check") × (first_of (codes "BLOCK") rows ≡ Some block)

-- what a file's word comes to
abbrev pub IsFileAnswer : Option Text → Result (Bor Text) Mistake → Type 0
IsFileAnswer text (Ok path) = text ≡ Some path.now
IsFileAnswer text (Err mistake) = text ≡ None

-- what the text of `--workers` comes to
abbrev pub IsWorkersAnswer : Option Text → Result ℕ Mistake → Type 0
IsWorkersAnswer text (Ok n) = IsWorkers text n
IsWorkersAnswer text (Err mistake) = (n : ℕ) → IsWorkers text n → ⊥

-- what the command of this name and its rows come to
abbrev pub IsCommandAnswer : Text → List Row → Result JobWords Mistake → Type 0
IsCommandAnswer name rows (Ok words) = IsAsked name rows (words_in words)
IsCommandAnswer name rows (Err mistake) = (words : Words) → IsAsked name rows words → ⊥

-- what the command that is named comes to, with its rows, if one is named
abbrev pub IsMatchAnswer : Option (Text × List Row) → Result JobWords Mistake → Type 0
IsMatchAnswer command (Ok words) = (name : Text) × (rows : List Row) × (command ≡ Some (name, rows)) × IsAsked name rows (words_in words)
IsMatchAnswer command (Err mistake) = (name : Text) (rows : List Row) (words : Words) → command ≡ Some (name, rows) → IsAsked name rows words → ⊥

-- what an error of this kind tells; where memory ran out it tells nothing
abbrev pub IsToldAs : ErrorKind → LineFault → Type 0
IsToldAs k Memory = ⊥
IsToldAs k (Help text) = k ≡ DisplayHelp
IsToldAs k (Wrong text) = (k ≢ OutOfMemory) × (k ≢ DisplayHelp)

-- the words, of which the first is the program's name, give this job
abbrev pub IsJob : List Text → Job → Type 0
IsJob words j = (name : Text) × (rows : List Row) × (subcommand_of program words ≡ Some (name, rows)) × IsAsked name rows (words_of j)

-- a job where the words are free of faults and give it; help where they ask for it; else they have
-- another fault or give no job
abbrev pub IsAnswer : List Text → Result Job LineFault → Type 0
IsAnswer words (Ok j) = (fault_of program words ≡ []) × IsJob words j
IsAnswer words (Err Memory) = ⊤
IsAnswer words (Err (Help text)) = IsAmong DisplayHelp (fault_of program words)
IsAnswer words (Err (Wrong text)) = (fault_of program words ≢ DisplayHelp ∷ []) × (fault_of program words ≡ [] → (j : Job) → IsJob words j → ⊥)

-- the workers of a job are from 1 to 64, where it has any
abbrev pub HasWorkers : Job → Type 0
HasWorkers (Run base block out workers journal) = (1 ≤ workers) × (workers ≤ 64)
HasWorkers (Serial base block out) = ⊤
HasWorkers (Replay base block journal out) = ⊤
HasWorkers (Check block) = ⊤
