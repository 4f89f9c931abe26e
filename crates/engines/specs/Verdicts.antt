-- What the command `check` answers to the bytes of a block, and what it writes.
use Rattle.std.specs.Prelude.{◌≡◌, ℕ, List, Option, Result, Ok, Err}
use Rattle.meaning.specs.declared.reply.Refusal.{Refusal}
use Rattle.rules.specs.Requests.{AreVerdicts}
use Rattle.rules.specs.declared.fault.BlockFault.TheVariants as block_faults
use Rattle.command_line.specs.Replies.{verdict_lines}
use Rattle.command_line.specs.declared.fault.Fault.{Fault}
use Rattle.command_line.specs.declared.fault.Fault.TheVariants as told
use Rattle.command_line.specs.declared.fault.File.TheVariants as file
use Rattle.engines.specs.Outputs.{Taken, Grew, GrewInPart}

-- the verdicts on the block's requests, or the fault of the block; memory may run out and a read
-- may fail at any block
abbrev pub IsJudgement : List ℕ → Result (List (Option Refusal)) Fault → Type 0
IsJudgement text (Ok verdicts) = AreVerdicts text (Ok verdicts)
IsJudgement text (Err told.BlockTooLong) = AreVerdicts text (Err block_faults.TooLong)
IsJudgement text (Err told.TooManyRequests) = AreVerdicts text (Err block_faults.TooManyRequests)
IsJudgement text (Err told.BadUtf8) = AreVerdicts text (Err block_faults.BadUtf8)
IsJudgement text (Err told.Memory) = Unit {0}
IsJudgement text (Err (told.CannotRead file.Block)) = Unit {0}
IsJudgement text (Err _) = ⊥

-- a fault of the block; memory may run out and a device may fail at any block
abbrev pub IsCheckFault : List ℕ → Fault → Type 0
IsCheckFault block (told.CannotWrite file.Answer) = Unit {0}
IsCheckFault block fault = IsJudgement block (Err fault)

-- these are the lines of the verdicts on the requests of a block
abbrev pub AreLinesOf : (block lines : List ℕ) → Type 0
AreLinesOf block lines = (verdicts : List (Option Refusal)) × IsJudgement block (Ok verdicts) × (lines ≡ verdict_lines verdicts)

-- the writer has the lines of a block's verdicts
abbrev pub WroteVerdicts : (block : List ℕ) → Taken → Type 0
WroteVerdicts block told = (lines : List ℕ) × AreLinesOf block lines × Grew told lines

-- the writer has a beginning of the lines of a block's verdicts
abbrev pub WroteVerdictsInPart : (block : List ℕ) → Taken → Type 0
WroteVerdictsInPart block told = (lines : List ℕ) × AreLinesOf block lines × GrewInPart told lines
