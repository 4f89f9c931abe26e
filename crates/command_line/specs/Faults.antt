-- What the program tells where it ends without an answer: the process's exit status and a line,
-- without its LF.
use Rattle.std.specs.Prelude.{ℕ, List, ◌++◌, codes}
use Rattle.std.specs.Fmt.{decimal}
use Rattle.command_line.specs.declared.fault.File.{File}
use Rattle.command_line.specs.declared.fault.File.TheVariants.{Base, Block, Journal, Answer}
use Rattle.command_line.specs.declared.fault.LineFault.{LineFault}
use Rattle.command_line.specs.declared.fault.LineFault.TheVariants as line
use Rattle.command_line.specs.declared.fault.Fault.{Fault}
use Rattle.command_line.specs.declared.fault.Fault.TheVariants.{Line, BadLine, BaseTooLong, BlockTooLong, TooManyRequests, BadUtf8, Memory, BadEntry, Illegal, CannotRead, CannotWrite}

abbrev pub file_word : File → List ℕ
file_word Base = codes "base"
file_word Block = codes "block"
file_word Journal = codes "journal"
file_word Answer = codes "answer"

abbrev pub status_of_line : LineFault → ℕ
status_of_line line.Memory = 5
status_of_line (line.Help text) = 0
status_of_line (line.Wrong text) = 2

-- 2 is the command line's fault, 3 the base's, 4 the block's, 5 memory's, 6 a file's and 7 the
-- journal's; help is no fault
abbrev pub status_of : Fault → ℕ
status_of (Line fault) = status_of_line fault
status_of (BadLine n) = 3
status_of BaseTooLong = 3
status_of BlockTooLong = 4
status_of TooManyRequests = 4
status_of BadUtf8 = 4
status_of Memory = 5
status_of (BadEntry n) = 7
status_of (Illegal n) = 7
status_of (CannotRead file) = 6
status_of (CannotWrite file) = 6

-- the text of help and of a wrong command line is not fixed
abbrev pub line_of_line : LineFault → List ℕ
line_of_line line.Memory = codes "out of memory"
line_of_line (line.Help text) = text
line_of_line (line.Wrong text) = text

abbrev pub line_of : Fault → List ℕ
line_of (Line fault) = line_of_line fault
line_of (BadLine n) = codes "base: bad line " ++ decimal n
line_of BaseTooLong = codes "base: too long"
line_of BlockTooLong = codes "block: too long"
line_of TooManyRequests = codes "block: too many requests"
line_of BadUtf8 = codes "block: not UTF-8"
line_of Memory = codes "out of memory"
line_of (BadEntry n) = codes "journal: bad entry " ++ decimal n
line_of (Illegal n) = codes "journal: entry " ++ decimal n ++ codes " is not lawful"
line_of (CannotRead file) = codes "file: cannot read " ++ file_word file
line_of (CannotWrite file) = codes "file: cannot write " ++ file_word file
