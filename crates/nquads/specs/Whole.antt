-- Reading the lines of a text from first to last.
use Rattle.std.specs.Prelude.{ℕ, ◌≡◌, ◌+◌, List, [], ◌∷◌, Option, None, Result, Ok, Err}
use Rattle.std.specs.Option.{option_map_or}
use Rattle.datasets.specs.Dataset.{Dataset}
use Rattle.terms.specs.declared.term.Term.{Term}
use Rattle.terms.specs.DataSet.{with_quad, with_graph}
use Rattle.nquads_lines.specs.declared.stop.Line.{Line}
use Rattle.nquads_lines.specs.declared.stop.Line.TheVariants.{Nothing, Graph, Statement}
use Rattle.nquads.specs.declared.fault.BaseFault.{BaseFault}
use Rattle.nquads.specs.declared.fault.BaseFault.TheVariants as fault
use Rattle.nquads.specs.declared.reader.ReadText.{ReadText}
use Rattle.nquads_lines.specs.Reading.{line_of}

-- the dataset with what a line says
abbrev pub keep : Dataset Term → Line → Dataset Term
keep d Nothing = d
keep d (Graph name) = with_graph name d
keep d (Statement q) = with_quad q d

-- the dataset, or the number of the first bad line, where n lines were read before
abbrev pub read_from : Dataset Term → ℕ → List (List ℕ) → Result (Dataset Term) ℕ
read_from d n [] = Ok d
read_from d n (line ∷ later) = option_map_or (λ said. read_from (keep d said) (n + 1) later) (line_of line) (Err (n + 1))

abbrev pub no_quads : Dataset Term
no_quads = record { quads = []; names = [] }

-- Why the n-th line was not read, where this is what reading it gives.
abbrev pub Faults : BaseFault → ℕ → Option Line → Type 0
Faults fault.OutOfMemory n read = Unit {0}
Faults (fault.BadLine m) n read = (m ≡ n) × (read ≡ None)
Faults fault.TooLong n read = ⊥
Faults fault.Device n read = ⊥

-- What a function returned is what reading gives, unless memory ran out.
abbrev pub Reads : Result (Dataset Term) BaseFault → Result (Dataset Term) ℕ → Type 0
Reads (Ok d) read = read ≡ Ok d
Reads (Err fault.OutOfMemory) read = Unit {0}
Reads (Err (fault.BadLine n)) read = read ≡ Err n
Reads (Err fault.TooLong) read = ⊥
Reads (Err fault.Device) read = ⊥

-- the same of a text that is read with the number of its lines
abbrev pub ReadsText : Result ReadText BaseFault → Result (Dataset Term) ℕ → Type 0
ReadsText (Ok text) read = read ≡ Ok text.dataset
ReadsText (Err e) read = Reads (Err e) read
