-- What the program answers to the bytes of a base and of a block, each on its own.
use Rattle.std.specs.Prelude.{ℕ, ◌^◌, List, Result, Ok, Err}
use Rattle.datasets.specs.Dataset.{Dataset}
use Rattle.terms.specs.declared.term.Term.{Term}
use Rattle.meaning.specs.Run.{Request}
use Rattle.devices.specs.declared.front.ReadFault.TheVariants as read_faults
use Rattle.devices.specs.declared.front.ReadFault.{ReadFault}
use Rattle.nquads.specs.Long.{IsAnswer}
use Rattle.nquads.specs.declared.fault.BaseFault.TheVariants as base_faults
use Rattle.nquads.specs.declared.fault.BaseFault.{BaseFault}
use Rattle.rules.specs.Requests.{IsSplit}
use Rattle.rules.specs.declared.fault.BlockFault.TheVariants as block_faults
use Rattle.rules.specs.declared.fault.BlockFault.{BlockFault}
use Rattle.command_line.specs.declared.fault.Fault.{Fault}
use Rattle.command_line.specs.declared.fault.Fault.TheVariants as told
use Rattle.command_line.specs.declared.fault.File.TheVariants as file

-- what is told of a base that was not read, of a block whose bytes did not come, and of a block
-- that was not cut
abbrev pub base_fault : BaseFault → Fault
base_fault base_faults.OutOfMemory = told.Memory
base_fault (base_faults.BadLine n) = told.BadLine n
base_fault base_faults.TooLong = told.BaseTooLong
base_fault base_faults.Device = told.CannotRead file.Base

abbrev pub device_fault : ReadFault → Fault
device_fault read_faults.OutOfMemory = told.Memory
device_fault read_faults.Device = told.CannotRead file.Block

abbrev pub block_fault : BlockFault → Fault
block_fault block_faults.OutOfMemory = told.Memory
block_fault block_faults.TooLong = told.BlockTooLong
block_fault block_faults.TooManyRequests = told.TooManyRequests
block_fault block_faults.BadUtf8 = told.BadUtf8

-- the dataset that the base spells, or the fault of the base; memory may run out and a read may
-- fail at any base
abbrev pub IsBaseAnswer : List ℕ → Result (Dataset Term) Fault → Type 0
IsBaseAnswer text (Ok d) = IsAnswer (2 ^ 30) text (Ok d)
IsBaseAnswer text (Err (told.BadLine n)) = IsAnswer (2 ^ 30) text (Err (base_faults.BadLine n))
IsBaseAnswer text (Err told.BaseTooLong) = IsAnswer (2 ^ 30) text (Err base_faults.TooLong)
IsBaseAnswer text (Err told.Memory) = Unit {0}
IsBaseAnswer text (Err (told.CannotRead file.Base)) = Unit {0}
IsBaseAnswer text (Err _) = ⊥

-- the block's requests, or the fault of the block; memory may run out and a read may fail at any
-- block
abbrev pub IsBlockAnswer : List ℕ → Result (List (Request Term)) Fault → Type 0
IsBlockAnswer text (Ok requests) = IsSplit text (Ok requests)
IsBlockAnswer text (Err told.BlockTooLong) = IsSplit text (Err block_faults.TooLong)
IsBlockAnswer text (Err told.TooManyRequests) = IsSplit text (Err block_faults.TooManyRequests)
IsBlockAnswer text (Err told.BadUtf8) = IsSplit text (Err block_faults.BadUtf8)
IsBlockAnswer text (Err told.Memory) = Unit {0}
IsBlockAnswer text (Err (told.CannotRead file.Block)) = Unit {0}
IsBlockAnswer text (Err _) = ⊥

-- a fault of the base, or of the block where the base is read, of its bytes or of its device;
-- memory may run out, and the device of the base or of the answer may fail, at any input
abbrev pub IsFaultOf : (base block : List ℕ) → Fault → Type 0
IsFaultOf base block (told.BadLine n) = IsBaseAnswer base (Err (told.BadLine n))
IsFaultOf base block told.BaseTooLong = IsBaseAnswer base (Err told.BaseTooLong)
IsFaultOf base block told.BlockTooLong = ((d : Dataset Term) × IsBaseAnswer base (Ok d)) × IsBlockAnswer block (Err told.BlockTooLong)
IsFaultOf base block told.TooManyRequests = ((d : Dataset Term) × IsBaseAnswer base (Ok d)) × IsBlockAnswer block (Err told.TooManyRequests)
IsFaultOf base block told.BadUtf8 = ((d : Dataset Term) × IsBaseAnswer base (Ok d)) × IsBlockAnswer block (Err told.BadUtf8)
IsFaultOf base block (told.CannotRead file.Block) = (d : Dataset Term) × IsBaseAnswer base (Ok d)
IsFaultOf base block told.Memory = Unit {0}
IsFaultOf base block (told.CannotRead file.Base) = Unit {0}
IsFaultOf base block (told.CannotWrite file.Answer) = Unit {0}
IsFaultOf base block _ = ⊥

-- why the bytes of a journal did not come
abbrev pub IsUnreadJournal : Fault → Type 0
IsUnreadJournal told.Memory = Unit {0}
IsUnreadJournal (told.CannotRead file.Journal) = Unit {0}
IsUnreadJournal _ = ⊥
