-- What a dataset that stays as it is answers.
use Rattle.std.specs.Prelude.{◌≡◌, Result, Ok, Err, IsOk}
use Rattle.datasets.specs.declared.id.Id.{Id}
use Rattle.datasets.specs.declared.read.Read.TheVariants.{GraphIs}
use Rattle.reads.specs.Reads.{View, Read, Answer, says}
use Rattle.reads.specs.declared.source.Stop.{Stop}
use Rattle.reads.specs.declared.source.Stop.TheVariants.{Memory}

-- what the read says of the dataset; it stops for want of memory alone
abbrev pub Tells : View → Read → Result Answer Stop → Type 0
Tells d r (Ok answer) = answer ≡ says r d
Tells d r (Err stop) = stop ≡ Memory

-- whether a read asks for one graph name
abbrev pub IsForName : Read → Type 0
IsForName r = (g : Id) × (r ≡ GraphIs g)

-- the same, where to say whether a name is there needs no memory
abbrev pub TellsNames : View → Read → Result Answer Stop → Type 0
TellsNames d r told = Tells d r told × (IsForName r → IsOk told)
