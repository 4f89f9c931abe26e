-- What an event asks of the base alone.
use Rattle.std.specs.Prelude.{◌≡◌, List, [], ◌∷◌}
use Rattle.reads.specs.Reads.{View}
use Rattle.reads.specs.Questions.{Question}
use Rattle.incarnations.specs.declared.state.Event.{Event}
use Rattle.incarnations.specs.declared.state.Event.TheVariants.{Read}

-- a read puts its read to the base, and no other event puts any
abbrev pub questions_of : View → Event → List Question
questions_of base (Read i n read) = record { dataset = base; read = read } ∷ []
questions_of base event = []

-- what a step is given of the base: a read its one scan, and any other event whatever scans come
-- with it
abbrev pub HasScans : View → Event → List Question → Type 0
HasScans base (Read i n read) scans = scans ≡ record { dataset = base; read = read } ∷ []
HasScans base event scans = Unit {0}
