-- The terms and readings that the code's values stand for.
use Rattle.std.specs.Prelude.{Option, Some, None, string_bytes}
use Rattle.terms.specs.declared.term.Term.{Term}
use Rattle.terms.specs.declared.term.Term.TheVariants as term
use Rattle.values.specs.Readings as readings
use Rattle.values.specs.Readings.{read_as}
use Rattle.values.specs.Values.{truth, integer, plain}
use Rattle.expr.specs.declared.outcome.Outcome.{Outcome}
use Rattle.expr.specs.declared.outcome.Outcome.TheVariants as outcome
use Rattle.expr.specs.declared.reading.Reading.{Reading}
use Rattle.expr.specs.declared.reading.Reading.TheVariants as reading

abbrev pub seen : Outcome → Option Term
seen outcome.Error = None
seen (outcome.Known t) = Some t.now
seen (outcome.Made request op label rank) = Some (term.Made request op label rank)
seen (outcome.Truth b) = Some (truth b)
seen (outcome.Integer z) = Some (integer z)
seen (outcome.Text t) = Some (plain t.now)
seen (outcome.OwnText t) = Some (plain (string_bytes t))
seen (outcome.Iri t) = Some (term.Iri t.now)

abbrev pub reading_of : Reading → readings.Reading
reading_of (reading.Number z) = readings.Number z
reading_of reading.TooLarge = readings.TooLarge
reading_of (reading.Text t) = readings.Text t.now
reading_of (reading.Tagged t tag) = readings.Tagged t.now tag.now
reading_of (reading.Truth b) = readings.Truth b
reading_of reading.IllFormed = readings.IllFormed
reading_of reading.Other = readings.Other

-- of two terms, and an error where a side is one
abbrev pub of_two : {B : Type 0} → (Term → Term → Option B) → Option Term → Option Term → Option B
of_two f None b = None
of_two f (Some a) None = None
of_two f (Some a) (Some b) = f a b

-- of what they are read as
abbrev pub of_readings : {B : Type 0} → (readings.Reading → readings.Reading → Option B) → Option Term → Option Term → Option B
of_readings f = of_two (λ a b. f (read_as a) (read_as b))
