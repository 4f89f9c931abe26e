-- Answers as they are kept.
use Rattle.std.specs.Prelude.{◌≡◌, Bool}
use Rattle.std.specs.Arc.{arc_value}
use Rattle.datasets.specs.Dataset.{Quads, Is, Names}
use Rattle.reads.specs.Reads.{Answer}
use Rattle.reads.specs.declared.answered.KeptAnswer.{KeptAnswer}
use Rattle.reads.specs.declared.answered.KeptAnswer.TheVariants as kept
use Rattle.reads.specs.declared.answered.Form.{Form}
use Rattle.reads.specs.declared.answered.Form.TheVariants as form

-- what an answer tells, however its quads are kept
abbrev pub told_by : KeptAnswer → Answer
told_by (kept.Quads quads) = Quads quads
told_by (kept.Is so) = Is so
told_by (kept.Names names) = Names names.items

-- the answer of this form
abbrev pub answer_of : Form → Answer
answer_of (form.Quads quads) = Quads (arc_value quads)
answer_of (form.Is so) = Is so
answer_of (form.Names names) = Names (arc_value names).items

-- whether an answer is a truth value
abbrev pub IsTruth : KeptAnswer → Type 0
IsTruth answer = (so : Bool) × (answer ≡ kept.Is so)
