-- The scan of a template: the quads that have its written terms.
use Rattle.std.specs.Prelude.{◌≡◌, Bool, true, List, Option, Some, None}
use Rattle.std.specs.List.{AllByRecursion}
use Rattle.datasets.specs.declared.id.Id.{Id}
use Rattle.datasets.specs.declared.read.GraphPlace.{GraphPlace}
use Rattle.datasets.specs.declared.read.GraphPlace.TheVariants.{Any, Only}
use Rattle.datasets.specs.declared.read.QuadPattern.{QuadPattern}
use Rattle.datasets.specs.declared.read.Read.TheVariants.{Scan}
use Rattle.algebra.specs.declared.template.Slot.{Slot}
use Rattle.algebra.specs.declared.template.Slot.TheVariants as slot
use Rattle.algebra.specs.declared.template.QuadTemplate.{QuadTemplate}
use Rattle.reads.specs.Reads.{Read}

-- the written term, and nothing for a variable or a label
abbrev pub written : Slot Id → Option Id
written (slot.Term t) = Some t
written (slot.Variable v) = None
written (slot.Label l) = None

-- the written graph, and any for a variable or a label; nothing written is the default graph
abbrev pub written_graph : Option (Slot Id) → GraphPlace Id
written_graph None = Only None
written_graph (Some (slot.Term t)) = Only (Some t)
written_graph (Some (slot.Variable v)) = Any
written_graph (Some (slot.Label l)) = Any

abbrev pub template_pattern : QuadTemplate Id → QuadPattern Id
template_pattern t = record { subject = written t.subject; predicate = written t.predicate; object = written t.object; graph = written_graph t.graph }

abbrev pub template_scan : QuadTemplate Id → Read
template_scan t = Scan (template_pattern t)

-- the scan of each template is allowed
abbrev pub AskedTemplates : (Read → Bool) → List (QuadTemplate Id) → Type 0
AskedTemplates allowed templates = AllByRecursion (λ t. allowed (template_scan t) ≡ true) templates
