-- The scans of the templates of an operation are near it.
use Rattle.std.specs.List.{list_any}
use Rattle.std.specs.Ordering.{is_eq}
use Rattle.std.specs.Cmp.{tied_itself}
use Rattle.std.proofs.Common.{◌≡◌, Bool, true, List, [], ◌∷◌, Option, Some, None, refl, ap}
use Rattle.std.proofs.lemmas.Bool.{or_left, or_right}
use Rattle.datasets.specs.declared.id.Id.{Id}
use Rattle.datasets.specs.declared.read.QuadPattern.{QuadPattern}
use Rattle.datasets.specs.declared.read.Read.TheVariants.{Scan}
use Rattle.datasets.specs.Id.{id_order, id_total}
use Rattle.asking.specs.Near.{is_written, is_graph_written, is_near_quad, is_near}
use Rattle.algebra.specs.declared.update.Modify.{Modify}
use Rattle.algebra.specs.declared.update.Operation.TheVariants as operation
use Rattle.algebra.specs.declared.template.QuadTemplate.{QuadTemplate}
use Rattle.algebra.specs.declared.template.Slot.{Slot}
use Rattle.algebra.specs.declared.template.Slot.TheVariants as slot
use Rattle.reads.specs.Reads.{Read}
use Rattle.update.specs.TemplateScans.{written, written_graph, template_pattern, AskedTemplates}
use Rattle.update.proofs.Nearness.{all_true}

written_near : (s : Slot Id) → is_written id_order s (written s) ≡ true
written_near (slot.Term t) = ap is_eq (tied_itself id_total t)
written_near (slot.Variable v) = refl
written_near (slot.Label l) = refl

graph_near : (g : Option (Slot Id)) → is_graph_written id_order g (written_graph g) ≡ true
graph_near None = refl
graph_near (Some (slot.Term t)) = ap is_eq (tied_itself id_total t)
graph_near (Some (slot.Variable v)) = refl
graph_near (Some (slot.Label l)) = refl

template_near : (t : QuadTemplate Id) → is_near_quad id_order t (template_pattern t) ≡ true
template_near t = all_true _ _ _ _ (written_near t.subject) (written_near t.predicate) (written_near t.object) (graph_near t.graph)

templates_near : (allowed : Read → Bool) (ts : List (QuadTemplate Id)) → ((p : QuadPattern Id) → list_any (λ t. is_near_quad id_order t p) ts ≡ true → allowed (Scan p) ≡ true)
    → AskedTemplates allowed ts
templates_near allowed [] f = tt
templates_near allowed (t ∷ ts) f = (f (template_pattern t) (or_left _ _ (template_near t)), templates_near allowed ts (λ p e. f p (or_right _ _ e)))

-- what is inserted may be asked for by the scans of its templates
pub inserted_asked : (m : Modify Id) → AskedTemplates (is_near id_order (operation.Modify m)) m.insert
inserted_asked m = templates_near (is_near id_order (operation.Modify m)) m.insert (λ p e. or_right _ _ (or_left _ _ e))
