-- A dataset of terms is the dataset of its parts.
use Rattle.std.proofs.Common.{◌≡◌, List, sym, ap, ◌∙◌, subst}
use Rattle.sets.specs.Sets.{set_of}
use Rattle.sets.proofs.SetLaws.{set_of-set}
use Rattle.terms.specs.Term.{term_order}
use Rattle.terms.specs.TermLaws.{term_total, term_exact}
use Rattle.terms.specs.DataSet.{dataset_of}
use Rattle.terms.specs.declared.term.Term.{Term}
use Rattle.datasets.specs.declared.quad.Quad.{Quad}
use Rattle.datasets.specs.Dataset.{Dataset, IsDataset, quad_order}
use Rattle.datasets.specs.Id.{quad_total, quad_exact}

-- a dataset is the dataset of its quads and names
pub of_parts : (d : Dataset Term) (quads : List (Quad Term)) (names : List Term) → quads ≡ d.quads → names ≡ d.names → IsDataset term_order d → dataset_of quads names ≡ d
of_parts d quads names quads_are names_are h =
    let qs = ap (λ (xs : List (Quad Term)). set_of (quad_order term_order) xs) quads_are ∙ set_of-set (quad_total term_total) (quad_exact term_order term_exact) d.quads h.quads in
    let ns = ap (λ (xs : List Term). set_of term_order xs) names_are ∙ set_of-set term_total term_exact d.names h.names in
    λ i. record { quads = qs i; names = ns i }

pub parts_dataset : (d : Dataset Term) (quads : List (Quad Term)) (names : List Term) → quads ≡ d.quads → names ≡ d.names → IsDataset term_order d → IsDataset term_order (dataset_of quads names)
parts_dataset d quads names quads_are names_are h = subst (λ (e : Dataset Term). IsDataset term_order e) (sym (of_parts d quads names quads_are names_are h)) h
