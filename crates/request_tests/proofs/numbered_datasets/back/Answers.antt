use Rattle.std.proofs.Common.{◌≡◌, true, sym, subst, ◌∙◌}
use Rattle.datasets.specs.Dataset.{Dataset, IsDataset}
use Rattle.datasets.specs.declared.id.Id.{Id}
use Rattle.terms.specs.Term.{term_order}
use Rattle.terms.specs.declared.term.Term.{Term}
use Rattle.dict.specs.Dictionary.{term_of, is_known}
use Rattle.meaning_laws.specs.Renaming.{renamed, dataset_known}
use Rattle.request_tests.proofs.numbered_datasets.back.Goals as goal

pub named-requires-clause-known : goal.named-requires-clause-known
named-requires-clause-known c =
    let known = (λ i. dataset_known (is_known (c.into_terms.ensures i)) (c.dataset.ensures.value i)) ∙ c.in_ok-numbered.ensures.base.known in
    subst (λ (d : Dataset Id). dataset_known (is_known c.into_terms.result) d ≡ true) (sym c.in_ok-dataset.ensures) known

pub named-requires-clause-dataset : goal.named-requires-clause-dataset
named-requires-clause-dataset c =
    let same = (λ i. renamed (term_of (c.into_terms.ensures i)) (c.dataset.ensures.value i)) ∙ c.in_ok-numbered.ensures.base.dataset_is in
    let of_terms = subst (λ (e : Dataset Term). IsDataset term_order e) (sym same) c.parts.ensures.dataset in
    subst (λ (d : Dataset Id). IsDataset term_order (renamed (term_of c.into_terms.result) d)) (sym c.in_ok-dataset.ensures) of_terms
