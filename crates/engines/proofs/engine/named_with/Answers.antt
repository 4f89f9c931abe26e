use Rattle.std.proofs.Common.{◌≡◌, List, IfOk, ap, sym, subst, ◌∙◌}
use Rattle.datasets.specs.Dataset.{IsDataset}
use Rattle.terms.specs.Term.{term_order}
use Rattle.terms.specs.declared.term.Term.{Term}
use Rattle.dict.specs.Dictionary.{term_of, is_known}
use Rattle.meaning_laws.specs.Renaming.{renamed, dataset_known}
use Rattle.engines.proofs.engine.named_with.Goals as goal

pub named-requires-clause-known : goal.named-requires-clause-known
named-requires-clause-known c = ap (λ (ts : List Term). dataset_known (is_known ts) c.args.dataset) c.into_terms.ensures ∙ c.requires.known

pub named-requires-clause-dataset : goal.named-requires-clause-dataset
named-requires-clause-dataset c =
    subst (λ (ts : List Term). IsDataset term_order (renamed (term_of ts) c.args.dataset)) (sym c.into_terms.ensures) c.requires.dataset

pub returns : goal.returns
returns c = subst (λ (ts : List Term). IfOk c.named.result (λ d. d ≡ renamed (term_of ts) c.args.dataset)) c.into_terms.ensures c.named.ensures
