use Rattle.std.proofs.Common.{List, map, sym, ap, ◌∙◌}
use Rattle.std.specs.List.{list_all}
use Rattle.terms.specs.declared.term.Term.{Term}
use Rattle.dict.specs.Dictionary.{term_of, is_known}
use Rattle.meaning_laws.specs.Renaming.{renamed_request, request_known}
use Rattle.numbering.proofs.requests.number_part.Goals as goal

pub returns : goal.returns
returns c =
    let list = c.in_ok-list.list.items in (
      ap (λ (ts : List Term). map (renamed_request (term_of ts)) list) (sym c.new-numbers.ensures) ∙ c.in_ok-list.ensures.renamed,
      ap (λ (ts : List Term). list_all (request_known (is_known ts)) list) (sym c.new-numbers.ensures) ∙ c.in_ok-list.ensures.known,
    )
