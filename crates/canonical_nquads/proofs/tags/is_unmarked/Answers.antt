use Rattle.std.proofs.Common.{◌≡◌, false, sym, ap, map, ◌∙◌, rules}
use Rattle.std.specs.List.{list_any}
use Rattle.std.proofs.lemmas.Bool.{not-true}
use Rattle.datasets.specs.Dataset.{Dataset}
use Rattle.terms.specs.declared.term.Term.{Term}
use Rattle.terms.specs.Placed.{quad_at}
use Rattle.canonical_nquads.specs.Tag.{mark_of, has_mark}
use Rattle.canonical_nquads.proofs.BeginningLaws.{none_marked}
use Rattle.canonical_nquads.proofs.TagLaws.{same_taken}
use Rattle.canonical_nquads.proofs.tags.is_unmarked.Goals as goal

pub returns : goal.returns
returns c = λ free.
    let none : c.is_marked.result ≡ false = search (rules, not-true) in
    let terms = c.parts-parts.result.terms.now in
    let quads = c.parts-parts.result.quads.now in
    same_taken c.sets_pass_alike.ensures.quads c.args.dataset.now (map (quad_at terms) quads) 1 (ap (λ (d : Dataset Term). d.quads) c.parts-parts.ensures.parts)
    ∙ none_marked (mark_of 1) terms quads (ap (λ m. list_any (has_mark m) terms) (sym (c.as_slice.ensures.value ∙ c.in_ok-mark.ensures)) ∙ sym c.is_marked.ensures ∙ none)
