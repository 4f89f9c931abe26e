use Rattle.std.proofs.Common.{List, ap, ◌∙◌, ◌++◌, map, refl}
use Rattle.std.specs.List.{list_all}
use Rattle.datasets.specs.Dataset.{Dataset}
use Rattle.datasets.specs.declared.id.Id.{Id}
use Rattle.datasets.specs.declared.quad.Quad.{Quad}
use Rattle.terms.specs.declared.term.Term.{Term}
use Rattle.terms.specs.Placed.{term_at, quad_at, is_within, is_quad_within}
use Rattle.dict.specs.Dictionary.{term_of, is_known}
use Rattle.meaning_laws.specs.Renaming.{renamed_quad, quad_known}
use Rattle.store.specs.Tables.{number_at, numbers_at}
use Rattle.store.proofs.Holding.{both_held}
use Rattle.store.proofs.Standing.{base_of}
use Rattle.store.proofs.Distinct.{same_terms, still_all}
use Rattle.store.proofs.Places.{quads_within, names_within, quads_are, names_are}
use Rattle.store.proofs.base.Base.new.Goals as goal

pub placed-requires-clause-within : goal.placed-requires-clause-within
placed-requires-clause-within g c =
    ap (λ (xs : List Id). list_all (is_quad_within xs) c.as_slice-2.result.now) c.as_slice.ensures.value
    ∙ ap (list_all (is_quad_within c.in_ok-terms.ids.items)) c.as_slice-2.ensures.value
    ∙ quads_within c.in_ok-terms.terms c.in_ok-parts.parts.terms.items c.in_ok-terms.ids.items c.in_ok-terms.ensures.renamed c.in_ok-terms.ensures.known c.in_ok-parts.parts.quads.items
    ∙ c.in_ok-parts.ensures.within.0

pub name_numbers-requires : goal.name_numbers-requires
name_numbers-requires g c =
    ap (λ (xs : List Id). list_all (is_within xs) c.as_slice-4.result.now) c.as_slice-3.ensures.value
    ∙ ap (list_all (is_within c.in_ok-terms.ids.items)) c.as_slice-4.ensures.value
    ∙ names_within c.in_ok-terms.terms c.in_ok-parts.parts.terms.items c.in_ok-terms.ids.items c.in_ok-terms.ensures.renamed c.in_ok-terms.ensures.known c.distinct-places.result.items
    ∙ still_all c.in_ok-parts.parts.names.items c.distinct-places.result.items c.distinct-places.ensures.kept c.distinct-places.ensures.only (is_within c.in_ok-parts.parts.terms.items) c.in_ok-parts.ensures.within.1

pub returns-clause-held : goal.returns-clause-held
returns-clause-held g c =
    let terms = c.in_ok-parts.parts.terms.items in
    let more = c.args.more.items in
    (both_held (terms ++ more) c.in_ok-terms.terms terms more refl c.in_ok-terms.ensures.terms).1

pub returns-clause-base : goal.returns-clause-base
returns-clause-base g c =
    let dict = c.in_ok-terms.terms in
    let terms = c.in_ok-parts.parts.terms.items in
    let placed = c.in_ok-parts.parts.quads.items in
    let all = c.in_ok-parts.parts.names.items in
    let places = c.distinct-places.result.items in
    let within = still_all all places c.distinct-places.ensures.kept c.distinct-places.ensures.only (is_within terms) c.in_ok-parts.ensures.within.1 in
    let ids = c.in_ok-terms.ids.items in
    let quads_made = c.in_ok-quads.ensures ∙ ap (λ (xs : List Id). map (numbers_at xs) c.as_slice-2.result.now) c.as_slice.ensures.value ∙ ap (map (numbers_at ids)) c.as_slice-2.ensures.value in
    let names_made = c.in_ok-names.ensures ∙ ap (λ (xs : List Id). map (number_at xs) c.as_slice-4.result.now) c.as_slice-3.ensures.value ∙ ap (map (number_at ids)) c.as_slice-4.ensures.value in
    let qs = quads_are dict terms ids c.in_ok-terms.ensures.renamed c.in_ok-terms.ensures.known placed c.in_ok-parts.ensures.within.0 in
    let ns = names_are dict terms ids c.in_ok-terms.ensures.renamed c.in_ok-terms.ensures.known places within in
    base_of c.args.dataset dict c.in_ok-indexed.indexed c.in_ok-tag.tag
    (map (quad_at terms) placed) (map (term_at terms) places) c.in_ok-quads.quads c.in_ok-names.names.items
    c.in_ok-terms.ensures.form (c.is_renaming.ensures dict c.in_ok-terms.ensures.form)
    c.in_ok-parts.ensures.dataset (ap (λ (d : Dataset Term). d.quads) c.in_ok-parts.ensures.parts) (same_terms all places c.distinct-places.ensures.kept c.distinct-places.ensures.only (term_at terms) ∙ ap (λ (d : Dataset Term). d.names) c.in_ok-parts.ensures.parts)
    (ap (λ (xs : List (Quad Id)). map (renamed_quad (term_of dict)) xs) quads_made ∙ qs.0)
    (ap (λ (xs : List (Quad Id)). list_all (quad_known (is_known dict)) xs) quads_made ∙ qs.1)
    (ap (λ (xs : List Id). map (term_of dict) xs) names_made ∙ ns.0)
    (ap (λ (xs : List Id). list_all (is_known dict) xs) names_made ∙ ns.1)
    c.in_ok-indexed.ensures.quads c.in_ok-indexed.ensures.names c.in_ok-tag.ensures

pub invariant_of-base : goal.invariant_of-base
invariant_of-base g c =
    let dict = c.in_ok-terms.terms in
    let terms = c.in_ok-parts.parts.terms.items in
    let placed = c.in_ok-parts.parts.quads.items in
    let all = c.in_ok-parts.parts.names.items in
    let places = c.distinct-places.result.items in
    let within = still_all all places c.distinct-places.ensures.kept c.distinct-places.ensures.only (is_within terms) c.in_ok-parts.ensures.within.1 in
    let ids = c.in_ok-terms.ids.items in
    let quads_made = c.in_ok-quads.ensures ∙ ap (λ (xs : List Id). map (numbers_at xs) c.as_slice-2.result.now) c.as_slice.ensures.value ∙ ap (map (numbers_at ids)) c.as_slice-2.ensures.value in
    let names_made = c.in_ok-names.ensures ∙ ap (λ (xs : List Id). map (number_at xs) c.as_slice-4.result.now) c.as_slice-3.ensures.value ∙ ap (map (number_at ids)) c.as_slice-4.ensures.value in
    let qs = quads_are dict terms ids c.in_ok-terms.ensures.renamed c.in_ok-terms.ensures.known placed c.in_ok-parts.ensures.within.0 in
    let ns = names_are dict terms ids c.in_ok-terms.ensures.renamed c.in_ok-terms.ensures.known places within in
    (base_of c.args.dataset dict c.in_ok-indexed.indexed c.in_ok-tag.tag
    (map (quad_at terms) placed) (map (term_at terms) places) c.in_ok-quads.quads c.in_ok-names.names.items
    c.in_ok-terms.ensures.form (c.is_renaming.ensures dict c.in_ok-terms.ensures.form)
    c.in_ok-parts.ensures.dataset (ap (λ (d : Dataset Term). d.quads) c.in_ok-parts.ensures.parts) (same_terms all places c.distinct-places.ensures.kept c.distinct-places.ensures.only (term_at terms) ∙ ap (λ (d : Dataset Term). d.names) c.in_ok-parts.ensures.parts)
    (ap (λ (xs : List (Quad Id)). map (renamed_quad (term_of dict)) xs) quads_made ∙ qs.0)
    (ap (λ (xs : List (Quad Id)). list_all (quad_known (is_known dict)) xs) quads_made ∙ qs.1)
    (ap (λ (xs : List Id). map (term_of dict) xs) names_made ∙ ns.0)
    (ap (λ (xs : List Id). list_all (is_known dict) xs) names_made ∙ ns.1)
    c.in_ok-indexed.ensures.quads c.in_ok-indexed.ensures.names c.in_ok-tag.ensures).dataset
