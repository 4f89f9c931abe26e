use Rattle.std.proofs.Common.{◌≡◌, List, map, ap, sym, subst, ◌∙◌}
use Rattle.std.specs.List.{list_all}
use Rattle.std.proofs.lemmas.Bool.{and_parts}
use Rattle.datasets.specs.declared.id.Id.{Id}
use Rattle.datasets.specs.declared.quad.Quad.{Quad}
use Rattle.terms.specs.declared.term.Term.{Term}
use Rattle.terms.specs.Placed.{term_at, quad_at, AreApart}
use Rattle.quad_sets.specs.Pieces.{quads_in_pieces}
use Rattle.dict.specs.Dictionary.{term_of, is_known}
use Rattle.meaning_laws.specs.Renaming.{renamed, renamed_quad, quad_known}
use Rattle.numbering.proofs.Numbers.{of_parts, parts_dataset}
use Rattle.numbering.proofs.Places.{stand_kept, known_names_kept}
use Rattle.numbering.proofs.naming.named.Goals as goal

pub from_list-table-requires : goal.from_list-table-requires
from_list-table-requires c = subst (λ (ts : List Term). AreApart ts) (sym c.into_terms.ensures.terms) c.into_terms.ensures.apart

pub place_quads-requires : goal.place_quads-requires
place_quads-requires c =
    let begun : c.from_list-table.result ≡ c.args.terms = c.from_list-table.ensures ∙ c.into_terms.ensures.terms in
    let listed : quads_in_pieces c.as_slice.result.now ≡ c.args.view.quads = ap quads_in_pieces c.as_slice.ensures.value ∙ c.into_parts-quads.ensures.quads in
    ap (λ (ts : List Term). list_all (quad_known (is_known ts)) (quads_in_pieces c.as_slice.result.now)) begun
    ∙ ap (list_all (quad_known (is_known c.args.terms))) listed
    ∙ (and_parts (list_all (quad_known (is_known c.args.terms)) c.args.view.quads) _ c.requires.known).0

pub place_names-requires : goal.place_names-requires
place_names-requires c =
    let terms = c.args.terms in
    let table = c.from_list-table.result in
    let mid = c.place_quads.new.table in
    let begun : table ≡ terms = c.from_list-table.ensures ∙ c.into_terms.ensures.terms in
    let named : c.as_slice-2.result.now ≡ c.args.view.names = c.as_slice-2.ensures.value ∙ c.into_parts-quads.ensures.names in
    let known =
    ap (λ (ts : List Term). list_all (is_known ts) c.as_slice-2.result.now) begun ∙ ap (list_all (is_known terms)) named
    ∙ (and_parts (list_all (quad_known (is_known terms)) c.args.view.quads) _ c.requires.known).1 in
    let names = known_names_kept c.terms_keep_places.ensures table mid c.in_ok-quads.ensures.kept c.as_slice-2.result.now known in
    names.1

pub from_parts-requires-clause-within : goal.from_parts-requires-clause-within
from_parts-requires-clause-within c =
    let quads = stand_kept c.terms_keep_places.ensures c.place_quads.new.table c.place_names.new.table c.in_ok-names.ensures.kept c.from_list-table.result c.in_ok-quads.quads.items
    (quads_in_pieces c.as_slice.result.now) c.in_ok-quads.ensures.stands in
    (quads.within, c.in_ok-names.ensures.stands.within)

pub from_parts-requires-clause-dataset : goal.from_parts-requires-clause-dataset
from_parts-requires-clause-dataset c =
    let terms = c.args.terms in
    let table = c.from_list-table.result in
    let mid = c.place_quads.new.table in
    let whole = c.place_names.new.table in
    let begun : table ≡ terms = c.from_list-table.ensures ∙ c.into_terms.ensures.terms in
    let listed : quads_in_pieces c.as_slice.result.now ≡ c.args.view.quads = ap quads_in_pieces c.as_slice.ensures.value ∙ c.into_parts-quads.ensures.quads in
    let named : c.as_slice-2.result.now ≡ c.args.view.names = c.as_slice-2.ensures.value ∙ c.into_parts-quads.ensures.names in
    let known =
    ap (λ (ts : List Term). list_all (is_known ts) c.as_slice-2.result.now) begun ∙ ap (list_all (is_known terms)) named
    ∙ (and_parts (list_all (quad_known (is_known terms)) c.args.view.quads) _ c.requires.known).1 in
    let names = known_names_kept c.terms_keep_places.ensures table mid c.in_ok-quads.ensures.kept c.as_slice-2.result.now known in
    let quads = stand_kept c.terms_keep_places.ensures mid whole c.in_ok-names.ensures.kept table c.in_ok-quads.quads.items (quads_in_pieces c.as_slice.result.now) c.in_ok-quads.ensures.stands in
    let quads_are =
    quads.each ∙ ap (λ (ts : List Term). map (renamed_quad (term_of ts)) (quads_in_pieces c.as_slice.result.now)) begun ∙ ap (λ (qs : List (Quad Id)). map (renamed_quad (term_of terms)) qs) listed in
    let names_are =
    c.in_ok-names.ensures.stands.each ∙ names.0 ∙ ap (λ (ts : List Term). map (term_of ts) c.as_slice-2.result.now) begun ∙ ap (λ (ns : List Id). map (term_of terms) ns) named in
    parts_dataset (renamed (term_of terms) c.args.view) (map (quad_at whole) c.in_ok-quads.quads.items) (map (term_at whole) c.in_ok-names.names.items) quads_are names_are c.requires.dataset

pub returns : goal.returns
returns c =
    let terms = c.args.terms in
    let table = c.from_list-table.result in
    let mid = c.place_quads.new.table in
    let whole = c.place_names.new.table in
    let begun : table ≡ terms = c.from_list-table.ensures ∙ c.into_terms.ensures.terms in
    let listed : quads_in_pieces c.as_slice.result.now ≡ c.args.view.quads = ap quads_in_pieces c.as_slice.ensures.value ∙ c.into_parts-quads.ensures.quads in
    let named : c.as_slice-2.result.now ≡ c.args.view.names = c.as_slice-2.ensures.value ∙ c.into_parts-quads.ensures.names in
    let known =
    ap (λ (ts : List Term). list_all (is_known ts) c.as_slice-2.result.now) begun ∙ ap (list_all (is_known terms)) named
    ∙ (and_parts (list_all (quad_known (is_known terms)) c.args.view.quads) _ c.requires.known).1 in
    let names = known_names_kept c.terms_keep_places.ensures table mid c.in_ok-quads.ensures.kept c.as_slice-2.result.now known in
    let quads = stand_kept c.terms_keep_places.ensures mid whole c.in_ok-names.ensures.kept table c.in_ok-quads.quads.items (quads_in_pieces c.as_slice.result.now) c.in_ok-quads.ensures.stands in
    let quads_are =
    quads.each ∙ ap (λ (ts : List Term). map (renamed_quad (term_of ts)) (quads_in_pieces c.as_slice.result.now)) begun ∙ ap (λ (qs : List (Quad Id)). map (renamed_quad (term_of terms)) qs) listed in
    let names_are =
    c.in_ok-names.ensures.stands.each ∙ names.0 ∙ ap (λ (ts : List Term). map (term_of ts) c.as_slice-2.result.now) begun ∙ ap (λ (ns : List Id). map (term_of terms) ns) named in
    c.from_parts.ensures
    ∙ of_parts (renamed (term_of terms) c.args.view) (map (quad_at whole) c.in_ok-quads.quads.items) (map (term_at whole) c.in_ok-names.names.items) quads_are names_are c.requires.dataset
