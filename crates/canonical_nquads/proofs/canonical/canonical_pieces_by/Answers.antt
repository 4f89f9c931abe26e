use Rattle.std.specs.HashSet.{contains}
use Rattle.std.specs.Prelude.{not, nat_eq}
use Rattle.std.proofs.Common.{◌++◌, ap, ◌∙◌, map, filter}
use Rattle.std.specs.List.{list_all, flat_map}
use Rattle.sets.specs.Sets.{set_of}
use Rattle.datasets.specs.Dataset.{Dataset}
use Rattle.terms.specs.declared.term.Term.{Term}
use Rattle.terms.specs.Term.{text_cmp}
use Rattle.terms.specs.Placed.{term_at, quad_at, is_within, is_quad_within}
use Rattle.canonical_nquads.specs.Canonical.{ended}
use Rattle.canonical_nquads.specs.Placed.{graph_line_at, quad_text_at}
use Rattle.canonical_nquads.proofs.CanonicalLaws.{canonical_is}
use Rattle.canonical_nquads.proofs.PlacedLines.{quads_within, names_within, lines_are}
use Rattle.canonical_nquads.proofs.canonical.canonical_pieces_by.Goals as goal

pub pieces_of_lines_by-requires-clause-quads : goal.pieces_of_lines_by-requires-clause-quads
pieces_of_lines_by-requires-clause-quads g c =
    λ _ _.
    ap (λ ts. list_all (is_quad_within ts) c.parts-parts.result.quads.now) (c.as_slice.ensures.value ∙ c.in_ok-texts.ensures.texts)
    ∙ quads_within c.parts-parts.result.terms.now c.args.tag c.parts-parts.result.quads.now ∙ c.parts-parts.ensures.within.0

pub pieces_of_lines_by-requires-clause-names : goal.pieces_of_lines_by-requires-clause-names
pieces_of_lines_by-requires-clause-names g c =
    λ _ _.
    ap (λ ts. list_all (is_within ts) c.parts-parts.result.names.now) (c.as_slice.ensures.value ∙ c.in_ok-texts.ensures.texts)
    ∙ names_within c.parts-parts.result.terms.now c.args.tag c.parts-parts.result.names.now ∙ c.parts-parts.ensures.within.1

pub returns : goal.returns
returns g c =
    let texts_are = c.as_slice.ensures.value ∙ c.in_ok-texts.ensures.texts in
    let terms = c.parts-parts.result.terms.now in
    let placed = c.parts-parts.result.quads.now in
    c.in_ok-pieces.ensures
    ∙ ap (flat_map ended) (ap (set_of text_cmp)
    (ap (λ ts. map (quad_text_at ts) placed ++ map (graph_line_at ts) (filter (λ p. not (contains nat_eq c.in_ok-texts.full p)) c.parts-parts.result.names.now)) texts_are
    ∙ lines_are terms c.args.tag c.parts-parts.ensures.once c.quads_name_their_graphs.ensures placed c.parts-parts.ensures.within.0
    (λ p. contains nat_eq c.in_ok-texts.full p) c.in_ok-texts.ensures.full c.parts-parts.result.names.now c.parts-parts.ensures.within.1))
    ∙ canonical_is c.sets_pass_alike.ensures.quads c.sets_pass_alike.ensures.names c.quads_name_their_graphs.ensures c.args.dataset.now
    (map (quad_at terms) placed) (map (term_at terms) c.parts-parts.result.names.now) c.args.tag
    (ap (λ (d : Dataset Term). d.quads) c.parts-parts.ensures.parts) (ap (λ (d : Dataset Term). d.names) c.parts-parts.ensures.parts)
