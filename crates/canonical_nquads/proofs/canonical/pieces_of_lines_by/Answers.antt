use Rattle.std.specs.HashSet.{contains}
use Rattle.std.specs.Prelude.{not, nat_eq}
use Rattle.std.proofs.Common.{List, ◌++◌, ℕ, ap, ◌∙◌, map, filter}
use Rattle.std.specs.List.{list_all, flat_map}
use Rattle.std.proofs.lemmas.List.Sorted.{IsPermutation-refl}
use Rattle.sets.specs.Sets.{set_of}
use Rattle.terms.specs.Term.{text_cmp}
use Rattle.terms.specs.Placed.{is_within}
use Rattle.canonical_nquads.specs.Canonical.{ended}
use Rattle.canonical_nquads.specs.Placed.{graph_line_at, quad_text_at}
use Rattle.canonical_nquads.proofs.RisingLaws.{same_lines, still_all}
use Rattle.canonical_nquads.proofs.canonical.pieces_of_lines_by.Goals as goal

pub rising_pieces_by-requires : goal.rising_pieces_by-requires
rising_pieces_by-requires g c =
    let texts = c.args.texts.now in (
      c.type_bounds.sync-T,
      (
        c.requires.quads,
        ap (list_all (is_within texts)) c.deref.ensures.value
            ∙ still_all (is_within texts) c.args.names.now c.in_ok-names_in_order.names_in_order.items c.in_ok-names_in_order.ensures c.requires.names,
      ),
    )

pub returns-in-Some : goal.returns-in-Some
returns-in-Some g c =
    let texts = c.args.texts.now in
    let kept = λ (name : ℕ). not (contains nat_eq c.args.full.now name) in
    let quads = c.args.quads.now in
    let text_of = λ (names : List ℕ). flat_map ended (set_of text_cmp (map (quad_text_at texts) quads ++ map (graph_line_at texts) (filter kept names))) in
    let rises = rw c.in-Some.is at c.in_ok-found.ensures in
    rises
    ∙ ap text_of c.deref.ensures.value
    ∙ ap (flat_map ended) (same_lines (quad_text_at texts) (graph_line_at texts) kept quads quads
    c.args.names.now c.in_ok-names_in_order.names_in_order.items (IsPermutation-refl quads) c.in_ok-names_in_order.ensures)
