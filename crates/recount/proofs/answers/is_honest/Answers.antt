use Rattle.std.proofs.Common.{ap, sym, ◌∙◌}
use Rattle.std.proofs.lemmas.Bool.{false≢true}
use Rattle.std.specs.List.{list_all}
use Rattle.dict.specs.Dictionary.{is_known}
use Rattle.recount.specs.Counted.{counts}
use Rattle.recount.proofs.CountedLaws.{scan_counts, scan_told, graphs_count, graphs_told}
use Rattle.recount.proofs.answers.is_honest.Goals as goal

pub returns-then-is_set : goal.returns-then-is_set
returns-then-is_set c =
    let known = is_known c.args.dict.now in
    let all = ap (list_all (counts known c.in-Scan.pattern)) (sym c.lent.ensures) ∙ sym c.all_count.ensures in (
      λ t. scan_counts known c.args.note.now c.in-Scan.pattern c.in-Some.quads.now c.in-Scan.is c.in-Some.ensures (c.is_set.ensures.0 c.if-is_set.true) (all ∙ t),
      λ h. sym all ∙ (scan_told known c.args.note.now c.in-Scan.pattern c.in-Some.quads.now c.in-Scan.is c.in-Some.ensures h).1,
    )

pub returns-else-is_set : goal.returns-else-is_set
returns-else-is_set c = (
  λ t. absurd (false≢true (sym c.if-is_set.false ∙ t)),
  λ h. c.is_set.ensures.1 (scan_told (is_known c.args.dict.now) c.args.note.now c.in-Scan.pattern c.in-Some.quads.now c.in-Scan.is c.in-Some.ensures h).0,
)

pub returns-then-is_set-2 : goal.returns-then-is_set-2
returns-then-is_set-2 c =
    let known = is_known c.args.dict.now in (
      λ t. graphs_count known c.args.note.now c.in-Some-names.names.now c.in-Graphs.is c.in-Some-names.ensures (c.is_set-in-Some-names.ensures.0 c.if-is_set-2.true) (sym c.are_known.ensures ∙ t),
      λ h. c.are_known.ensures ∙ (graphs_told known c.args.note.now c.in-Some-names.names.now c.in-Graphs.is c.in-Some-names.ensures h).1,
    )

pub returns-else-is_set-2 : goal.returns-else-is_set-2
returns-else-is_set-2 c = (
  λ t. absurd (false≢true (sym c.if-is_set-2.false ∙ t)),
  λ h. c.is_set-in-Some-names.ensures.1 (graphs_told (is_known c.args.dict.now) c.args.note.now c.in-Some-names.names.now c.in-Graphs.is c.in-Some-names.ensures h).0,
)
