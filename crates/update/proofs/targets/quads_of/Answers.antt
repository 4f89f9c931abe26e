use Rattle.std.proofs.Common.{sym, ap, subst, ◌∙◌}
use Rattle.datasets.specs.declared.read.Read.TheVariants.{Scan}
use Rattle.datasets.specs.Id.{id_order}
use Rattle.datasets.specs.Dataset.{matches}
use Rattle.std.specs.Prelude.{filter}
use Rattle.asking.specs.Near.{is_near_target}
use Rattle.reads.specs.Reads.{applied}
use Rattle.update.specs.Asked.{AskedQuads}
use Rattle.update.specs.Known.{is_free_scan, or_told}
use Rattle.update.specs.Graphs.{quads_of, whole}
use Rattle.update.proofs.GraphEffects.{scanned_of}
use Rattle.update.proofs.GraphNearness.{scan_near, quads_near}
use Rattle.update.proofs.ToldReads.{noted_any}
use Rattle.asking.proofs.Notes.{goes_short, goes_as}
use Rattle.update.proofs.targets.quads_of.Goals as goal

pub returns-in_err-found-clause-goes : goal.returns-in_err-found-clause-goes
returns-in_err-found-clause-goes g c =
    let t = c.args.target.now in
    goes_as _ c.from_residual.ensures.1 (c.in_err-found.ensures.goes (is_near_target id_order t) (ap (λ p. is_near_target id_order t (Scan p)) (c.whole-pattern.ensures ∙ ap whole c.place_of.ensures) ∙ scan_near t))

pub returns-clause-goes : goal.returns-clause-goes
returns-clause-goes g c =
    let t = c.args.target.now in
    c.in_ok-found.ensures.goes (is_near_target id_order t) (ap (λ p. is_near_target id_order t (Scan p)) (c.whole-pattern.ensures ∙ ap whole c.place_of.ensures) ∙ scan_near t)

pub returns-clause-seen : goal.returns-clause-seen
returns-clause-seen g c d a =
    let t = c.args.target.now in
    let D = applied c.args.changes.now d in
    c.among.ensures
    ∙ ap (quads_of t) (c.in_ok-quads.ensures ∙ c.as_slice.ensures.value ∙ c.in_ok-found.ensures.seen d a ∙ ap (λ p. filter (matches id_order p) D.quads) (c.whole-pattern.ensures ∙ ap whole c.place_of.ensures))
    ∙ scanned_of t D.quads

pub returns-clause-within : goal.returns-clause-within
returns-clause-within g c =
    let t = c.args.target.now in
    let notes = c.scan.new.notes.items in
    let whole_of_it = c.whole-pattern.ensures ∙ ap whole c.place_of.ensures in
    subst (AskedQuads (or_told (is_near_target id_order t) notes)) (sym c.among.ensures)
    (quads_near t notes (λ e. noted_any is_free_scan (Scan c.whole-pattern.result) c.args.notes.now.items notes c.in_ok-found.ensures.noted (ap (λ p. is_free_scan (Scan p)) whole_of_it ∙ e)) c.in_ok-quads.quads.items)

pub returns-in_err-quads-clause-goes : goal.returns-in_err-quads-clause-goes
returns-in_err-quads-clause-goes g c =
    let t = c.args.target.now in
    goes_short _ c.from_residual-in_err-quads.ensures.1 (c.in_ok-found.ensures.goes (is_near_target id_order t) (ap (λ p. is_near_target id_order t (Scan p)) (c.whole-pattern.ensures ∙ ap whole c.place_of.ensures) ∙ scan_near t))
