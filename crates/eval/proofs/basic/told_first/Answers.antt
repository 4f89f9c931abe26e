use Rattle.std.proofs.Common.{◌∷◌, refl, ap, subst, ◌∙◌}
use Rattle.std.specs.Prelude.{filter}
use Rattle.datasets.specs.Dataset.{matches}
use Rattle.datasets.specs.Id.{id_order}
use Rattle.meaning.specs.Solutions.{solutions_among}
use Rattle.reads.specs.Reads.{applied}
use Rattle.asking.proofs.Notes.{first_of}
use Rattle.eval.specs.Changes.{seen_through}
use Rattle.eval.specs.Scans.{TellScans, scan_of}
use Rattle.eval.proofs.Lots.{told_one}
use Rattle.eval.proofs.Scanned.{solutions_scanned}
use Rattle.eval.proofs.Seen.{scan_seen}
use Rattle.eval.proofs.basic.told_first.Goals as goal

pub returns : goal.returns
returns g c d later told =
    let width = c.args.query.now.width in
    let changes = c.args.query.now.changes.now in
    let wanted = scan_of c.args.pattern.now c.args.graph in
    let found = filter (matches id_order wanted) d.quads in
    let all = subst (λ ns. TellScans (c.args.pattern.now ∷ later) c.args.graph ns d) (first_of c.args.notes.now c.first-item.result c.first-item.is c.in-len1-up.len_at_least) told in
    let one = told_one c.args.pattern.now later c.args.graph c.first-item.result _ d all in (
      c.in_ok-found.ensures
          ∙ ap (solutions_among id_order width c.args.pattern.now)
          (c.as_slice.ensures.value ∙ c.in_ok-quads.ensures found one.0 ∙ ap (λ p. seen_through changes p found) c.scan_of-wanted.ensures ∙ scan_seen wanted changes d found refl)
          ∙ solutions_scanned width c.args.pattern.now c.args.graph (applied changes d).quads,
      one.1,
    )
