use Rattle.std.proofs.Common.{◌∙◌, subst, ◌++◌, ◌∷◌}
use Rattle.update.specs.Known.{scans_for_untold, Tell}
use Rattle.asking.proofs.Notes.{first_of}
use Rattle.update.proofs.KnownQuads.{first_known, first_noted}
use Rattle.update.proofs.presence.told_first.Goals as goal

pub returns-in-Some : goal.returns-in-Some
returns-in-Some c d quads later t = first_known c.args.known.now c.args.quad.now quads later c.args.notes.now d c.in-Some.so c.in-Some.ensures t

pub returns-in-len1-up : goal.returns-in-len1-up
returns-in-len1-up c d quads later t =
    let all = subst (λ ns. Tell c.args.known.now (scans_for_untold c.args.known.now (c.args.quad.now ∷ quads) ++ later) ns d) (first_of c.args.notes.now c.first-item.result c.first-item.is c.in-len1-up.len_at_least) t in
    let first = first_noted c.args.known.now c.args.quad.now quads later c.first-item.result _ d c.in-None.ensures all in
    (c.has_quads.ensures ∙ first.0, first.1)
