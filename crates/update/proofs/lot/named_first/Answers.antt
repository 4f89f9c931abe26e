use Rattle.std.proofs.Common.{◌∙◌, sym, subst, ◌++◌, ◌∷◌}
use Rattle.update.specs.Known.{questions_for_untold, Tell}
use Rattle.asking.proofs.Notes.{first_of}
use Rattle.update.proofs.KnownQuads.{name_known, name_noted}
use Rattle.update.proofs.lot.named_first.Goals as goal

pub returns-then-has_graphs : goal.returns-then-has_graphs
returns-then-has_graphs c d names later t =
    name_known c.args.known.now c.args.name.now names later c.args.notes.now d _ c.is_graph.ensures (sym c.has_graphs.ensures ∙ c.if-has_graphs.true) t

pub returns-in-len1-up : goal.returns-in-len1-up
returns-in-len1-up c d names later t =
    let all = subst (λ ns. Tell c.args.known.now (questions_for_untold c.args.known.now (c.args.name.now ∷ names) ++ later) ns d) (first_of c.args.notes.now c.first-item.result c.first-item.is c.in-len1-up.len_at_least) t in
    let first = name_noted c.args.known.now c.args.name.now names later c.first-item.result _ d (sym c.has_graphs.ensures ∙ c.if-has_graphs.false) all in
    (c.has_name.ensures ∙ first.0, first.1)
