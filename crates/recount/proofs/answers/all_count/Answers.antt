use Rattle.std.proofs.Common.{sym, ap, ◌∙◌}
use Rattle.std.specs.List.{list_all}
use Rattle.std.proofs.lemmas.List.Folds.{list_all-map}
use Rattle.dict.specs.Dictionary.{is_known}
use Rattle.quad_lists.specs.Known.{quad_of}
use Rattle.quad_lists.specs.Part.{quads_of_part}
use Rattle.recount.specs.Counted.{counts}
use Rattle.recount.proofs.answers.all_count.Goals as goal

pub returns-in-Narrow : goal.returns-in-Narrow
returns-in-Narrow c =
    let count = counts (is_known c.args.dict.now) c.args.pattern.now in
    c.all_known_count.ensures ∙ sym (list_all-map count quad_of c.in-Narrow.known.now)
    ∙ ap (λ quads. list_all count (quads_of_part quads)) (sym c.in-Narrow.is)
