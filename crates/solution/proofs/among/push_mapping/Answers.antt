use Rattle.std.specs.List.{cons_option}
use Rattle.std.proofs.Common.{◌++◌, [], sym, ap, ◌∙◌, append-nil}
use Rattle.solution.proofs.among.push_mapping.Goals as goal

pub returns-in-None : goal.returns-in-None
returns-in-None c =
    sym (append-nil c.args.found.now.items) ∙ ap (λ o. c.args.found.now.items ++ cons_option o []) (sym c.in-None.is ∙ c.in_ok-mapping.ensures)
