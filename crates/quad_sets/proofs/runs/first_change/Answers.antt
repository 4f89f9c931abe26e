use Rattle.std.proofs.Common.{refl}
use Rattle.quad_sets.proofs.RunLaws.{none_below, none_goes_first}
use Rattle.quad_sets.proofs.runs.first_change.Goals as goal
use Rattle.quad_sets.proofs.runs.first_change.Goals.{in_default-via-in-Some+else-is_below, in_default-via-in_default}

pub returns-in_ok-value-in_default-clause-first : goal.returns-in_ok-value-in_default-clause-first
returns-in_ok-value-in_default-clause-first g c =
    let comes = c.in_ok-value-in_default in (
      refl,
      comes.ensures.cases.0,
      elim c.in_default.branch [
        | in_default-via-in-Some+else-is_below w ↦ none_goes_first g.met.T.Ord.total w.in-Some.value.now comes.value.now c.args.gone.now c.args.more.now w.in-Some.later.now comes.later.now
            w.in-Some.ensures.cases.0 comes.ensures.cases.0 c.requires.gone c.requires.more w.if-is_below.ensures
        | in_default-via-in_default w ↦ none_below g.met.T.Ord.total comes.value.now c.args.gone.now w.in_default.ensures.cases
      ],
    )
