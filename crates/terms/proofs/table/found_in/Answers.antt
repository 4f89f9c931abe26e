use Rattle.std.proofs.Common.{ℕ, Option, sym, subst}
use Rattle.std.specs.Prelude.{IfSome}
use Rattle.terms.specs.Placed.{IsAt}
use Rattle.terms.proofs.TableLaws.{found_place}
use Rattle.terms.proofs.table.found_in.Goals as goal

pub returns : goal.returns
returns c =
    subst (λ (found : Option ℕ). IfSome found (IsAt c.args.set.now.keys c.args.term.now)) (sym c.ok.ensures.value)
    (found_place c.args.set.now.keys c.args.term.now c.in_ok-place.place c.narrowed.result c.in_ok-place.ensures.index c.narrowed.ensures)
