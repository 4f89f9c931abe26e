use Rattle.std.proofs.Common.{refl, ap, ◌∙◌}
use Rattle.std.specs.Prelude.{◌++◌}
use Rattle.terms.specs.DataSet.{united}
use Rattle.terms.proofs.PlacedLaws.{on_error, same_placed, same_dataset}
use Rattle.terms.proofs.UniteLaws.{united_dataset, united_placed}
use Rattle.terms.proofs.dataset.DataSet.unite_by.Goals as goal

pub invariant_of-self : goal.invariant_of-self
invariant_of-self g c =
    same_placed c.self.inside.terms c.parts_in_by.new.terms c.in_err-quads.ensures.kept
    c.self.inside.quads.items c.self.inside.quads.items c.self.inside.names.items c.self.inside.names.items c.self.invariant refl refl

pub returns-in_err-quads-clause-err : goal.returns-in_err-quads-clause-err
returns-in_err-quads-clause-err g c =
    on_error c.from_residual.result
    (same_dataset c.self.inside.terms c.parts_in_by.new.terms c.in_err-quads.ensures.kept
    c.self.inside.quads.items c.self.inside.quads.items c.self.inside.names.items c.self.inside.names.items c.self.invariant refl refl ∙ c.self.view_is)

pub invariant_of-self-in_err-append_both : goal.invariant_of-self-in_err-append_both
invariant_of-self-in_err-append_both g c =
    same_placed c.self.inside.terms c.parts_in_by.new.terms c.in_ok-quads.ensures.kept
    c.self.inside.quads.items c.append_both.new.quads.items c.self.inside.names.items c.append_both.new.names.items c.self.invariant
    c.in_err-append_both.ensures.err.0 c.in_err-append_both.ensures.err.1

pub returns-in_err-append_both-clause-err : goal.returns-in_err-append_both-clause-err
returns-in_err-append_both-clause-err g c =
    on_error c.from_residual-in_err-append_both.result
    (same_dataset c.self.inside.terms c.parts_in_by.new.terms c.in_ok-quads.ensures.kept
    c.self.inside.quads.items c.append_both.new.quads.items c.self.inside.names.items c.append_both.new.names.items c.self.invariant
    c.in_err-append_both.ensures.err.0 c.in_err-append_both.ensures.err.1 ∙ c.self.view_is)

pub invariant_of-self-2 : goal.invariant_of-self-2
invariant_of-self-2 g c =
    united_placed c.self.inside.terms c.parts_in_by.new.terms c.in_ok-quads.ensures.kept
    c.self.inside.quads.items c.in_ok-quads.quads.items c.append_both.new.quads.items c.self.inside.names.items c.in_ok-quads.names.items c.append_both.new.names.items c.self.invariant
    c.args.other c.in_ok-quads.ensures.parts c.in_ok-quads.ensures.dataset c.in_ok-quads.ensures.within
    (c.in_ok-append_both.ensures.quads ∙ ap (λ xs. c.self.inside.quads.items ++ xs) c.as_slice.ensures.value)
    (c.in_ok-append_both.ensures.names ∙ ap (λ xs. c.self.inside.names.items ++ xs) c.as_slice-2.ensures.value)

pub returns-clause-ok : goal.returns-clause-ok
returns-clause-ok g c =
    united_dataset c.self.inside.terms c.parts_in_by.new.terms c.in_ok-quads.ensures.kept
    c.self.inside.quads.items c.in_ok-quads.quads.items c.append_both.new.quads.items c.self.inside.names.items c.in_ok-quads.names.items c.append_both.new.names.items c.self.invariant
    c.args.other c.in_ok-quads.ensures.parts c.in_ok-quads.ensures.dataset c.in_ok-quads.ensures.within
    (c.in_ok-append_both.ensures.quads ∙ ap (λ xs. c.self.inside.quads.items ++ xs) c.as_slice.ensures.value)
    (c.in_ok-append_both.ensures.names ∙ ap (λ xs. c.self.inside.names.items ++ xs) c.as_slice-2.ensures.value)
    ∙ ap (λ d. united d c.args.other) c.self.view_is
