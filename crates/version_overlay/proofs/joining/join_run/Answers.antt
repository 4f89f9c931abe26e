use Rattle.std.proofs.Common.{arith, ap, ◌∙◌}
use Rattle.std.specs.List.{slice_range}
use Rattle.reads.specs.Reads.{applied}
use Rattle.version_overlay.specs.Settled.{changed_by}
use Rattle.version_overlay.proofs.Neighbours.{one_for, joined_once}
use Rattle.version_overlay.proofs.joining.join_run.Goals as goal

pub returns-clause-same : goal.returns-clause-same
returns-clause-same c d =
    let first = c.args.first in
    let past = c.args.past in
    ap (λ xs. changed_by xs d) c.replace.ensures.items
    ∙ one_for c.args.levels.now.items first past c.put_in_order.new.self (omega (arith, c.requires.some))
    (λ v. ap (λ x. applied x v) (c.put_in_order.ensures ∙ c.new-one.ensures) ∙ c.in_ok-change.ensures v ∙ ap (λ xs. changed_by (slice_range xs first past) v) c.deref.ensures.value) d

pub returns-clause-joined : goal.returns-clause-joined
returns-clause-joined c =
    joined_once c.args.levels.now.items c.replace.new.levels.items c.args.first c.args.past c.put_in_order.new.self (omega (arith, c.requires.some)) c.replace.ensures.items
