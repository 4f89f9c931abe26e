use Rattle.std.proofs.Common.{◌≡◌, [], Ok, sym, ap, subst, ◌∙◌}
use Rattle.sets.specs.Sets.{set_of}
use Rattle.datasets.specs.Id.{id_order}
use Rattle.datasets.specs.Dataset.{quad_order}
use Rattle.asking.specs.Near.{is_near_target}
use Rattle.reads.specs.Reads.{Delta, applied}
use Rattle.reads.proofs.Changes.{rises}
use Rattle.update.specs.Asked.{IsWithin}
use Rattle.update.specs.Known.{or_told}
use Rattle.update.specs.Graphs.{quads_of}
use Rattle.update.proofs.GraphEffects.{cleared_is, not_cleared}
use Rattle.update.proofs.GraphNearness.{parts_within}
use Rattle.asking.proofs.Notes.{goes_on, goes_short, goes_as, agreed}
use Rattle.update.proofs.graphs.cleared.Goals as goal

pub returns-then-not-exists-clause-effect : goal.returns-then-not-exists-clause-effect
returns-then-not-exists-clause-effect g c d a = not_cleared c.args.target.now (applied c.args.changes.now d) (sym (c.in_ok-exists.ensures.seen d a) ∙ c.if-not-exists.true)

pub returns-in_err-quads-clause-goes : goal.returns-in_err-quads-clause-goes
returns-in_err-quads-clause-goes g c = goes_as _ c.from_residual-in_err-quads.ensures.1 (goes_on c.in_ok-exists.ensures.goes c.in_err-quads.ensures.goes)

pub returns-in_err-own-clause-goes : goal.returns-in_err-own-clause-goes
returns-in_err-own-clause-goes g c = goes_short _ c.from_residual-in_err-own.ensures.1 (goes_on c.in_ok-exists.ensures.goes c.in_ok-quads.ensures.goes)

pub returns-clause-goes : goal.returns-clause-goes
returns-clause-goes g c = goes_on c.in_ok-exists.ensures.goes c.in_ok-quads.ensures.goes

pub returns-clause-effect : goal.returns-clause-effect
returns-clause-effect g c d a =
    let t = c.args.target.now in
    let D = applied c.args.changes.now d in
    let Q = quad_order id_order in
    let made = c.in_ok-own.ensures in
    let own : c.in_ok-own.own ≡ record { present = []; absent = set_of Q (quads_of t D.quads); there = []; gone = [] } =
    λ i. record {
      present = (made.present ∙ ap (set_of Q) c.new.ensures.items) i;
      absent = (made.absent ∙ ap (set_of Q) (c.in_ok-quads.ensures.seen d a)) i;
      there = (made.there ∙ ap (set_of id_order) c.new-2.ensures.items) i;
      gone = (made.gone ∙ ap (set_of id_order) c.new-3.ensures.items) i;
    } in
    ap (λ (z : Delta). Ok (applied z D)) own
    ∙ cleared_is t D (rises c.args.changes.now d) (sym (c.in_ok-exists.ensures.seen d (agreed c.in_ok-quads.ensures.goes d a)) ∙ c.if-not-exists.false)

pub returns-clause-within : goal.returns-clause-within
returns-clause-within g c =
    let near = or_told (is_near_target id_order c.args.target.now) c.quads_of.new.notes.items in
    let Q = quad_order id_order in
    let made = c.in_ok-own.ensures in
    let own : c.in_ok-own.own ≡ record { present = []; absent = set_of Q c.in_ok-quads.quads.items; there = []; gone = [] } =
    λ i. record {
      present = (made.present ∙ ap (set_of Q) c.new.ensures.items) i;
      absent = made.absent i;
      there = (made.there ∙ ap (set_of id_order) c.new-2.ensures.items) i;
      gone = (made.gone ∙ ap (set_of id_order) c.new-3.ensures.items) i;
    } in
    subst (IsWithin near) (sym own) (parts_within near [] c.in_ok-quads.quads.items [] [] tt c.in_ok-quads.ensures.within tt tt)
