use Rattle.std.proofs.Common.{◌≡◌, [], ◌∷◌, Ok, sym, ap, subst, ◌∙◌}
use Rattle.sets.specs.Sets.{set_of}
use Rattle.datasets.specs.Id.{id_order}
use Rattle.datasets.specs.Dataset.{quad_order}
use Rattle.algebra.specs.declared.update.GraphOperation.TheVariants as graphs
use Rattle.asking.specs.Near.{is_near_graphs}
use Rattle.reads.specs.Reads.{Delta, applied}
use Rattle.reads.proofs.Changes.{rises}
use Rattle.update.specs.Asked.{AskedNames, IsWithin}
use Rattle.update.proofs.GraphEffects.{created_is, exists_is}
use Rattle.update.proofs.GraphNearness.{name_near, parts_within}
use Rattle.asking.proofs.Notes.{goes_short, goes_as}
use Rattle.update.proofs.graphs.created.Goals as goal

pub returns-in_err-exists-clause-goes : goal.returns-in_err-exists-clause-goes
returns-in_err-exists-clause-goes g c = goes_as _ c.from_residual.ensures.1 (c.in_err-exists.ensures.goes (is_near_graphs id_order (graphs.Create c.args.name)) (name_near c.args.name))

pub returns-then-exists-clause-goes : goal.returns-then-exists-clause-goes
returns-then-exists-clause-goes g c = c.in_ok-exists.ensures.goes (is_near_graphs id_order (graphs.Create c.args.name)) (name_near c.args.name)

pub returns-then-exists-clause-effect : goal.returns-then-exists-clause-effect
returns-then-exists-clause-effect g c d a = exists_is c.args.name (applied c.args.changes.now d) (sym (c.in_ok-exists.ensures.seen d a) ∙ c.if-exists.true)

pub returns-in_err-there-clause-goes : goal.returns-in_err-there-clause-goes
returns-in_err-there-clause-goes g c = goes_short _ c.from_residual-in_err-there.ensures.1 (c.in_ok-exists.ensures.goes (is_near_graphs id_order (graphs.Create c.args.name)) (name_near c.args.name))

pub returns-in_err-own-clause-goes : goal.returns-in_err-own-clause-goes
returns-in_err-own-clause-goes g c = goes_short _ c.from_residual-in_err-own.ensures.1 (c.in_ok-exists.ensures.goes (is_near_graphs id_order (graphs.Create c.args.name)) (name_near c.args.name))

pub returns-clause-goes : goal.returns-clause-goes
returns-clause-goes g c = c.in_ok-exists.ensures.goes (is_near_graphs id_order (graphs.Create c.args.name)) (name_near c.args.name)

pub returns-clause-effect : goal.returns-clause-effect
returns-clause-effect g c d a =
    let D = applied c.args.changes.now d in
    let Q = quad_order id_order in
    let made = c.in_ok-own.ensures in
    let own : c.in_ok-own.own ≡ record { present = []; absent = []; there = set_of id_order (c.args.name ∷ []); gone = [] } =
    λ i. record {
      present = (made.present ∙ ap (set_of Q) c.new.ensures.items) i;
      absent = (made.absent ∙ ap (set_of Q) c.new-2.ensures.items) i;
      there = (made.there ∙ ap (set_of id_order) c.in_ok-there.ensures) i;
      gone = (made.gone ∙ ap (set_of id_order) c.new-3.ensures.items) i;
    } in
    ap (λ (z : Delta). Ok (applied z D)) own ∙ created_is c.args.name D (rises c.args.changes.now d) (sym (c.in_ok-exists.ensures.seen d a) ∙ c.if-exists.false)

pub returns-clause-within : goal.returns-clause-within
returns-clause-within g c =
    let near = is_near_graphs id_order (graphs.Create c.args.name) in
    let Q = quad_order id_order in
    let made = c.in_ok-own.ensures in
    let own : c.in_ok-own.own ≡ record { present = []; absent = []; there = set_of id_order c.in_ok-there.there.items; gone = [] } =
    λ i. record {
      present = (made.present ∙ ap (set_of Q) c.new.ensures.items) i;
      absent = (made.absent ∙ ap (set_of Q) c.new-2.ensures.items) i;
      there = made.there i;
      gone = (made.gone ∙ ap (set_of id_order) c.new-3.ensures.items) i;
    } in
    subst (IsWithin near) (sym own) (parts_within near [] [] c.in_ok-there.there.items [] tt tt (subst (AskedNames near) (sym c.in_ok-there.ensures) (name_near c.args.name, tt)) tt)
