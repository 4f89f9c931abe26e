use Rattle.std.proofs.Common.{◌≡◌, true, Ok, map, sym, ap, subst, ◌∙◌}
use Rattle.std.proofs.lemmas.Bool.{or_left}
use Rattle.sets.specs.Sets.{set_of}
use Rattle.datasets.specs.Id.{id_order}
use Rattle.datasets.specs.Dataset.{quad_order}
use Rattle.algebra.specs.declared.update.GraphOperation.TheVariants as graphs
use Rattle.meaning.specs.GraphOperations.{in_graph}
use Rattle.asking.specs.Near.{is_near_graphs, is_near_target}
use Rattle.reads.specs.Reads.{Delta, Read, applied}
use Rattle.reads.proofs.Changes.{rises, nothing_changed}
use Rattle.update.specs.Asked.{AskedNames, AskedQuads, IsWithin}
use Rattle.update.specs.Known.{or_told}
use Rattle.update.specs.Graphs.{quads_of, leaving, is_target_there}
use Rattle.update.proofs.GraphEffects.{same_is, not_transferred, transferred_is, transfer_change, quads_of_one}
use Rattle.update.proofs.GraphNearness.{first_near, second_near, come_near, leaving_near, put_near, asked_more, named_more, parts_within}
use Rattle.update.proofs.ToldReads.{or_told_on, or_told_at}
use Rattle.asking.proofs.Notes.{goes_on, goes_within, goes_short, goes_as, agreed}
use Rattle.update.proofs.graphs.transferred.Goals as goal
use Rattle.update.proofs.Nearness.{no_change_within}

pub returns-then-is_same_graph-clause-effect : goal.returns-then-is_same_graph-clause-effect
returns-then-is_same_graph-clause-effect g c d a =
    let D = applied c.args.changes.now d in
    ap (λ (z : Delta). Ok (applied z D)) c.new.ensures ∙ ap Ok (nothing_changed D (rises c.args.changes.now d))
    ∙ same_is c.args.how c.args.from c.args.to D (sym c.is_same_graph.ensures ∙ c.if-is_same_graph.true)

pub returns-then-is_same_graph-clause-within : goal.returns-then-is_same_graph-clause-within
returns-then-is_same_graph-clause-within g c =
    let near = or_told (is_near_graphs id_order (graphs.Transfer c.args.how c.args.from c.args.to)) c.args.notes.now.items in
    subst (IsWithin near) (sym c.new.ensures) (no_change_within near)

pub returns-in_err-exists-clause-goes : goal.returns-in_err-exists-clause-goes
returns-in_err-exists-clause-goes g c =
    let how = c.args.how in
    let from = c.args.from in
    let to = c.args.to in
    goes_as _ c.from_residual.ensures.1 (goes_within (λ r e. first_near how from to r (ap (λ t. is_near_target id_order t r) (sym c.target_of-first.ensures) ∙ e)) c.in_err-exists.ensures.goes)

pub returns-then-not-exists-clause-goes : goal.returns-then-not-exists-clause-goes
returns-then-not-exists-clause-goes g c =
    let how = c.args.how in
    let from = c.args.from in
    let to = c.args.to in
    goes_within (λ r e. first_near how from to r (ap (λ t. is_near_target id_order t r) (sym c.target_of-first.ensures) ∙ e)) c.in_ok-exists.ensures.goes

pub returns-then-not-exists-clause-effect : goal.returns-then-not-exists-clause-effect
returns-then-not-exists-clause-effect g c d a =
    let D = applied c.args.changes.now d in
    not_transferred c.args.how c.args.from c.args.to D (sym c.is_same_graph.ensures ∙ c.if-is_same_graph.false)
    (ap (is_target_there D) (sym c.target_of-first.ensures) ∙ sym (c.in_ok-exists.ensures.seen d a) ∙ c.if-not-exists.true)

pub returns-in_err-found-clause-goes : goal.returns-in_err-found-clause-goes
returns-in_err-found-clause-goes g c =
    let how = c.args.how in
    let from = c.args.from in
    let to = c.args.to in
    goes_as _ c.from_residual-in_err-found.ensures.1 (goes_on (goes_within (λ r e. first_near how from to r (ap (λ t. is_near_target id_order t r) (sym c.target_of-first.ensures) ∙ e)) c.in_ok-exists.ensures.goes)
    (goes_within (λ r e. first_near how from to r (ap (λ t. is_near_target id_order t r) (sym c.target_of-first.ensures) ∙ e)) c.in_err-found.ensures.goes))

pub returns-in_err-come-clause-goes : goal.returns-in_err-come-clause-goes
returns-in_err-come-clause-goes g c =
    let how = c.args.how in
    let from = c.args.from in
    let to = c.args.to in
    goes_short _ c.from_residual-in_err-come.ensures.1 (goes_on (goes_within (λ r e. first_near how from to r (ap (λ t. is_near_target id_order t r) (sym c.target_of-first.ensures) ∙ e)) c.in_ok-exists.ensures.goes)
    (goes_within (λ r e. first_near how from to r (ap (λ t. is_near_target id_order t r) (sym c.target_of-first.ensures) ∙ e)) c.in_ok-found.ensures.goes))

pub returns-in_err-gone-clause-goes : goal.returns-in_err-gone-clause-goes
returns-in_err-gone-clause-goes g c =
    let how = c.args.how in
    let from = c.args.from in
    let to = c.args.to in
    goes_as _ c.from_residual-in_err-gone.ensures.1 (goes_on (goes_within (λ r e. first_near how from to r (ap (λ t. is_near_target id_order t r) (sym c.target_of-first.ensures) ∙ e)) c.in_ok-exists.ensures.goes)
    (goes_on (goes_within (λ r e. first_near how from to r (ap (λ t. is_near_target id_order t r) (sym c.target_of-first.ensures) ∙ e)) c.in_ok-found.ensures.goes)
    (goes_within (λ r e. second_near how from to r (ap (λ t. is_near_target id_order t r) (sym c.target_of-second.ensures) ∙ e)) c.in_err-gone.ensures.goes)))

pub returns-in_err-there-clause-goes : goal.returns-in_err-there-clause-goes
returns-in_err-there-clause-goes g c =
    let how = c.args.how in
    let from = c.args.from in
    let to = c.args.to in
    goes_short _ c.from_residual-in_err-there.ensures.1 (goes_on (goes_within (λ r e. first_near how from to r (ap (λ t. is_near_target id_order t r) (sym c.target_of-first.ensures) ∙ e)) c.in_ok-exists.ensures.goes)
    (goes_on (goes_within (λ r e. first_near how from to r (ap (λ t. is_near_target id_order t r) (sym c.target_of-first.ensures) ∙ e)) c.in_ok-found.ensures.goes)
    (goes_within (λ r e. second_near how from to r (ap (λ t. is_near_target id_order t r) (sym c.target_of-second.ensures) ∙ e)) c.in_ok-gone.ensures.goes)))

pub returns-in_err-names-clause-goes : goal.returns-in_err-names-clause-goes
returns-in_err-names-clause-goes g c =
    let how = c.args.how in
    let from = c.args.from in
    let to = c.args.to in
    goes_short _ c.from_residual-in_err-names.ensures.1 (goes_on (goes_within (λ r e. first_near how from to r (ap (λ t. is_near_target id_order t r) (sym c.target_of-first.ensures) ∙ e)) c.in_ok-exists.ensures.goes)
    (goes_on (goes_within (λ r e. first_near how from to r (ap (λ t. is_near_target id_order t r) (sym c.target_of-first.ensures) ∙ e)) c.in_ok-found.ensures.goes)
    (goes_within (λ r e. second_near how from to r (ap (λ t. is_near_target id_order t r) (sym c.target_of-second.ensures) ∙ e)) c.in_ok-gone.ensures.goes)))

pub returns-in_err-own-clause-goes : goal.returns-in_err-own-clause-goes
returns-in_err-own-clause-goes g c =
    let how = c.args.how in
    let from = c.args.from in
    let to = c.args.to in
    goes_short _ c.from_residual-in_err-own.ensures.1 (goes_on (goes_within (λ r e. first_near how from to r (ap (λ t. is_near_target id_order t r) (sym c.target_of-first.ensures) ∙ e)) c.in_ok-exists.ensures.goes)
    (goes_on (goes_within (λ r e. first_near how from to r (ap (λ t. is_near_target id_order t r) (sym c.target_of-first.ensures) ∙ e)) c.in_ok-found.ensures.goes)
    (goes_within (λ r e. second_near how from to r (ap (λ t. is_near_target id_order t r) (sym c.target_of-second.ensures) ∙ e)) c.in_ok-gone.ensures.goes)))

pub returns-clause-goes : goal.returns-clause-goes
returns-clause-goes g c =
    let how = c.args.how in
    let from = c.args.from in
    let to = c.args.to in
    goes_on (goes_within (λ r e. first_near how from to r (ap (λ t. is_near_target id_order t r) (sym c.target_of-first.ensures) ∙ e)) c.in_ok-exists.ensures.goes)
    (goes_on (goes_within (λ r e. first_near how from to r (ap (λ t. is_near_target id_order t r) (sym c.target_of-first.ensures) ∙ e)) c.in_ok-found.ensures.goes)
    (goes_within (λ r e. second_near how from to r (ap (λ t. is_near_target id_order t r) (sym c.target_of-second.ensures) ∙ e)) c.in_ok-gone.ensures.goes))

pub returns-clause-effect : goal.returns-clause-effect
returns-clause-effect g c d a =
    let how = c.args.how in
    let from = c.args.from in
    let to = c.args.to in
    let D = applied c.args.changes.now d in
    let Q = quad_order id_order in
    let made = c.in_ok-own.ensures in
    let second = agreed c.in_ok-gone.ensures.goes d a in
    let found = c.in_ok-found.ensures.seen d second ∙ ap (λ t. quads_of t D.quads) c.target_of-first.ensures ∙ quads_of_one from D.quads in
    let others = ap (λ t. quads_of t D.quads) c.target_of-second.ensures ∙ quads_of_one to D.quads in
    let come = c.in_ok-come.ensures ∙ ap (map (in_graph id_order to)) (c.deref.ensures.value ∙ found) in
    let gone = c.in_ok-gone.ensures.seen d a ∙ (λ i. leaving how (found i) (others i)) in
    let own : c.in_ok-own.own ≡ transfer_change how from to D =
    λ i. record {
      present = (made.present ∙ ap (set_of Q) come) i;
      absent = (made.absent ∙ ap (set_of Q) gone) i;
      there = (made.there ∙ ap (set_of id_order) c.in_ok-there.ensures) i;
      gone = (made.gone ∙ ap (set_of id_order) c.in_ok-names.ensures) i;
    } in
    ap (λ (z : Delta). Ok (applied z D)) own
    ∙ transferred_is how from to D (rises c.args.changes.now d) (sym c.is_same_graph.ensures ∙ c.if-is_same_graph.false)
    (ap (is_target_there D) (sym c.target_of-first.ensures) ∙ sym (c.in_ok-exists.ensures.seen d (agreed c.in_ok-found.ensures.goes d second)) ∙ c.if-not-exists.false)

pub returns-clause-within : goal.returns-clause-within
returns-clause-within g c =
    let how = c.args.how in
    let from = c.args.from in
    let to = c.args.to in
    let op = graphs.Transfer how from to in
    let one = is_near_graphs id_order op in
    let near = or_told one c.leaving.new.notes.items in
    let made = c.in_ok-own.ensures in
    let own : c.in_ok-own.own ≡ record { present = set_of (quad_order id_order) c.in_ok-come.come.items; absent = set_of (quad_order id_order) c.in_ok-gone.gone.items; there = set_of id_order c.in_ok-there.there.items; gone = set_of id_order c.in_ok-names.names.items } =
    λ i. record { present = made.present i; absent = made.absent i; there = made.there i; gone = made.gone i } in
    let first = λ (r : Read) (e : is_near_target id_order c.target_of-first.result r ≡ true). first_near how from to r (ap (λ t. is_near_target id_order t r) (sym c.target_of-first.ensures) ∙ e) in
    let second = λ (r : Read) (e : is_near_target id_order c.target_of-second.result r ≡ true). second_near how from to r (ap (λ t. is_near_target id_order t r) (sym c.target_of-second.ensures) ∙ e) in
    let come = subst (AskedQuads near) (sym c.in_ok-come.ensures) (asked_more one near (λ r e. or_left _ _ e) _ (put_near how from to c.deref.result.now)) in
    let found = asked_more (or_told (is_near_target id_order c.target_of-first.result) c.quads_of.new.notes.items) near (or_told_on c.in_ok-gone.ensures.goes (is_near_target id_order c.target_of-first.result) one first) c.in_ok-found.found.items c.in_ok-found.ensures.within in
    let gone = c.in_ok-gone.ensures.within near (or_told_at (is_near_target id_order c.target_of-second.result) one second c.leaving.new.notes.items) found in
    subst (IsWithin near) (sym own)
    (parts_within near c.in_ok-come.come.items c.in_ok-gone.gone.items c.in_ok-there.there.items c.in_ok-names.names.items come gone
    (subst (AskedNames near) (sym c.in_ok-there.ensures) (named_more one near (λ r e. or_left _ _ e) _ (come_near how from to)))
    (subst (AskedNames near) (sym c.in_ok-names.ensures) (named_more one near (λ r e. or_left _ _ e) _ (leaving_near how from to))))
