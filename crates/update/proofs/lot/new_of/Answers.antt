use Rattle.std.specs.Prelude.{filter, IfOk, Result, Ok, Err}
use Rattle.std.proofs.Common.{◌≡◌, ◌++◌, List, [], ap, ◌∙◌}
use Rattle.sets.specs.Sets.{has, set_of, without}
use Rattle.datasets.specs.declared.id.Id.{Id}
use Rattle.datasets.specs.declared.quad.Quad.{Quad}
use Rattle.datasets.specs.Dataset.{quad_order}
use Rattle.datasets.specs.Id.{id_order}
use Rattle.reads.specs.Reads.{View, Delta}
use Rattle.update.specs.Changed.{IsNewOf}
use Rattle.update.specs.Known.{scans_for_untold, questions_for_untold}
use Rattle.update.proofs.KnownQuads.{tell_no_more}
use Rattle.update.proofs.Members.{behind_none}
use Rattle.update.proofs.lot.new_of.Goals as goal

-- what was found of each kind is what is new of it
new_is : {E : Type 0} (r : Result Delta E) (asked : Delta) (come lost : List (Quad Id)) (named unnamed : List Id) (Told : View → Type 0)
    → IfOk r (λ x. x.present ≡ set_of (quad_order id_order) come)
    → IfOk r (λ x. x.absent ≡ set_of (quad_order id_order) lost)
    → IfOk r (λ x. x.there ≡ set_of id_order named)
    → IfOk r (λ x. x.gone ≡ set_of id_order unnamed)
    → ((d : View) → Told d → (come ≡ without (quad_order id_order) asked.present d.quads) × (lost ≡ filter (has (quad_order id_order) d.quads) asked.absent)
    × (named ≡ without id_order asked.there d.names) × (unnamed ≡ filter (has id_order d.names) asked.gone))
    → IfOk r (λ change. (d : View) → Told d → IsNewOf change asked d)
new_is (Ok change) asked come lost named unnamed Told present absent there gone found = λ d t. record {
  present = present ∙ ap (set_of (quad_order id_order)) (found d t).0;
  absent = absent ∙ ap (set_of (quad_order id_order)) (found d t).1;
  there = there ∙ ap (set_of id_order) (found d t).2;
  gone = gone ∙ ap (set_of id_order) (found d t).3;
}
new_is (Err e) asked come lost named unnamed Told present absent there gone found = tt

pub returns : goal.returns
returns c =
    let k = c.args.known.now in
    let names = questions_for_untold k c.args.there.now ++ questions_for_untold k c.args.gone.now in
    new_is c.from_parts.result (record { present = c.args.present.now; absent = c.args.absent.now; there = c.args.there.now; gone = c.args.gone.now }) _ _ _ _ _
    c.from_parts.ensures.present c.from_parts.ensures.absent c.from_parts.ensures.there c.from_parts.ensures.gone
    (λ d t.
    let come = c.in_ok-left.ensures d (scans_for_untold k c.args.absent.now ++ names) t in
    let lost = c.in_ok-left-2.ensures d names come.1 in
    let named = c.in_ok-left-3.ensures d (questions_for_untold k c.args.gone.now) lost.1 in
    let unnamed = c.in_ok-_none.ensures d [] (tell_no_more _ _ _ _ named.1) in
    (behind_none _ _ _ come.0 c.in_ok-come.ensures.items, behind_none _ _ _ lost.0 c.new-lost.ensures.items, behind_none _ _ _ named.0 c.new-named.ensures.items, behind_none _ _ _ unnamed.0 c.new-unnamed.ensures.items))
