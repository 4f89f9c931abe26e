use Rattle.std.specs.Prelude.{Option, IfSome}
use Rattle.std.proofs.Common.{List, sym, ◌∙◌, ◌≤◌, length, subst}
use Rattle.dict.specs.Dictionary.{numbers}
use Rattle.datasets.specs.declared.id.Id.{Id}
use Rattle.meaning.specs.Mapping.{Mapping}
use Rattle.meaning.specs.Effect.{replaced}
use Rattle.meaning.specs.Template.{instances}
use Rattle.meaning.specs.Solutions.{solutions}
use Rattle.reads.specs.Reads.{applied}
use Rattle.eval.specs.Changes.{replaced_change}
use Rattle.update.specs.Asked.{IsWithin}
use Rattle.update.proofs.Effects.{modified_is, modified_fails, few_are}
use Rattle.update.proofs.Nearness.{replaced_within}
use Rattle.update.proofs.modify.modify.Goals as goal

pub returns-clause-effect : goal.returns-clause-effect
returns-clause-effect g c d a =
    let V = numbers c.args.dict.now in
    let m = c.args.modify.now in
    let r = c.args.request in
    let o = c.args.op in
    let D = applied c.args.changes.now d in
    let found = c.in-Some.found in
    let solved = few_are V r found (solutions V.order V.passes m.width m.pattern D m.active) (sym c.in-Some.is ∙ c.in_ok-found.ensures.solved d a) in
    let few : length found ≤ 1000000 = subst (λ (o : Option (List (Mapping Id))). IfSome o (λ found. length found ≤ 1000000)) c.in-Some.is c.in_ok-found.ensures.few in
    let deleted = c.in_ok-deleted.ensures ∙ (λ i. instances V r o (c.as_slice.ensures i) (c.as_slice-2.ensures.value i)) in
    let inserted = c.in_ok-inserted.ensures ∙ (λ i. instances V r o (c.as_slice-3.ensures i) (c.as_slice-4.ensures.value i)) in
    modified_is V r o m.delete m.insert found (solutions V.order V.passes m.width m.pattern D m.active) D (applied c.in_ok-change.change d) solved few
    (c.in_ok-change.ensures.effect d ∙ (λ k. replaced V D (deleted k) (inserted k)))

pub returns-clause-within : goal.returns-clause-within
returns-clause-within g c allowed near h =
    let V = numbers c.args.dict.now in
    let m = c.args.modify.now in
    let found = c.in-Some.found in
    let deleted = c.in_ok-deleted.ensures ∙ (λ i. instances V c.args.request c.args.op (c.as_slice.ensures i) (c.as_slice-2.ensures.value i)) in
    let inserted = c.in_ok-inserted.ensures ∙ (λ i. instances V c.args.request c.args.op (c.as_slice-3.ensures i) (c.as_slice-4.ensures.value i)) in
    let is = c.in_ok-change.ensures.change ∙ (λ k. replaced_change c.args.changes.now (deleted k) (inserted k)) in
    subst (IsWithin allowed) (sym is) (replaced_within c.args.dict.now c.args.request c.args.op m allowed near c.args.changes.now found h)

pub returns-in_default-clause-effect : goal.returns-in_default-clause-effect
returns-in_default-clause-effect g c d a =
    let V = numbers c.args.dict.now in
    let m = c.args.modify.now in
    let D = applied c.args.changes.now d in
    modified_fails V c.args.request c.args.op m.delete m.insert (solutions V.order V.passes m.width m.pattern D m.active) D (sym c.in_default.is ∙ c.in_ok-found.ensures.solved d a)
