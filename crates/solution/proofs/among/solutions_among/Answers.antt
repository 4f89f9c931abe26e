use Rattle.std.specs.Prelude.{filter_map}
use Rattle.std.proofs.Common.{◌≡◌, ◌++◌, ◌∷◌, [], take, sym, ap, ◌∙◌, arith}
use Rattle.std.proofs.lemmas.List.{take_more}
use Rattle.std.proofs.lemmas.List.Elements.{filter_map-append}
use Rattle.datasets.specs.Id.{id_order}
use Rattle.meaning.specs.Solutions.{mapping_onto}
use Rattle.solution.proofs.among.solutions_among.Goals as goal

pub loop-place-preserved : goal.loop-place-preserved
loop-place-preserved c =
    let f = mapping_onto id_order c.args.width c.args.pattern.now in
    let before = take c.loop-place.place c.args.quads.now in
    let quad = c.get.result in
    c.in_ok-push_mapping.ensures
    ∙ ap (λ found. found ++ filter_map f (quad ∷ [])) c.loop-place.invariant
    ∙ sym (filter_map-append f before (quad ∷ []))
    ∙ ap (filter_map f) (ap (λ q. before ++ q ∷ []) c.get.ensures ∙ sym (take_more c.args.quads.now c.loop-place.place quad (omega (arith, c.loop-place-test.true))))
