use Rattle.std.proofs.Common.{◌≡◌, ◌<◌, ℕ, map, length, get_or, None, sym, ap, ◌∙◌, arith}
use Rattle.std.proofs.lemmas.List.{ext_get_or, get_or-map, length-map}
use Rattle.datasets.specs.declared.quad.Quad.{Quad}
use Rattle.terms.specs.Placed.{quad_of_places}
use Rattle.terms.proofs.dataset.place_each_by.Goals as goal

-- what stands behind the end of a list
abbrev any : Quad ℕ
any = record { subject = 0; predicate = 0; object = 0; graph = None }

pub returns : goal.returns
returns g c =
    let placed = quad_of_places c.args.places.now in
    let was = c.args.quads.now in
    let now = c.par_for_each_mut.new.s in
    let long : length now ≡ length was = c.par_for_each_mut.auto.s in
    let each : (k : ℕ) → k < length now → get_or now k any ≡ get_or (map placed was) k any = λ k lt.
    let at = (c.par_for_each_mut.ensures k any (omega (arith, lt, long))).1 in
    sym at.left ∙ at.call ∙ ap placed at.argument_is ∙ sym (get_or-map placed was k any any (omega (arith, lt, long))) in
    ext_get_or any now (map placed was) (long ∙ sym (length-map was placed)) each
