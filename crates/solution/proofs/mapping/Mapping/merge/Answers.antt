use Rattle.std.proofs.Common.{◌≡◌, ◌∙◌, rules}
use Rattle.std.proofs.lemmas.Slice.Zip.{either_empty_from_Zip}
use Rattle.meaning.specs.Mapping.{merge as the_merge}
use Rattle.solution.proofs.Places.{merge_over}
use Rattle.solution.proofs.mapping.Mapping.merge.Goals as goal

pub returns : goal.returns
returns c =
    let e = either_empty_from_Zip c.loop-x.x-iterator c.next.new.self c.next.result c.in-None.is c.next.ensures.steps in
    let p : c.into_iter-x-iterator.result.a.rest.now ≡ c.args.self.now = search rules in
    let q : c.into_iter-x-iterator.result.b.rest.now ≡ c.args.other.now = search rules in
    merge_over c.loop-x.places.items _ _ _ e c.loop-x.invariant ∙ (λ i. the_merge (p i) (q i))
