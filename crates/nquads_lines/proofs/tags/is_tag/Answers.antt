use Rattle.std.proofs.Common.{sym, ap, ◌∙◌, map, List, ℕ, ◌∷◌}
use Rattle.std.specs.Char.{to_ascii_lowercase}
use Rattle.iris.specs.Forms.{is_tag_from}
use Rattle.nquads_lines.specs.TagPlaces.{place_of}
use Rattle.terms.proofs.FormLaws.{tag_goes_on}
use Rattle.nquads_lines.proofs.tags.is_tag.Goals as goal

pub loop-first-preserved : goal.loop-first-preserved
loop-first-preserved c =
    sym (tag_goes_on (place_of c.loop-first.place) (place_of c.in-Some-next.next) c.to_ascii_lowercase.result (map to_ascii_lowercase c.in-Some.tail.now) c.in-Some-next.ensures)
    ∙ ap (λ (b : ℕ). is_tag_from (place_of c.loop-first.place) (b ∷ map to_ascii_lowercase c.in-Some.tail.now)) c.to_ascii_lowercase.ensures.value
    ∙ ap (λ (bytes : List ℕ). is_tag_from (place_of c.loop-first.place) (map to_ascii_lowercase bytes)) (sym c.in-Some.ensures.cases.0) ∙ c.loop-first.invariant
