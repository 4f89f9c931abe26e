use Rattle.std.proofs.Common.{sym, ap, ◌∙◌}
use Rattle.iris.specs.Forms.{is_tag_from}
use Rattle.terms.specs.Tag.{place_of}
use Rattle.terms.proofs.FormLaws.{tag_goes_on}
use Rattle.terms.proofs.forms.is_tag.Goals as goal

pub loop-first-preserved : goal.loop-first-preserved
loop-first-preserved c =
    sym (tag_goes_on (place_of c.loop-first.place) (place_of c.in-Some-next.next) c.in-Some.first.now c.in-Some.tail.now c.in-Some-next.ensures)
    ∙ ap (is_tag_from (place_of c.loop-first.place)) (sym c.in-Some.ensures.cases.0) ∙ c.loop-first.invariant
