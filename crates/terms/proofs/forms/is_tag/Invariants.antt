use Rattle.std.proofs.Common.{◌≡◌, length}
use Rattle.iris.specs.Forms.{is_tag, is_tag_from}
use Rattle.terms.specs.Tag.{place_of}
use Rattle.terms.proofs.forms.is_tag.Given as goal

abbrev pub invariant-loop-first : goal.invariant-loop-first
invariant-loop-first l = is_tag_from (place_of l.place) l.rest ≡ is_tag l.text

abbrev pub decreases-loop-first : goal.decreases-loop-first
decreases-loop-first l = length l.rest
