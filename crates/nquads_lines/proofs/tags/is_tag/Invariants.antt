use Rattle.std.proofs.Common.{◌≡◌, length, map}
use Rattle.std.specs.Char.{to_ascii_lowercase}
use Rattle.iris.specs.Forms.{is_tag, is_tag_from}
use Rattle.nquads_lines.specs.TagPlaces.{place_of}
use Rattle.nquads_lines.proofs.tags.is_tag.Given as goal

abbrev pub invariant-loop-first : goal.invariant-loop-first
invariant-loop-first l = is_tag_from (place_of l.place) (map to_ascii_lowercase l.rest) ≡ is_tag (map to_ascii_lowercase l.text)

abbrev pub decreases-loop-first : goal.decreases-loop-first
decreases-loop-first l = length l.rest
