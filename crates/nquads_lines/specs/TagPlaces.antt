-- Where in a language tag code is.
use Rattle.iris.specs.Forms.{InTag, start, first, dash, later}
use Rattle.nquads_lines.specs.declared.tags.TagPlace.{TagPlace}
use Rattle.nquads_lines.specs.declared.tags.TagPlace.TheVariants.{Start, First, Dash, Later}

abbrev pub place_of : TagPlace → InTag
place_of Start = start
place_of First = first
place_of Dash = dash
place_of Later = later
