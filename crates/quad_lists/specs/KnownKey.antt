-- Keys of quads of known terms, by the numbers of their terms.
use Rattle.quad_lists.specs.Keys.{key_by}
use Rattle.quad_lists.specs.Known.{known_graph}
use Rattle.quad_lists.specs.declared.key.Key.{Key}
use Rattle.quad_lists.specs.declared.known_key.KnownKey.{KnownKey}

-- the key that these numbers are
abbrev pub key_of_numbers : KnownKey → Key
key_of_numbers k = key_by (known_graph k.first) (known_graph k.second) (known_graph k.third) (known_graph k.fourth)
