-- Whether a term has a number.
use Rattle.std.specs.Prelude.{Bool, not, ◌||◌, List}
use Rattle.sets.specs.Sets.{has}
use Rattle.terms.specs.declared.term.Term.{Term}
use Rattle.terms.specs.Term.{term_order}
use Rattle.dict.specs.Dictionary.{is_written}

-- it is a made node, or a term of the dictionary
abbrev pub is_held : List Term → Term → Bool
is_held terms t = not (is_written t) || has term_order terms t
