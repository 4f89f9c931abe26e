-- Terms that a request writes.
use Rattle.std.specs.Prelude.{Bool, ◌||◌}
use Rattle.terms.specs.declared.term.Term.{Term}
use Rattle.terms.specs.Term.{is_iri, is_literal}

-- an IRI or a literal, so no blank node, made or written
abbrev pub is_name_or_literal : Term → Bool
is_name_or_literal t = is_iri t || is_literal t
