-- What reading gives, against the grammar.
use Rattle.std.specs.Prelude.{◌≡◌, List, Some}
use Rattle.lexer.specs.declared.token.Token.{Token}
use Rattle.productions.specs.Steps.{Production, Reader}

-- what is in the grammar is read, where this follows
abbrev pub AgainBefore : {A : Type 0} → (List Token → Type 0) → Reader A → Production A → Type 0
AgainBefore {A} After item P = (ts : List Token) (x : A) (rest : List Token) → P ts x rest → After rest → item ts ≡ Some (x, rest)
