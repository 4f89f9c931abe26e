-- Productions, what reads them, and what a function that may fail answers.
use Rattle.std.specs.Prelude.{◌≡◌, ◌<◌, List, length, Option, Some, None, Result, Ok, Err}
use Rattle.lexer.specs.declared.token.Token.{Token}
use Rattle.lexer.specs.declared.stop.Stop.{Stop}
use Rattle.lexer.specs.declared.stop.Stop.TheVariants as stop

-- `P ts x rest`: the production reads x at the front of the tokens ts, and rest follows
abbrev pub Production : Type 0 → Type 1
Production A = List Token → A → List Token → Type 0

-- x and rest, or there is no reading
abbrev pub Reader : Type 0 → Type 0
Reader A = List Token → Option (A × List Token)

-- what is read is in the grammar
abbrev pub Found : {A : Type 0} → Reader A → Production A → Type 0
Found {A} item P = (ts : List Token) (x : A × List Token) → item ts ≡ Some x → P ts x.0 x.1

-- a production takes a token or more
abbrev pub Takes : {A : Type 0} → Production A → Type 0
Takes {A} P = (ts : List Token) (x : A) (rest : List Token) → P ts x rest → length rest < length ts

-- what is in the grammar is read
abbrev pub Again : {A : Type 0} → Reader A → Production A → Type 0
Again {A} item P = (ts : List Token) (x : A) (rest : List Token) → P ts x rest → item ts ≡ Some (x, rest)

-- What a function returned, seen by view, is what reading gives, unless memory ran out.
abbrev pub Fails : {Y : Type 0} → Stop → Option Y → Type 0
Fails stop.Memory read = Unit {0}
Fails stop.NoReading read = read ≡ None

abbrev pub Gives : {X Y : Type 0} → (X → Y) → Result X Stop → Option Y → Type 0
Gives view (Ok x) read = read ≡ Some (view x)
Gives view (Err e) read = Fails e read
