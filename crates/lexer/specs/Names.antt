-- The forms of prefixed names, variables and words. (SPARQL 1.1 Query, 19.8, productions 140 and
-- 141 of prefixed names and 166 of variables, in this profile: ASCII letters, digits, `_`, and in
-- names `-`.)
use Rattle.std.specs.Prelude.{ℕ, ◌≡◌, ◌==◌, ◌||◌, Bool, true, List, [], ◌∷◌}
use Rattle.std.specs.List.{list_all}
use Rattle.iris.specs.Iri.{is_letter, is_digit}

-- a letter, a digit, `_` or `-`
abbrev pub is_name_byte : ℕ → Bool
is_name_byte b = is_letter b || is_digit b || (b == 95) || (b == 45)

abbrev pub is_local_start : ℕ → Bool
is_local_start b = is_letter b || is_digit b || (b == 95)

-- where there are any, a letter is first
abbrev pub IsPrefix : List ℕ → Type 0
IsPrefix [] = Unit {0}
IsPrefix (b ∷ bs) = (is_letter b ≡ true) × (list_all is_name_byte bs ≡ true)

-- where there are any, a `-` isn't first
abbrev pub IsLocal : List ℕ → Type 0
IsLocal [] = Unit {0}
IsLocal (b ∷ bs) = (is_local_start b ≡ true) × (list_all is_name_byte bs ≡ true)

-- a letter or `_`
abbrev pub is_variable_start : ℕ → Bool
is_variable_start b = is_letter b || (b == 95)

-- a letter, a digit or `_`
abbrev pub is_variable_byte : ℕ → Bool
is_variable_byte b = is_letter b || is_digit b || (b == 95)

abbrev pub IsVariable : List ℕ → Type 0
IsVariable [] = ⊥
IsVariable (b ∷ bs) = (is_variable_start b ≡ true) × (list_all is_variable_byte bs ≡ true)

abbrev pub IsWord : List ℕ → Type 0
IsWord [] = ⊥
IsWord (b ∷ bs) = (is_letter b ≡ true) × (list_all is_letter bs ≡ true)

-- one digit or more
abbrev pub AreDigits : List ℕ → Type 0
AreDigits [] = ⊥
AreDigits (b ∷ bs) = list_all is_digit (b ∷ bs) ≡ true
