-- Whether a list has the terms of another.
use Rattle.std.specs.Prelude.{◌≡◌, Bool, true, List}
use Rattle.std.specs.List.{list_all}
use Rattle.terms.specs.declared.term.Term.{Term}

-- each of these terms is among those: what holds of all of those holds of all of these
abbrev pub HasTerms : List Term → List Term → Type 0
HasTerms those these = (p : Term → Bool) → list_all p those ≡ true → list_all p these ≡ true

-- what holds of all of a list holds of all of an earlier one and of one term more
abbrev pub HasMore : List Term → List Term → Term → Type 0
HasMore earlier later t = (p : Term → Bool) → list_all p later ≡ true → (list_all p earlier ≡ true) × (p t ≡ true)
