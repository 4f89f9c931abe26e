-- Where a text occurs in another.
use Rattle.std.proofs.Common.{◌≡◌, Bool, true, false, ℕ, suc, List, [], ◌∷◌, ◌++◌, length, take, drop, inl, inr, refl, ap}
use Rattle.std.specs.Prelude.{◌⊎◌, ◌||◌, MatchBool, Option, Some, None, nat_eq}
use Rattle.std.specs.Option.{option_map}
use Rattle.std.specs.List.{starts_with}
use Rattle.std.specs.Str.Iter.{HasSubslice}
use Rattle.std.specs.Str.Pattern.{HasMatch, FindsText}
use Rattle.std.proofs.lemmas.Str.Pattern.{contains_text}
use Rattle.std.proofs.lemmas.Slice.Eq.{starts_is}
use Rattle.std.proofs.lemmas.Bool.Decides.{Decides-eqb}
use Rattle.std.proofs.lemmas.Bool.{or_cases, or_left, or_right}
use Rattle.std.specs.Cmp.{both_ways}
use Rattle.terms.specs.declared.term.Term.{Term}
use Rattle.values.specs.Values.{occurs_in, truth, text_pair, strict, on_texts}
use Rattle.expr.specs.Outcomes.{of_readings}

starts_told : (s p : List ℕ) → starts_with nat_eq s p ≡ true → s ≡ p ++ drop (length p) s
starts_told s p h = (starts_is Decides-eqb s p (starts_with nat_eq s p) refl).0 h

starts_tells : (s p rest : List ℕ) → s ≡ p ++ rest → starts_with nat_eq s p ≡ true
starts_tells s p rest h = (starts_is Decides-eqb s p (starts_with nat_eq s p) refl).1 rest h

occurs_told : (s p : List ℕ) → occurs_in s p ≡ true → HasSubslice s p
occurs_told [] p h = ([], drop (length p) [], starts_told [] p h)
occurs_told (c ∷ cs) p h = cases (or_cases (starts_with nat_eq (c ∷ cs) p) (occurs_in cs p) h) (λ e. occurs_told cs p e)
  where
    cases : (starts_with nat_eq (c ∷ cs) p ≡ true) ⊎ (occurs_in cs p ≡ true) → (occurs_in cs p ≡ true → HasSubslice cs p) → HasSubslice (c ∷ cs) p
    cases (inl e) later = ([], drop (length p) (c ∷ cs), starts_told (c ∷ cs) p e)
    cases (inr e) later = let at = later e in (c ∷ at.0, at.1, ap (λ (xs : List ℕ). c ∷ xs) at.2)

occurs_tells : (s p a b : List ℕ) → s ≡ a ++ (p ++ b) → occurs_in s p ≡ true
occurs_tells [] p [] b h = starts_tells [] p b h
occurs_tells [] p (x ∷ a) b h = (cc)
occurs_tells (c ∷ cs) p [] b h = or_left (starts_with nat_eq (c ∷ cs) p) (occurs_in cs p) (starts_tells (c ∷ cs) p b h)
occurs_tells (c ∷ cs) p (x ∷ a) b h =
    let rest : cs ≡ a ++ (p ++ b) = cc in
    or_right (starts_with nat_eq (c ∷ cs) p) (occurs_in cs p) (occurs_tells cs p a b rest)

pub occurs : (r : Bool) (p s : List ℕ) → MatchBool r (HasMatch (FindsText p) s) (FindsText p s None) → r ≡ occurs_in s p
occurs r p s h =
    let found = contains_text r p s h in
    both_ways r (occurs_in s p) (λ e. let at = found.0 e in occurs_tells s p at.0 at.1 at.2) (λ e. found.1 (occurs_told s p e))

-- ---- tests of two texts
