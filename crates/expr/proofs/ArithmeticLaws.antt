-- Results that fit, and arithmetic on what is read.
use Rattle.std.proofs.Common.{◌≡◌, ℕ, suc, ◌<◌, ◌^◌, Bool, true, false, ℤ, pos, negsuc, refl, sym, ap, ◌∙◌, arith}
use Rattle.std.specs.Prelude.{Option, Some, None, option_and_then, if◌then◌else◌}
use Rattle.std.specs.Option.{option_map, SomeIff}
use Rattle.std.specs.Int.RustNames.{FitsSigned}
use Rattle.std.proofs.lemmas.Int.{ints, to_z-of_z}
use mir.Syntax.{w64}
use mir.Val.{to_z, of_z}
use Rattle.terms.specs.declared.term.Term.{Term}
use Rattle.values.specs.Readings.{Reading, Number, fits_64, read_as}
use Rattle.values.specs.Values.{integer, if_fits, arithmetic, strict}
use Rattle.expr.specs.Numerals.{number_pair}
use Rattle.expr.specs.Outcomes.{of_readings}
use Rattle.expr.proofs.NumeralLaws.{pos_fits, fits_pos, negative_fits, fits_negative}

pub fits_told : (z : ℤ) → FitsSigned w64 z → fits_64 z ≡ true
fits_told (pos n) h = let small : n < 2 ^ 63 = omega (arith, ints) in pos_fits n small
fits_told (negsuc n) h = let small : n < 2 ^ 63 = omega (arith, ints) in negative_fits (suc n) (omega arith)

fits_tells : (z : ℤ) → fits_64 z ≡ true → FitsSigned w64 z
fits_tells (pos n) h = record { sfits = fits_pos n h }
fits_tells (negsuc n) h = let small = fits_negative (suc n) h in record { sfits = omega arith }

pub fit_is : (r : Option ℤ) (z : ℤ) → SomeIff r (FitsSigned w64 z) z → option_map integer r ≡ if_fits z
fit_is (Some x) z h = ap (λ y. Some (integer y)) h.1 ∙ sym (ap (λ b. if b then Some (integer z) else None) (fits_told z h.0))
fit_is None z h = cases (fits_64 z) refl
  where
    cases : (b : Bool) → fits_64 z ≡ b → None ≡ (if b then Some (integer z) else None)
    cases true e = absurd (h (fits_tells z e))
    cases false e = refl

module _ (f : ℤ → ℤ → ℤ) where
  pub calculated_read : (r s : Reading) → option_and_then (λ (p : ℤ × ℤ). if_fits (f p.0 p.1)) (number_pair r s) ≡ arithmetic f r s
  calculated_read (Number a) (Number b) = refl
  calculated_read r s = refl

  calculated_by : (o : Option (ℤ × ℤ)) (a b : Option Term) → o ≡ of_readings number_pair a b → option_and_then (λ (p : ℤ × ℤ). if_fits (f p.0 p.1)) o ≡ strict (λ s t. arithmetic f (read_as s) (read_as t)) a b
  calculated_by o None b h = ap (option_and_then (λ (p : ℤ × ℤ). if_fits (f p.0 p.1))) h
  calculated_by o (Some s) None h = ap (option_and_then (λ (p : ℤ × ℤ). if_fits (f p.0 p.1))) h
  calculated_by o (Some s) (Some t) h = ap (option_and_then (λ (p : ℤ × ℤ). if_fits (f p.0 p.1))) h ∙ calculated_read (read_as s) (read_as t)

  -- with the numbers as the code passes them
  pub calculated : (a b : Option Term) (x y : ℤ) (r : Option ℤ) → FitsSigned w64 x → FitsSigned w64 y → Some (x, y) ≡ of_readings number_pair a b → SomeIff r (FitsSigned w64 (f (to_z w64 (of_z w64 x)) (to_z w64 (of_z w64 y)))) (f (to_z w64 (of_z w64 x)) (to_z w64 (of_z w64 y))) → option_map integer r ≡ strict (λ s t. arithmetic f (read_as s) (read_as t)) a b
  calculated a b x y r left right found given =
      fit_is r (f (to_z w64 (of_z w64 x)) (to_z w64 (of_z w64 y))) given ∙ ap (λ u. if_fits (f u (to_z w64 (of_z w64 y)))) (to_z-of_z w64 x left)
      ∙ ap (λ u. if_fits (f x u)) (to_z-of_z w64 y right) ∙ calculated_by (Some (x, y)) a b found
