-- Values of expressions, by what their sides are read as.
use Rattle.std.proofs.Common.{◌≡◌, Bool, true, false, ℤ, refl, sym, ap, ◌∙◌}
use Rattle.std.specs.Prelude.{Option, Some, None, not, option_and_then, unwrap_or}
use Rattle.std.specs.Option.{option_map}
use Rattle.std.specs.declared.cmp.Ordering.{Ordering}
use Rattle.std.specs.Ordering.{is_eq}
use Rattle.terms.specs.declared.term.Term.{Term}
use Rattle.algebra.specs.declared.expression.OneOperator.TheVariants as one
use Rattle.values.specs.Readings.{Reading, read_as}
use Rattle.values.specs.Values.{truth_of, effective_of, value_order, decided, is_equal, same_or_unknown, strict, is_ordered, text_length, one_value, is_true}
use Rattle.expr.specs.Outcomes.{of_two, of_readings}

pub effective_some : (v : Option Term) (r : Reading) → Some r ≡ option_map read_as v → truth_of r ≡ effective_of v
effective_some None r h = (cc)
effective_some (Some t) r h = let e : r ≡ read_as t = cc in ap truth_of e

pub effective_none : (v : Option Term) → None ≡ option_map read_as v → None ≡ effective_of v
effective_none None h = refl
effective_none (Some t) h = (cc)

module _ {B : Type 0} (f : Term → Term → Option B) where
  pub two_left : (a b : Option Term) → None ≡ a → None ≡ of_two f a b
  two_left None b h = refl
  two_left (Some x) b h = (cc)

  pub two_right : (a b : Option Term) → None ≡ b → None ≡ of_two f a b
  two_right None b h = refl
  two_right (Some x) None h = refl
  two_right (Some x) (Some y) h = (cc)

  pub two_some : (a b : Option Term) (x y : Term) → Some x ≡ a → Some y ≡ b → f x y ≡ of_two f a b
  two_some a b x y p q = ap (λ c. of_two f c (Some y)) p ∙ ap (λ c. of_two f a c) q

module _ {B : Type 0} (f : Reading → Reading → Option B) where
  pub readings_left : (a b : Option Term) → None ≡ option_map read_as a → None ≡ of_readings f a b
  readings_left None b h = refl
  readings_left (Some x) b h = (cc)

  pub readings_right : (a b : Option Term) → None ≡ option_map read_as b → None ≡ of_readings f a b
  readings_right None b h = refl
  readings_right (Some x) None h = refl
  readings_right (Some x) (Some y) h = (cc)

  pub readings_some : (a b : Option Term) (r s : Reading) → Some r ≡ option_map read_as a → Some s ≡ option_map read_as b → f r s ≡ of_readings f a b
  readings_some None b r s p q = (cc)
  readings_some (Some x) None r s p q = (cc)
  readings_some (Some x) (Some y) r s p q =
      let e : r ≡ read_as x = cc in
      let d : s ≡ read_as y = cc in
      ap (λ u. f u s) e ∙ ap (λ u. f (read_as x) u) d

-- ---- equality

pub equal_ordered : (a b : Option Term) (o : Ordering) → Some o ≡ of_readings value_order a b → Some (is_eq o) ≡ of_two is_equal a b
equal_ordered None b o h = (cc)
equal_ordered (Some x) None o h = (cc)
equal_ordered (Some x) (Some y) o h = ap (decided x y) h

pub equal_unordered : (a b : Option Term) (x y : Term) → None ≡ of_readings value_order a b → Some x ≡ a → Some y ≡ b → same_or_unknown x y ≡ of_two is_equal a b
equal_unordered a b x y h p q =
    let left : None ≡ of_readings value_order (Some x) (Some y) = h ∙ ap (λ c. of_readings value_order c b) (sym p) ∙ ap (λ c. of_readings value_order (Some x) c) (sym q) in
    ap (decided x y) left ∙ two_some is_equal a b x y p q

-- ---- functions of one value

pub length_some : (v : Option Term) (r : Reading) → Some r ≡ option_map read_as v → text_length r ≡ option_and_then (λ t. text_length (read_as t)) v
length_some None r h = (cc)
length_some (Some t) r h = let e : r ≡ read_as t = cc in ap text_length e

pub length_none : (v : Option Term) → None ≡ option_map read_as v → None ≡ option_and_then (λ t. text_length (read_as t)) v
length_none None h = refl
length_none (Some t) h = (cc)

pub is_true_or : (o : Option Bool) → unwrap_or o false ≡ is_true o
is_true_or None = refl
is_true_or (Some b) = refl
