-- Lists that `filter_map` gives, one more element at a time.
use Rattle.std.specs.Prelude.{filter_map}
use Rattle.std.specs.List.{cons_option}
use Rattle.std.proofs.Common.{◌≡◌, List, [], ◌∷◌, ◌++◌, Option, Some, None, sym, ap, ◌∙◌, append-nil, append_assoc}
use Rattle.std.proofs.lemmas.List.Elements.{filter_map-append}

module _ {A B : Type 0} (f : A → Option B) where
  -- a loop's step where f gives something
  pub mapped_more : (now base : List B) (xs : List A) (x : A) (y : B) → f x ≡ Some y → now ≡ base ++ filter_map f xs → now ++ y ∷ [] ≡ base ++ filter_map f (xs ++ x ∷ [])
  mapped_more now base xs x y e h =
      ap (λ z. z ++ y ∷ []) h ∙ append_assoc base (filter_map f xs) (y ∷ [])
      ∙ ap (λ z. base ++ z) (ap (λ o. filter_map f xs ++ cons_option o []) (sym e) ∙ sym (filter_map-append f xs (x ∷ [])))

  -- a loop's step where f gives nothing
  pub mapped_same : (now base : List B) (xs : List A) (x : A) → f x ≡ None → now ≡ base ++ filter_map f xs → now ≡ base ++ filter_map f (xs ++ x ∷ [])
  mapped_same now base xs x e h =
      h ∙ ap (λ z. base ++ z) (sym (append-nil _) ∙ ap (λ o. filter_map f xs ++ cons_option o []) (sym e) ∙ sym (filter_map-append f xs (x ∷ [])))
