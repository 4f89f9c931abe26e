-- Mappings, place by place.
use Rattle.std.specs.Prelude.{◌⊎◌}
use Rattle.std.proofs.Common.{◌≡◌, [], ◌∷◌, ◌++◌, refl, sym, ap, ◌∙◌, inl, inr, append-nil}
use Rattle.meaning.specs.Mapping.{Mapping, merge}

module _ {K : Type 0} where
  merge_nothing : (a b : Mapping K) → (a ≡ []) ⊎ (b ≡ []) → merge a b ≡ []
  merge_nothing [] b e = refl
  merge_nothing (x ∷ a) [] e = refl
  merge_nothing (x ∷ a) (y ∷ b) (inl e) = absurd (cc)
  merge_nothing (x ∷ a) (y ∷ b) (inr e) = absurd (cc)

  -- where one of two is at its end, all is merged
  pub merge_over : (ps a b all : Mapping K) → (a ≡ []) ⊎ (b ≡ []) → ps ++ merge a b ≡ all → ps ≡ all
  merge_over ps a b all e h = sym (append-nil ps) ∙ ap (λ z. ps ++ z) (sym (merge_nothing a b e)) ∙ h
