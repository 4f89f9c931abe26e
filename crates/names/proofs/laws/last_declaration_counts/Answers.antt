use Rattle.std.specs.Prelude.{ℕ, Bool, filter, bytes_eq}
use Rattle.std.proofs.Common.{◌≡◌, true, false, cond, List, [], ◌∷◌, Option, Some, None, refl, ap, ◌∙◌}
use Rattle.std.specs.List.{fold, last_or}
use Rattle.std.specs.Option.{option_map}
use Rattle.names.specs.Names.{Prefixes, declare, namespace_of}
use Rattle.names.specs.Appearance.{last_iri, after_declarations}
use Rattle.names.proofs.AppearanceLaws.{found, is_found, found_after}
use Rattle.names.proofs.laws.last_declaration_counts.Goals as goal

abbrev Declaration : Type 0
Declaration = List ℕ × List ℕ

latest : (p : List ℕ) (ds : List Declaration) (known : Prefixes) (o : Option Declaration) → found p known ≡ option_map (λ d. d.1) o
    → found p (fold (λ k d. declare d.0 d.1 k) known ds) ≡ option_map (λ d. d.1) (last_or o (filter (λ d. bytes_eq p d.0) ds))
latest p [] known o h = h
latest p (d ∷ ds) known o h = at (latest p ds (declare d.0 d.1 known)) (bytes_eq p d.0) refl
  where
    at : ((o : Option Declaration) → found p (declare d.0 d.1 known) ≡ option_map (λ d. d.1) o
        → found p (fold (λ k d. declare d.0 d.1 k) (declare d.0 d.1 known) ds) ≡ option_map (λ d. d.1) (last_or o (filter (λ d. bytes_eq p d.0) ds))) → (b : Bool) → bytes_eq p d.0 ≡ b → found p (fold (λ k d. declare d.0 d.1 k) (declare d.0 d.1 known) ds)
        ≡ option_map (λ d. d.1) (last_or o (cond b (d ∷ filter (λ d. bytes_eq p d.0) ds) (filter (λ d. bytes_eq p d.0) ds)))
    at later true same = later (Some d) (found_after known d.0 d.1 p ∙ ap (λ b. cond b (Some d.1) (found p known)) same)
    at later false same = later o (found_after known d.0 d.1 p ∙ ap (λ b. cond b (Some d.1) (found p known)) same ∙ h)

last_counts : (ds : List Declaration) (p : List ℕ) → namespace_of (after_declarations ds) p ≡ last_iri ds p
last_counts ds p = is_found p (after_declarations ds) ∙ latest p ds [] None refl

pub returns : goal.returns
returns c = last_counts
