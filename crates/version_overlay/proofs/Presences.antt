-- Whether a quad is there has one answer.
use Rattle.std.proofs.Common.{◌≡◌, Bool, true, false, sym, ◌∙◌}
use Rattle.datasets.specs.declared.id.Id.{Id}
use Rattle.datasets.specs.declared.quad.Quad.{Quad}
use Rattle.reads.specs.Reads.{Answer}
use Rattle.reads.specs.Same.{bool_eq}
use Rattle.reads.specs.Presence.{presence}

pub told_same : (q : Quad Id) (told there same : Bool) (x : Answer) → presence q told ≡ x → same ≡ bool_eq told there
    → (same ≡ true → presence q there ≡ x) × (presence q there ≡ x → same ≡ true)
told_same q true true same x e is = (λ h. e, λ f. is)
told_same q false false same x e is = (λ h. e, λ f. is)
told_same q true false same x e is = (λ h. absurd (let wrong : false ≡ true = sym is ∙ h in cc), λ f. absurd (let wrong = e ∙ sym f in cc))
told_same q false true same x e is = (λ h. absurd (let wrong : false ≡ true = sym is ∙ h in cc), λ f. absurd (let wrong = e ∙ sym f in cc))
