use Rattle.std.specs.Prelude.{Bool, true, false, not, ◌↔◌, IsTrue}
use Rattle.std.proofs.Common.{◌≡◌, List, [], ◌∷◌, Some, refl, ap, ◌∙◌}
use Rattle.std.proofs.lemmas.Bool.{false≢true}
use Rattle.datasets.specs.declared.id.Id.{Id}
use Rattle.datasets.specs.declared.quad.Quad.{Quad}
use Rattle.datasets.specs.Dataset.{Quads, Is, Names}
use Rattle.reads.specs.Reads.{Answer, told_quads}
use Rattle.reads.proofs.Asked.{or_none}
use Rattle.update.specs.Asked.{has_quads}
use Rattle.update.proofs.presence.has_quads.Goals as goal

some_is : (b : Bool) (quads : List (Quad Id)) → (IsTrue b ↔ (quads ≡ [])) → not b ≡ has_quads (Quads quads)
some_is true [] h = refl
some_is false [] h = absurd (false≢true (h.1 refl))
some_is true (q ∷ quads) h = absurd (let none : q ∷ quads ≡ [] = h.0 refl in cc)
some_is false (q ∷ quads) h = refl

has_is : (b : Bool) (quads : List (Quad Id)) (a : Answer) → Some quads ≡ told_quads a → (IsTrue b ↔ (quads ≡ [])) → not b ≡ has_quads a
has_is b quads (Quads found) e h = some_is b quads h ∙ ap (λ (qs : List (Quad Id)). has_quads (Quads qs)) (ap or_none e)
has_is b quads (Is so) e h = absurd (cc)
has_is b quads (Names names) e h = absurd (cc)

pub returns-in-Some : goal.returns-in-Some
returns-in-Some c = has_is c.is_empty.result c.in-Some.quads.now c.args.answer.now c.in-Some.ensures c.is_empty.ensures
