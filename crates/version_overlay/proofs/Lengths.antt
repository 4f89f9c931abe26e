-- Which answers are long.
use Rattle.std.proofs.Common.{◌≡◌, ◌≤◌, List, Some, None, length, sym, ap, subst}
use Rattle.std.proofs.lemmas.Bool.{false≢true}
use Rattle.std.specs.Option.{is_some, unwrap_or}
use Rattle.datasets.specs.declared.id.Id.{Id}
use Rattle.datasets.specs.declared.quad.Quad.{Quad}
use Rattle.datasets.specs.Dataset.{Quads, Is, Names}
use Rattle.reads.specs.Reads.{Answer, told_quads, told_names}
use Rattle.version_overlay.specs.WholeNote.{IsLong}

pub quads_long : (x : Answer) (quads : List (Quad Id)) → told_quads x ≡ Some quads → (64 ≤ length quads → IsLong x) × (IsLong x → 64 ≤ length quads)
quads_long (Quads own) quads e =
    let same : own ≡ quads = ap (λ o. unwrap_or o own) e in
    (λ h. subst (λ xs. 64 ≤ length xs) (sym same) h, λ h. subst (λ xs. 64 ≤ length xs) same h)
quads_long (Is so) quads e = absurd (false≢true (ap is_some e))
quads_long (Names own) quads e = absurd (false≢true (ap is_some e))

pub names_long : (x : Answer) (names : List Id) → told_names x ≡ Some names → (64 ≤ length names → IsLong x) × (IsLong x → 64 ≤ length names)
names_long (Names own) names e =
    let same : own ≡ names = ap (λ o. unwrap_or o own) e in
    (λ h. subst (λ xs. 64 ≤ length xs) (sym same) h, λ h. subst (λ xs. 64 ≤ length xs) same h)
names_long (Is so) names e = absurd (false≢true (ap is_some e))
names_long (Quads own) names e = absurd (false≢true (ap is_some e))

pub none_long : (x : Answer) → told_quads x ≡ None → told_names x ≡ None → IsLong x → ⊥
none_long (Is so) no_quads no_names h = h
none_long (Quads own) no_quads no_names h = absurd (false≢true (sym (ap is_some no_quads)))
none_long (Names own) no_quads no_names h = absurd (false≢true (sym (ap is_some no_names)))
