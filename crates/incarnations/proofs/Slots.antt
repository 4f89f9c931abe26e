-- What events make of a slot.
use Rattle.std.proofs.Common.{◌≡◌, ℕ, List, [], ◌∷◌, map, Some, None, refl}
use Rattle.incarnations.specs.declared.state.Noted.{Noted as KeptNote}
use Rattle.incarnations.specs.Slots.{Noted, Slot, begun}

-- what a pass of checks begins with
pub begun_kept : (f : KeptNote → Noted) (x : Slot) (ns : List KeptNote) (clock : ℕ) → (ns ≡ [] → ⊥) → record x { pass = Some (record { start = clock; next = 0 }); stamp = None } ≡ begun x (map f ns) clock
begun_kept f x [] clock some = absurd (some refl)
begun_kept f x (n ∷ ns) clock some = refl
