use Rattle.std.proofs.Common.{◌≡◌, ◌∙◌, List, ap, arith, true, false, get_or}
use Rattle.std.specs.Prelude.{Bool}
use Rattle.version_overlay.specs.Seen.{slot_of, is_seen}
use Rattle.version_overlay.proofs.Filtering.{still_set, set_within}
use Rattle.version_overlay.proofs.seen.SeenTerms.put.Goals as goal
use Rattle.version_overlay.proofs.seen.SeenTerms.put.Goals.{then-slot-len+in_ok-resize, else-slot-len}

pub returns-clause-kept : goal.returns-clause-kept
returns-clause-kept c x e =
    let was : get_or c.self.inside.slots.items (slot_of x) false ≡ true = ap (λ (slots : List Bool). is_seen slots x) c.self.view_is ∙ e in
    let within = set_within c.self.inside.slots.items (slot_of x) was in
    let count = c.self.inside.slots.ok.0 in
    still_set c.if-slot-len.self-inside.slots.items c.slot_of-slot.result (slot_of x) (elim c.if-slot-len.branch [
      | then-slot-len+in_ok-resize w ↦ (λ i. get_or (w.self-inside-is i).slots.items (slot_of x) false) ∙ w.in_ok-resize.ensures.by_index.0 (slot_of x) false (omega arith) (omega arith) ∙ was
      | else-slot-len w ↦ (λ i. get_or (w.self-inside-is i).slots.items (slot_of x) false) ∙ was
    ])
