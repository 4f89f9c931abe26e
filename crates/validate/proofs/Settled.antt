-- No settled request is an estimate.
use Rattle.std.proofs.Common.{◌≡◌, ℕ, zero, suc, ◌<◌, ◌≤◌, Bool, true, false, ◌&&◌, List, Some, None, refl, ap, ◌∙◌, arith}
use Rattle.std.specs.Prelude.{if◌then◌else◌}
use Rattle.std.proofs.lemmas.Bool.{false≢true}
use Rattle.reads.specs.Reads.{Delta, Read, covers}
use Rattle.incarnations.specs.declared.state.Slot.{Slot as KeptSlot}
use Rattle.incarnations.specs.declared.state.Status.{Status}
use Rattle.incarnations.specs.declared.state.Status.TheVariants.{Ready, Executing, Executed, Committed as HasCommitted}
use Rattle.incarnations.specs.Statuses.{is_closed}
use Rattle.validate.specs.Below.{slot_at, blocker}
use Rattle.validate.specs.Kept.{shown, may_estimate, IsKept}

settled_calm : (st : Status) → is_closed (Some st) ≡ true → may_estimate st ≡ false
settled_calm (HasCommitted n) e = refl
settled_calm (Ready n) e = absurd (false≢true e)
settled_calm (Executing n w) e = absurd (false≢true e)
settled_calm (Executed n) e = absurd (false≢true e)

module _ (xs : List KeptSlot) (low : ℕ) (published : Read → Bool) (settled : List Delta) (k : IsKept xs low published settled) where
  pub none_below : (n : ℕ) (read : Read) → n ≤ low → blocker (shown xs) n read ≡ None
  unfolding blocker
  none_below zero read le = refl
  none_below (suc n) read le =
      let lt : n < low = omega arith in
      let below : n ≤ low = omega arith in
      let calm = k.calm n (settled_calm (slot_at (shown xs) n).status (k.closed n lt)) in
      ap (λ e. if e && covers (slot_at (shown xs) n).delta read then Some n else blocker (shown xs) n read) calm ∙ none_below n read below
