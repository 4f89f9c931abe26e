-- Whether an event is sound depends on the terms and the block alone.
use Rattle.std.proofs.Common.{◌≡◌, Some, None, ap, sym, subst, ◌∙◌}
use Rattle.std.specs.Prelude.{slice_get}
use Rattle.dict.specs.Dictionary.{is_known, numbers}
use Rattle.meaning.specs.Run.{answer_of}
use Rattle.delta.specs.Sound.{IsSoundFor}
use Rattle.incarnations.specs.declared.state.Event.{Event}
use Rattle.incarnations.specs.declared.state.Event.TheVariants.{Take, Read, Publish, Begin, Check, Commit, GiveUp}
use Rattle.book.specs.Run.{Run, IsSoundEvent}

pub still_sound : (p q : Run) (e : Event) → q.terms ≡ p.terms → q.block ≡ p.block → IsSoundEvent p e → IsSoundEvent q e
still_sound p q (Publish i n (Some run)) terms block h =
    λ r there. subst (λ ts. IsSoundFor (is_known ts) (answer_of (numbers ts) i r) run) (sym terms)
    (h r (sym (ap (λ b. slice_get b i) block) ∙ there))
still_sound p q (Publish i n None) terms block h = tt
still_sound p q (Take i) terms block h = tt
still_sound p q (Read i n read) terms block h = tt
still_sound p q (Begin i n) terms block h = tt
still_sound p q (Check i n) terms block h = tt
still_sound p q (Commit i) terms block h = tt
still_sound p q (GiveUp i n) terms block h = tt
