use Rattle.std.proofs.Common.{◌<◌, ◌^◌, length, subst, sym}
use Rattle.rules.specs.Refusal.{IsRefusal}
use Rattle.rules.proofs.VerdictLaws.{verdict_judged, unread_checked}
use Rattle.rules.proofs.request.judged.Goals as goal

pub refusal_of_long-requires : goal.refusal_of_long-requires
refusal_of_long-requires c = subst (λ text. 2 ^ 20 < length text) (sym c.as_bytes.ensures.value) c.if-text-gt-MOST_WHOLE.true

pub returns-then-text-gt-MOST_WHOLE : goal.returns-then-text-gt-MOST_WHOLE
returns-then-text-gt-MOST_WHOLE c = subst (λ text. IsRefusal text c.in_ok-refusal_of_long.field-0) c.as_bytes.ensures.value c.in_ok-refusal_of_long.ensures

pub returns-in-Some : goal.returns-in-Some
returns-in-Some c = verdict_judged _ _ c.in-Some.syntax _ c.in_ok-syntax.ensures c.in-Some.is c.first_fault.ensures

pub returns-in-None : goal.returns-in-None
returns-in-None c = unread_checked _ _ c.in_ok-syntax.ensures c.in-None.is
