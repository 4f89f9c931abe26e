use Rattle.std.proofs.Common.{ap, ◌∙◌}
use Rattle.rules.proofs.LongLaws.{given_up, seen_refused, seen_never_free, seen_unread}
use Rattle.rules.proofs.long.refusal_of_long.Goals as goal

pub returns-in-Some : goal.returns-in-Some
returns-in-Some c = seen_refused _ _ _ _ _ c.kinds_of_long.ensures c.in-Ok.is c.first_of.ensures c.in-Some.is

pub unreachable-requires : goal.unreachable-requires
unreachable-requires c = seen_never_free _ _ _ _ c.requires c.kinds_of_long.ensures c.in-Ok.is c.first_of.ensures c.in-None.is

pub returns-in-Err-NoReading : goal.returns-in-Err-NoReading
returns-in-Err-NoReading c = seen_unread _ _ c.kinds_of_long.ensures (c.in-Err-NoReading.is ∙ ap given_up c.in-Err-NoReading.field-0-is)
