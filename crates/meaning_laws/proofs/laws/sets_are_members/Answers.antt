use Rattle.meaning_laws.proofs.SetMembers.{sets_have_members, members_make_sets}
use Rattle.meaning_laws.proofs.laws.sets_are_members.Goals as goal

pub returns : goal.returns
returns g c = record { members = sets_have_members; one = members_make_sets }
