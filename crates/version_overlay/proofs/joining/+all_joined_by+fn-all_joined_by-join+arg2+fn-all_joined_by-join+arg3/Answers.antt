use Rattle.std.proofs.Common.{◌≡◌}
use Rattle.std.proofs.lemmas.Result.{IfOk-weaker, IfOk-at_ok}
use Rattle.reads.specs.Reads.{View, Delta, applied}
use Rattle.version_overlay.specs.Settled.{changed_by}
use Rattle.version_overlay.proofs.Changing.{halves_are}
use Rattle.version_overlay.proofs.joining.+all_joined_by+fn-all_joined_by-join+arg2+fn-all_joined_by-join+arg3.Goals as goal

pub returns : goal.returns
returns g t c =
    let levels = c.args.levels.now in
    let first = c.split_at.result.0.now in
    let rest = c.split_at.result.1.now in
    let earlier = IfOk-at_ok (λ (e : Delta). (v : View) → applied e v ≡ changed_by first v) c.in_ok-earlier.was c.join-later.ensures.second in
    let later = IfOk-at_ok (λ (e : Delta). (v : View) → applied e v ≡ changed_by rest v) c.in_ok-later.was c.join-later.ensures.first in
    IfOk-weaker c.followed_by-3.result _ _ (λ both e. halves_are _ levels first rest c.split_at.ensures.front c.split_at.ensures.back c.in_ok-earlier.field-0 c.in_ok-later.field-0 both earlier later e) c.followed_by-3.ensures
