use Rattle.std.specs.Prelude.{not, is_none, is_some, if◌then◌else◌}
use Rattle.std.proofs.Common.{◌≡◌, Bool, true, false, Option, Some, None, refl, ◌++◌, ◌∷◌, [], ap, ◌∙◌}
use Rattle.reads.specs.Presence.{scan_for}
use Rattle.update.specs.Known.{told_of}
use Rattle.update.proofs.Members.{mapped_more}
use Rattle.update.proofs.presence.push_scans.Goals as goal

none_is : (o : Option Bool) (b : Bool) → is_some o ≡ not b → b ≡ is_none o
none_is None true e = refl
none_is None false e = e
none_is (Some so) true e = e
none_is (Some so) false e = refl

pub loop-quad-preserved : goal.loop-quad-preserved
loop-quad-preserved c =
    mapped_more (λ q. scan_for q) (λ q. is_none (told_of c.args.known.now q)) c.args.quads.now c.loop-quad.quad-index _ c.is_none.result _ _ _ c.loop-quad-test.true (none_is c.tells.result c.is_none.result c.is_none.ensures ∙ ap is_none c.tells.ensures)
    (c.in_ok-push_if.ensures ∙ ap (λ r. c.loop-quad.reads.items ++ (if c.is_none.result then r ∷ [] else [])) c.scan_for.ensures) c.loop-quad.invariant
