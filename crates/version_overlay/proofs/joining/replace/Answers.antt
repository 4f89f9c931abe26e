use Rattle.std.proofs.Common.{arith, ◌-◌, ◌+◌, refl, ◌∙◌}
use Rattle.version_overlay.proofs.Neighbours.{replaced}
use Rattle.version_overlay.proofs.joining.replace.Goals as goal

pub returns-clause-items : goal.returns-clause-items
returns-clause-items c =
    let behind = c.len.result - c.args.past in
    c.rotate_left-2.ensures.items
    ∙ replaced c.args.first c.args.past behind (behind + c.args.first + 1) c.args.levels.now.items c.rotate_left.new.self.items c.truncate.new.self.items _ c.args.one c.requires.some
    (omega (arith, c.requires.within, c.len.ensures, c.args.levels.now.ok.0)) c.rotate_left.ensures.items refl c.truncate.ensures.items refl
