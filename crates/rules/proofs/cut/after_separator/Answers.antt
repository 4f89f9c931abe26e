use Rattle.std.proofs.Common.{◌≡◌, true, sym, ap, ◌∙◌}
use Rattle.rules.specs.Cutting.{begins_separator}
use Rattle.rules.proofs.CutLaws.{cut_after}
use Rattle.rules.proofs.cut.after_separator.Goals as goal

pub split_at-requires : goal.split_at-requires
split_at-requires c =
    let e : begins_separator c.args.text.now ≡ true = ap begins_separator (sym c.as_bytes.ensures.value) ∙ sym c.begins_separator.ensures ∙ c.if-begins_separator.true in
    cut_after c.args.text.now c.utf8.text e
