use Rattle.std.specs.Prelude.{slice_range}
use Rattle.std.proofs.Common.{◌-◌, map, take, drop, ap, sym, ◌∙◌}
use Rattle.std.proofs.lemmas.List.{drop-map, take-map}
use Rattle.std.proofs.lemmas.Result.{IfOk-weaker}
use Rattle.quad_lists.specs.Known.{quad_of}
use Rattle.quad_lists.specs.Part.{quads_of_part}
use Rattle.quad_sets.proofs.quad_slice.QuadSlice.part.Goals as goal

pub returns-in-Narrow : goal.returns-in-Narrow
returns-in-Narrow c =
    let from = c.args.first in
    let count = c.args.past - c.args.first in
    IfOk-weaker c.widened_quads.result _ _
    (λ quads h. h
    ∙ ap (map quad_of) c.between.ensures
    ∙ sym (take-map quad_of count (drop from c.in-Narrow.known.now))
    ∙ ap (take count) (sym (drop-map quad_of from c.in-Narrow.known.now))
    ∙ ap (λ xs. slice_range xs from c.args.past) (ap quads_of_part (sym c.in-Narrow.is) ∙ c.self.view_is))
    c.widened_quads.ensures
