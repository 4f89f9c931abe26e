use Rattle.std.proofs.Common.{◌∙◌, ap, List}
use Rattle.std.specs.Prelude.{filter}
use Rattle.std.specs.Ordering.{is_eq}
use Rattle.quad_lists.specs.declared.key.Key.{Key}
use Rattle.quad_lists.specs.declared.key.Depth.{Depth}
use Rattle.quad_lists.specs.Keys.{key_of, order_at, depth_of, target_of}
use Rattle.quad_index.proofs.Sought.{part_has_all}
use Rattle.quad_index.proofs.search.part_for.Goals as goal

pub returns : goal.returns
returns g c p h =
    let part : Depth → Key → List g.row.E.Denot = λ d t. filter (λ (e : g.row.E.Denot). is_eq (order_at d (key_of c.args.arrangement (g.E.Entry.quad e)) t)) c.args.entries.now in
    ap (filter p) (c.part_of.ensures ∙ (λ i. part (c.depth.ensures i) (c.target.ensures i)) ∙ (λ i. part (depth_of (c.bounds_of-bounds.ensures i)) (target_of (c.bounds_of-bounds.ensures i))))
    ∙ part_has_all g.E.Entry.quad c.args.arrangement c.args.pattern.now p h c.args.entries.now
