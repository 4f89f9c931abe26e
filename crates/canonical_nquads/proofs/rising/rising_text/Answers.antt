use Rattle.std.specs.HashSet.{contains}
use Rattle.std.specs.Prelude.{not, nat_eq}
use Rattle.std.proofs.Common.{[], ◌++◌, ℕ, map, filter}
use Rattle.canonical_nquads.specs.Placed.{graph_line_at, quad_text_at}
use Rattle.canonical_nquads.proofs.RisingLaws.{rising_none, rising_whole}
use Rattle.canonical_nquads.proofs.rising.rising_text.Goals as goal

pub returns : goal.returns
returns c =
    let texts = c.args.texts.now in
    let graphs = map (graph_line_at texts) (filter (λ (name : ℕ). not (contains nat_eq c.args.full.now name)) c.args.names.now) in
    let quads = map (quad_text_at texts) c.args.quads.now in
    rising_whole _ graphs quads (c.in_ok-quads_rise.ensures c.if-not-quads_rise.false ([] ++ graphs) (c.in_ok-graphs_rise.ensures c.if-not-graphs_rise.false [] (rising_none _ c.new.ensures.items)))
