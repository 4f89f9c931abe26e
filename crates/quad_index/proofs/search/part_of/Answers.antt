use Rattle.std.proofs.Common.{◌∙◌}
use Rattle.quad_lists.specs.Keys.{key_of, order_at}
use Rattle.quad_index.proofs.Searching.{Between, places_ordered, part_is}
use Rattle.quad_index.proofs.search.part_of.Goals as goal

pub between-requires : goal.between-requires
between-requires g c =
    let answer = λ (e : g.row.E.Denot). order_at c.args.depth (key_of c.args.arrangement (g.E.Entry.quad e)) c.args.target.now in
    let first = c.place_of-first.ensures in
    let past = c.place_of-past.ensures in
    let found : Between answer c.args.entries.now c.place_of-first.result c.place_of-past.result = record { within = past.within; low_within = first.within; low_front = first.front; low_back = first.back; high_front = past.front; high_back = past.back } in
    record { ordered = places_ordered answer c.args.entries.now _ _ found; within = past.within }

pub returns : goal.returns
returns g c =
    let answer = λ (e : g.row.E.Denot). order_at c.args.depth (key_of c.args.arrangement (g.E.Entry.quad e)) c.args.target.now in
    let first = c.place_of-first.ensures in
    let past = c.place_of-past.ensures in
    let found : Between answer c.args.entries.now c.place_of-first.result c.place_of-past.result = record { within = past.within; low_within = first.within; low_front = first.front; low_back = first.back; high_front = past.front; high_back = past.back } in
    c.between.ensures ∙ part_is answer c.args.entries.now _ _ found
