use Rattle.std.proofs.Common.{◌∙◌}
use Rattle.datasets.specs.declared.id.Id.{Id}
use Rattle.meaning.specs.Mapping.{Mapping}
use Rattle.solution.specs.Lookups.{order_at}
use Rattle.solution.proofs.Searching.{places_ordered, part_is}
use Rattle.solution.proofs.lookup.tied_in.Goals as goal

pub between-requires : goal.between-requires
between-requires c =
    let answer = λ (b : Mapping Id). order_at c.args.variables.now b c.args.a.now in
    record {
      ordered = places_ordered answer c.args.sorted.now _ _ c.start_of-first.ensures.start c.end_of-past.ensures.end c.args.a.now c.start_of-first.ensures.within;
      within = c.end_of-past.ensures.within;
    }

pub returns : goal.returns
returns c =
    let answer = λ (b : Mapping Id). order_at c.args.variables.now b c.args.a.now in
    let ordered = places_ordered answer c.args.sorted.now _ _ c.start_of-first.ensures.start c.end_of-past.ensures.end c.args.a.now c.start_of-first.ensures.within in
    c.between.ensures ∙ part_is answer c.args.sorted.now _ _ c.start_of-first.ensures.start c.end_of-past.ensures.end ordered c.end_of-past.ensures.within
