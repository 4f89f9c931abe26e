use Rattle.std.proofs.Common.{refl, ap, ◌∙◌}
use Rattle.terms.specs.DataSet.{with_graph}
use Rattle.terms.proofs.PlacedLaws.{on_error, same_placed, same_dataset, with_graph_placed, with_graph_dataset}
use Rattle.dataset_builder.proofs.placed.PlacedDataset.declare.Goals as goal

pub invariant_of-self : goal.invariant_of-self
invariant_of-self c = record {
  placed = same_placed c.self.inside.terms c.place_of.new.terms c.in_err-place.ensures.kept
      c.self.inside.quads.items c.self.inside.quads.items c.self.inside.names.items c.self.inside.names.items c.self.invariant.placed refl refl;
  known_are = c.in_err-place.ensures.known;
}

pub returns-in_err-place-clause-err : goal.returns-in_err-place-clause-err
returns-in_err-place-clause-err c =
    on_error c.from_residual.result
    (same_dataset c.self.inside.terms c.place_of.new.terms c.in_err-place.ensures.kept
    c.self.inside.quads.items c.self.inside.quads.items c.self.inside.names.items c.self.inside.names.items c.self.invariant.placed refl refl ∙ c.self.view_is)

pub invariant_of-self-in_err-push : goal.invariant_of-self-in_err-push
invariant_of-self-in_err-push c = record {
  placed = same_placed c.self.inside.terms c.place_of.new.terms c.in_ok-place.ensures.kept
      c.self.inside.quads.items c.self.inside.quads.items c.self.inside.names.items c.push.new.self.items c.self.invariant.placed
      refl c.in_err-push.ensures.items;
  known_are = c.in_ok-place.ensures.known;
}

pub returns-in_err-push-clause-err : goal.returns-in_err-push-clause-err
returns-in_err-push-clause-err c =
    on_error c.from_residual-in_err-push.result
    (same_dataset c.self.inside.terms c.place_of.new.terms c.in_ok-place.ensures.kept
    c.self.inside.quads.items c.self.inside.quads.items c.self.inside.names.items c.push.new.self.items c.self.invariant.placed
    refl c.in_err-push.ensures.items ∙ c.self.view_is)

pub invariant_of-self-2 : goal.invariant_of-self-2
invariant_of-self-2 c = record {
  placed = with_graph_placed c.self.inside.terms c.place_of.new.terms c.in_ok-place.ensures.kept
      c.self.inside.quads.items c.self.inside.quads.items c.self.inside.names.items c.push.new.self.items c.self.invariant.placed
      c.in_ok-place.place c.args.name c.in_ok-place.ensures.term c.in_ok-place.ensures.within refl c.in_ok-push.ensures.items;
  known_are = c.in_ok-place.ensures.known;
}

pub returns-clause-ok : goal.returns-clause-ok
returns-clause-ok c =
    with_graph_dataset c.self.inside.terms c.place_of.new.terms c.in_ok-place.ensures.kept
    c.self.inside.quads.items c.self.inside.quads.items c.self.inside.names.items c.push.new.self.items c.self.invariant.placed
    c.in_ok-place.place c.args.name c.in_ok-place.ensures.term c.in_ok-place.ensures.within refl c.in_ok-push.ensures.items
    ∙ ap (with_graph c.args.name) c.self.view_is
