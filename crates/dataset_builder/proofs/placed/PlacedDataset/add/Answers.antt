use Rattle.std.proofs.Common.{refl, ap, ◌∙◌}
use Rattle.terms.specs.DataSet.{with_quad}
use Rattle.terms.proofs.PlacedLaws.{on_error, same_placed, same_dataset, with_quad_placed, with_quad_dataset}
use Rattle.dataset_builder.proofs.placed.PlacedDataset.add.Goals as goal

pub invariant_of-self : goal.invariant_of-self
invariant_of-self c = record {
  placed = same_placed c.self.inside.terms c.places_of_quad.new.terms c.in_err-quad.ensures.kept
      c.self.inside.quads.items c.self.inside.quads.items c.self.inside.names.items c.self.inside.names.items c.self.invariant.placed refl refl;
  known_are = c.in_err-quad.ensures.known;
}

pub returns-in_err-quad-clause-err : goal.returns-in_err-quad-clause-err
returns-in_err-quad-clause-err c =
    on_error c.from_residual.result
    (same_dataset c.self.inside.terms c.places_of_quad.new.terms c.in_err-quad.ensures.kept
    c.self.inside.quads.items c.self.inside.quads.items c.self.inside.names.items c.self.inside.names.items c.self.invariant.placed refl refl ∙ c.self.view_is)

pub invariant_of-self-in_err-push_both : goal.invariant_of-self-in_err-push_both
invariant_of-self-in_err-push_both c = record {
  placed = same_placed c.self.inside.terms c.places_of_quad.new.terms c.in_ok-quad.ensures.kept
      c.self.inside.quads.items c.push_both.new.quads.items c.self.inside.names.items c.push_both.new.names.items c.self.invariant.placed
      c.in_err-push_both.ensures.err.0 c.in_err-push_both.ensures.err.1;
  known_are = c.in_ok-quad.ensures.known;
}

pub returns-in_err-push_both-clause-err : goal.returns-in_err-push_both-clause-err
returns-in_err-push_both-clause-err c =
    on_error c.from_residual-in_err-push_both.result
    (same_dataset c.self.inside.terms c.places_of_quad.new.terms c.in_ok-quad.ensures.kept
    c.self.inside.quads.items c.push_both.new.quads.items c.self.inside.names.items c.push_both.new.names.items c.self.invariant.placed
    c.in_err-push_both.ensures.err.0 c.in_err-push_both.ensures.err.1 ∙ c.self.view_is)

pub invariant_of-self-2 : goal.invariant_of-self-2
invariant_of-self-2 c = record {
  placed = with_quad_placed c.self.inside.terms c.places_of_quad.new.terms c.in_ok-quad.ensures.kept
      c.self.inside.quads.items c.push_both.new.quads.items c.self.inside.names.items c.push_both.new.names.items c.self.invariant.placed
      c.in_ok-quad.quad c.args.quad c.in_ok-quad.ensures.quad c.in_ok-quad.ensures.within c.in_ok-push_both.ensures.quads c.in_ok-push_both.ensures.names;
  known_are = c.in_ok-quad.ensures.known;
}

pub returns-clause-ok : goal.returns-clause-ok
returns-clause-ok c =
    with_quad_dataset c.self.inside.terms c.places_of_quad.new.terms c.in_ok-quad.ensures.kept
    c.self.inside.quads.items c.push_both.new.quads.items c.self.inside.names.items c.push_both.new.names.items c.self.invariant.placed
    c.in_ok-quad.quad c.args.quad c.in_ok-quad.ensures.quad c.in_ok-quad.ensures.within c.in_ok-push_both.ensures.quads c.in_ok-push_both.ensures.names
    ∙ ap (with_quad c.args.quad) c.self.view_is
