use Rattle.std.specs.Prelude.{◌||◌}
use Rattle.std.specs.HashSet.{contains}
use Rattle.std.specs.Ordering.{eq_by_cmp}
use Rattle.std.proofs.Common.{ap, ◌∙◌}
use Rattle.terms.specs.Term.{text_cmp}
use Rattle.canonical_nquads.proofs.BeginningLaws.{put_in}
use Rattle.canonical_nquads.proofs.tags.add_label.Goals as goal

pub returns : goal.returns
returns c = λ text.
    c.in_ok-insert.ensures.updates.0 text ∙ put_in c.in_ok-text.text text (contains (eq_by_cmp text_cmp) c.args.beginnings.now text)
    ∙ ap (λ k. eq_by_cmp text_cmp text k || contains (eq_by_cmp text_cmp) c.args.beginnings.now text) c.in_ok-text.ensures
