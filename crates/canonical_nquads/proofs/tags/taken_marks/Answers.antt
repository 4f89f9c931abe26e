use Rattle.std.proofs.Common.{sym, ap, map, ◌∙◌}
use Rattle.datasets.specs.Dataset.{Dataset}
use Rattle.terms.specs.declared.term.Term.{Term}
use Rattle.terms.specs.Placed.{quad_at}
use Rattle.canonical_nquads.specs.Tag.{mark_of}
use Rattle.canonical_nquads.proofs.BeginningLaws.{taken_is}
use Rattle.canonical_nquads.proofs.TagLaws.{same_taken}
use Rattle.canonical_nquads.proofs.tags.taken_marks.Goals as goal

pub returns : goal.returns
returns c = λ tag h.
    c.in_ok-taken.ensures (mark_of tag) ∙ taken_is tag h c.parts-parts.result.terms.now c.parts-parts.result.quads.now
    ∙ sym (same_taken c.sets_pass_alike.ensures.quads c.args.dataset.now (map (quad_at c.parts-parts.result.terms.now) c.parts-parts.result.quads.now) tag
    (ap (λ (d : Dataset Term). d.quads) c.parts-parts.ensures.parts))
