use Rattle.std.proofs.Common.{ap, ◌∙◌}
use Rattle.canonical_nquads.specs.Canonical.{canonical}
use Rattle.command_line.specs.Replies.{reply_lines}
use Rattle.engines.proofs.Composed.{short, has_all_terms, known, named_dataset, named_is, replies_are, all_of}
use Rattle.engines.proofs.engine.texts_of.Goals as goal

pub outcome-requires-clause-short : goal.outcome-requires-clause-short
outcome-requires-clause-short g c = short _ _ _ _ c.in_ok-numbered.ensures c.requires.short

pub outcome-requires-clause-terms : goal.outcome-requires-clause-terms
outcome-requires-clause-terms g c = has_all_terms _ _ _ _ c.in_ok-numbered.ensures

pub texts_of_outcome-requires-clause-known : goal.texts_of_outcome-requires-clause-known
texts_of_outcome-requires-clause-known g c =
    let whole = c.in_ok-outcome.ensures in
    known _ _ _ _ c.in_ok-numbered.ensures c.carries_block.ensures c.parts-parts.ensures.dataset whole.0 _ _ whole.2

pub texts_of_outcome-requires-clause-dataset : goal.texts_of_outcome-requires-clause-dataset
texts_of_outcome-requires-clause-dataset g c =
    let whole = c.in_ok-outcome.ensures in
    named_dataset _ _ _ _ c.in_ok-numbered.ensures c.carries_block.ensures c.parts-parts.ensures.dataset whole.0 _ _ whole.2

pub returns : goal.returns
returns g c =
    let whole = c.in_ok-outcome.ensures in
    let numbered = c.in_ok-numbered.ensures in
    let all = all_of _ _ _ _ numbered whole.0 whole.1 in
    record {
      tag = c.in_ok-numbered.numbered.base.tag;
      tagged = numbered.base.tag_is;
      dataset_is =
          c.in_ok-texts.ensures.dataset
          ∙ ap (λ e. canonical e c.in_ok-numbered.numbered.base.tag)
          (named_is _ _ _ _ numbered c.carries_block.ensures c.parts-parts.ensures.dataset whole.0 _ _ whole.2 ∙ ap (λ p. p.0) all);
      replies_are =
          c.in_ok-texts.ensures.replies
          ∙ ap reply_lines (replies_are _ _ _ _ numbered c.carries_block.ensures c.parts-parts.ensures.dataset whole.0 _ _ whole.2 ∙ ap (λ p. p.1) all);
    }
