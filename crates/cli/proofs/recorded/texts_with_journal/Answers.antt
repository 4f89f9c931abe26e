use Rattle.std.proofs.Common.{◌∙◌, ap, arith}
use Rattle.canonical_nquads.specs.Canonical.{canonical}
use Rattle.command_line.specs.Replies.{reply_lines}
use Rattle.engines.proofs.Composed.{short, has_all_terms, same_length, known, named_dataset, named_is, replies_are, all_of}
use Rattle.cli.proofs.recorded.texts_with_journal.Goals as goal

pub recorded-requires-clause-few : goal.recorded-requires-clause-few
recorded-requires-clause-few g c =
    let same = same_length _ _ _ _ c.in_ok-numbered.ensures in
    let few = c.requires.few in
    omega (arith, same, few)

pub recorded-requires-clause-short : goal.recorded-requires-clause-short
recorded-requires-clause-short g c _ _ = short _ _ _ _ c.in_ok-numbered.ensures c.requires.short

pub recorded-requires-clause-terms : goal.recorded-requires-clause-terms
recorded-requires-clause-terms g c _ _ = has_all_terms _ _ _ _ c.in_ok-numbered.ensures

pub texts_of_outcome-requires-clause-known : goal.texts_of_outcome-requires-clause-known
texts_of_outcome-requires-clause-known g c =
    let at = c.in_ok-outcome.ensures in
    known _ _ _ _ c.in_ok-numbered.ensures c.carries_block.ensures c.parts-parts.ensures.dataset at.front _ _ at.outcome_is

pub texts_of_outcome-requires-clause-dataset : goal.texts_of_outcome-requires-clause-dataset
texts_of_outcome-requires-clause-dataset g c =
    let at = c.in_ok-outcome.ensures in
    named_dataset _ _ _ _ c.in_ok-numbered.ensures c.carries_block.ensures c.parts-parts.ensures.dataset at.front _ _ at.outcome_is

pub returns-clause-answer : goal.returns-clause-answer
returns-clause-answer g c =
    let at = c.in_ok-outcome.ensures in
    let numbered = c.in_ok-numbered.ensures in
    let all = all_of _ _ _ _ numbered at.front at.whole in
    record {
      tag = c.in_ok-numbered.numbered.base.tag;
      tagged = numbered.base.tag_is;
      dataset_is =
          c.in_ok-answer.ensures.dataset
          ∙ ap (λ e. canonical e c.in_ok-numbered.numbered.base.tag)
          (named_is _ _ _ _ numbered c.carries_block.ensures c.parts-parts.ensures.dataset at.front _ _ at.outcome_is ∙ ap (λ p. p.0) all);
      replies_are =
          c.in_ok-answer.ensures.replies
          ∙ ap reply_lines (replies_are _ _ _ _ numbered c.carries_block.ensures c.parts-parts.ensures.dataset at.front _ _ at.outcome_is ∙ ap (λ p. p.1) all);
    }

pub returns-clause-history : goal.returns-clause-history
returns-clause-history g c =
    let at = c.in_ok-outcome.ensures in
    let numbered = c.in_ok-numbered.ensures in
    let same = same_length _ _ _ _ numbered in
    let whole = at.whole in (
      record {
        front = at.front;
        journal_is = record { base = c.in_ok-numbered.numbered.base; block = c.in_ok-numbered.numbered.block.items; numbered = numbered; journal_is = at.journal_is };
        answer = record {
          tag = c.in_ok-numbered.numbered.base.tag;
          tagged = numbered.base.tag_is;
          dataset_is =
              c.in_ok-answer.ensures.dataset
              ∙ ap (λ e. canonical e c.in_ok-numbered.numbered.base.tag)
              (named_is _ _ _ _ numbered c.carries_block.ensures c.parts-parts.ensures.dataset at.front _ _ at.outcome_is);
          replies_are =
              c.in_ok-answer.ensures.replies
              ∙ ap reply_lines (replies_are _ _ _ _ numbered c.carries_block.ensures c.parts-parts.ensures.dataset at.front _ _ at.outcome_is);
        };
      },
      omega (arith, same, whole),
    )
