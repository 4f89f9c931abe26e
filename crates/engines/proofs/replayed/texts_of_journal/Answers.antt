use Rattle.std.proofs.Common.{◌≡◌, ◌∙◌, Err, sym, ap, subst}
use Rattle.std.proofs.lemmas.Result.{err_from_is_err_and}
use Rattle.canonical_nquads.specs.Canonical.{canonical}
use Rattle.command_line.specs.Replies.{reply_lines}
use Rattle.book.specs.Run.{state_of}
use Rattle.journal.specs.Text.{journal_text}
use Rattle.engines.specs.Journals.{IsReplayFault}
use Rattle.engines.proofs.Composed.{short, has_all_terms, known, named_dataset, named_is, replies_are}
use Rattle.engines.proofs.Committed.{front_outcome, replay_is, bad_journal, bad_lines}
use Rattle.engines.proofs.replayed.texts_of_journal.Goals as goal

pub returns-in-Err-clause-fault : goal.returns-in-Err-clause-fault
returns-in-Err-clause-fault c =
    subst (IsReplayFault c.args.base c.args.block c.args.journal.items) (sym c.journal_fault.ensures)
    (bad_journal _ _ _ _ c.in-Ok.ensures _ _ c.args.journal.items c.tag.ensures c.as_slice.ensures.value c.in-Err.fault (λ n e. c.read_journal.ensures.bad n (c.in-Err.is ∙ ap Err e))
    (λ n e. c.read_journal.ensures.legal n (c.in-Err.is ∙ ap Err e)))

pub returns-in_err-outcome-clause-fault : goal.returns-in_err-outcome-clause-fault
returns-in_err-outcome-clause-fault c =
    let base = c.in-Ok.numbered.base in
    let lines = c.as_slice-2.result.now in
    let text : c.args.journal.items ≡ journal_text base.tag lines = sym c.as_slice.ensures.value ∙ c.in-Ok-read_journal.ensures.lines.text
    ∙ ap (λ t. journal_text t c.in-Ok-read_journal.lines.items) c.tag.ensures ∙ ap (journal_text base.tag) (sym c.as_slice-2.ensures.value) in
    let p = err_from_is_err_and c.from_residual.result c.from_residual.ensures.1 in
    rw p.1
    (subst (IsReplayFault c.args.base c.args.block c.args.journal.items) (sym p.2)
    (bad_lines _ _ base c.in-Ok.numbered.block.items c.in-Ok.ensures c.args.journal.items lines text _ c.in_err-outcome.ensures.fault))

pub outcome_of_lines-requires-clause-short : goal.outcome_of_lines-requires-clause-short
outcome_of_lines-requires-clause-short c = short _ _ _ _ c.in-Ok.ensures c.requires.short

pub outcome_of_lines-requires-clause-terms : goal.outcome_of_lines-requires-clause-terms
outcome_of_lines-requires-clause-terms c = has_all_terms _ _ _ _ c.in-Ok.ensures

pub texts_of_outcome-requires-clause-known : goal.texts_of_outcome-requires-clause-known
texts_of_outcome-requires-clause-known c =
    let front = c.in_ok-outcome.ensures.outcome in
    known _ _ _ _ c.in-Ok.ensures c.carries_block.ensures c.parts-parts.ensures.dataset (state_of front.book).front _ _
    (front_outcome c.in-Ok.numbered.base c.in-Ok.numbered.block.items front.book front.replayed.terms_are front.replayed.base_is front.replayed.block_is c.in_ok-outcome.outcome front.outcome_is)

pub texts_of_outcome-requires-clause-dataset : goal.texts_of_outcome-requires-clause-dataset
texts_of_outcome-requires-clause-dataset c =
    let front = c.in_ok-outcome.ensures.outcome in
    named_dataset _ _ _ _ c.in-Ok.ensures c.carries_block.ensures c.parts-parts.ensures.dataset (state_of front.book).front _ _
    (front_outcome c.in-Ok.numbered.base c.in-Ok.numbered.block.items front.book front.replayed.terms_are front.replayed.base_is front.replayed.block_is c.in_ok-outcome.outcome front.outcome_is)

pub returns-in-Ok-texts_of_outcome-clause-answer : goal.returns-in-Ok-texts_of_outcome-clause-answer
returns-in-Ok-texts_of_outcome-clause-answer c =
    let base = c.in-Ok.numbered.base in
    let numbered = c.in-Ok.ensures in
    let front = c.in_ok-outcome.ensures.outcome in
    let run = front_outcome base c.in-Ok.numbered.block.items front.book front.replayed.terms_are front.replayed.base_is front.replayed.block_is c.in_ok-outcome.outcome front.outcome_is in
    let lines = c.as_slice-2.result.now in
    let text : c.args.journal.items ≡ journal_text base.tag lines = sym c.as_slice.ensures.value ∙ c.in-Ok-read_journal.ensures.lines.text
    ∙ ap (λ t. journal_text t c.in-Ok-read_journal.lines.items) c.tag.ensures ∙ ap (journal_text base.tag) (sym c.as_slice-2.ensures.value) in
    replay_is _ _ base c.in-Ok.numbered.block.items numbered c.args.journal.items lines text c.in_ok-outcome.outcome front _ _ (record {
      tag = base.tag;
      tagged = numbered.base.tag_is;
      dataset_is =
          c.in-Ok-texts_of_outcome.ensures.dataset
          ∙ ap (λ e. canonical e base.tag) (named_is _ _ _ _ numbered c.carries_block.ensures c.parts-parts.ensures.dataset (state_of front.book).front _ _ run);
      replies_are =
          c.in-Ok-texts_of_outcome.ensures.replies
          ∙ ap reply_lines (replies_are _ _ _ _ numbered c.carries_block.ensures c.parts-parts.ensures.dataset (state_of front.book).front _ _ run);
    })
