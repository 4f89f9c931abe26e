use Rattle.std.proofs.Common.{◌≡◌, ◌∙◌, ◌≤◌, length, map, ap, arith}
use Rattle.book.specs.Run.{state_of}
use Rattle.journal.specs.Text.{journal_text}
use Rattle.replay.specs.Lines.{line_of}
use Rattle.engines.proofs.Committed.{front_outcome, journal_at}
use Rattle.cli.proofs.recorded.recorded.Goals as goal

pub returns : goal.returns
returns g c =
    let base = c.args.numbered.now.base in
    let block = c.args.numbered.now.block.items in
    let book = c.in_ok-book.book in
    let pair = c.in_ok-pair.pair in
    let of_book = c.in_ok-pair.ensures in
    let size : length c.as_slice-block.result.now ≡ length block = ap length c.as_slice-block.ensures.value in
    let reached = c.in_ok-book.ensures.whole in
    let whole : length block ≤ (state_of book).front = omega (arith, size, reached) in
    let terms_are = c.in_ok-book.ensures.terms ∙ c.terms-terms.ensures in
    let dataset_is = c.in_ok-book.ensures.base ∙ c.dataset-dataset.ensures.value in
    let block_is = c.in_ok-book.ensures.block ∙ c.as_slice-block.ensures.value in
    record {
      front = (state_of book).front;
      whole = whole;
      journal_is = journal_at base block book terms_are dataset_is block_is pair.journal.items c.journal-journal.ensures.lawful
          (of_book.journal_is ∙ ap (λ t. journal_text t (map (line_of book.terms) book.history)) c.tag.ensures);
      outcome_is = front_outcome base block book terms_are dataset_is block_is pair.outcome of_book.outcome_is;
    }
