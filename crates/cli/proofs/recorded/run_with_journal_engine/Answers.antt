use Rattle.std.specs.Prelude.{string_bytes}
use Rattle.canonical_nquads.specs.Canonical.{text_of_pieces}
use Rattle.cli.proofs.Written.{wrote, wrote_in_part}
use Rattle.cli.proofs.recorded.run_with_journal_engine.Goals as goal

pub returns-clause-journal : goal.returns-clause-journal
returns-clause-journal g c =
    wrote (g.B.Read.remaining c.args.base.now.inner) (g.K.Read.remaining c.args.block.now.inner) c.in_ok-read.read c.in_ok-requests.requests
    (text_of_pieces c.in-Ok.texts.answer.dataset.items) (string_bytes c.in-Ok.texts.answer.replies) c.in-Ok.texts.journal.items c.as_slice.result.now
    c.in_ok-read.ensures.answer c.in_ok-requests.ensures.answer c.in-Ok.ensures.history c.as_slice.ensures.value _ _ _
    c.in_ok-write_texts.ensures.dataset c.in_ok-write_texts.ensures.replies c.write_journal.result c.write_journal.ensures.ok

pub returns-clause-journal_part : goal.returns-clause-journal_part
returns-clause-journal_part g c =
    wrote_in_part (g.B.Read.remaining c.args.base.now.inner) (g.K.Read.remaining c.args.block.now.inner) c.in_ok-read.read c.in_ok-requests.requests
    (text_of_pieces c.in-Ok.texts.answer.dataset.items) (string_bytes c.in-Ok.texts.answer.replies) c.in-Ok.texts.journal.items c.as_slice.result.now
    c.in_ok-read.ensures.answer c.in_ok-requests.ensures.answer c.in-Ok.ensures.history c.as_slice.ensures.value _ _ _
    c.in_ok-write_texts.ensures.dataset c.in_ok-write_texts.ensures.replies c.write_journal.result _ c.write_journal.ensures.part
