use Rattle.std.specs.Prelude.{string_bytes}
use Rattle.canonical_nquads.specs.Canonical.{text_of_pieces}
use Rattle.engines.proofs.Answered.{fault_of_block, fault_of_journal, wrote_in_part}
use Rattle.engines.proofs.replayed.replay_engine.Goals as goal

pub returns-in-Ok-texts_of_journal-clause-part : goal.returns-in-Ok-texts_of_journal-clause-part
returns-in-Ok-texts_of_journal-clause-part g c =
    wrote_in_part (g.B.Read.remaining c.args.base.now.inner) (g.K.Read.remaining c.args.block.now.inner) (g.J.Read.remaining c.args.journal.now.inner) c.in_ok-read.read c.in-Ok.requests
    c.in_ok-bytes.bytes.items (text_of_pieces c.in-Ok-texts_of_journal.texts.dataset.items) (string_bytes c.in-Ok-texts_of_journal.texts.replies) c.in_ok-read.ensures.answer c.in-Ok.ensures.answer
    c.in_ok-bytes.ensures.bytes c.in-Ok-texts_of_journal.ensures.answer c.write_texts.result _ _ _ c.write_texts.ensures.part

pub returns-in-Err-texts_of_journal-clause-fault : goal.returns-in-Err-texts_of_journal-clause-fault
returns-in-Err-texts_of_journal-clause-fault g c =
    fault_of_journal (g.B.Read.remaining c.args.base.now.inner) (g.K.Read.remaining c.args.block.now.inner) (g.J.Read.remaining c.args.journal.now.inner) c.in_ok-read.read c.in-Ok.requests
    c.in_ok-bytes.bytes.items c.in-Err-texts_of_journal.fault c.in_ok-read.ensures.answer c.in-Ok.ensures.answer c.in_ok-bytes.ensures.bytes c.in-Err-texts_of_journal.ensures.fault

pub returns-in-Err-clause-fault : goal.returns-in-Err-clause-fault
returns-in-Err-clause-fault g c =
    fault_of_block (g.B.Read.remaining c.args.base.now.inner) (g.K.Read.remaining c.args.block.now.inner) (g.J.Read.remaining c.args.journal.now.inner) c.in_ok-read.read c.in-Err.fault
    c.in_ok-read.ensures.answer c.in-Err.ensures.answer
