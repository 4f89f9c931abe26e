use Rattle.std.proofs.Common.{◌≡◌, ◌+◌, ◌^◌, ◌<◌, [], ◌∷◌, ◌++◌, length, ap, arith, ◌∙◌}
use Rattle.incarnations.specs.declared.state.Event.{Event}
use Rattle.incarnations.specs.declared.state.Event.TheVariants.{Check}
use Rattle.block_machine.specs.Machine.{IsReady}
use Rattle.book.specs.JournalEntry.{journal_entry_of}
use Rattle.book.specs.Run.{Run, run_of_journal, setting, setting_of}
use Rattle.book.proofs.Replay.{said_of_book, as_long, run_more, replayed_more}
use Rattle.book.proofs.book.Book.check_as.Goals as goal

pub check_as-requires : goal.check_as-requires
unfolding setting
check_as-requires c =
    let long = as_long _ _ _ c.self.invariant in
    let short : length (run_of_journal c.self.inside.terms.now c.self.inside.base.now c.self.inside.block.now c.self.inside.journal.entries).history + 1 < 2 ^ 64 =
    omega (arith, long, c.in_ok-reserve.ensures.few, ap length c.in_ok-reserve.ensures.entries) in
    said_of_book _ _ _ c.self.invariant (λ m history s. length history + 1 < 2 ^ 64 → IsReady m.base s) c.ready_after.ensures short

pub invariant_of-self-2 : goal.invariant_of-self-2
unfolding setting
invariant_of-self-2 c =
    let old = c.self.inside in
    let reply = c.in_ok-reply.reply in
    let event : Event = Check c.args.i c.args.n in
    let run : Run = run_of_journal old.terms.now old.base.now old.block.now old.journal.entries in
    let items : c.push.new.self.entries ≡ old.journal.entries ++ journal_entry_of (record { worker = c.args.worker; event = event; reply = reply }) ∷ [] =
    c.push.ensures ∙ (λ t. c.in_ok-reserve.ensures.entries t ++ c.new-packed.ensures t ∷ []) in
    let size = said_of_book run old.journal.entries old.machine c.self.invariant (λ m history s. length s.slots ≡ m.size) c.front_is_within.ensures.slots in
    replayed_more old.terms.now old.base.now old.block.now old.journal.entries old.machine c.self.invariant c.args.worker event reply c.in_ok-reply.ensures.allowed c.push.new.self.entries items
    size (c.history_goes_on.ensures (setting_of run)) c.check_as.new.self tt c.in_ok-reply.ensures.changed

pub returns-clause-entry : goal.returns-clause-entry
unfolding setting
returns-clause-entry c =
    let old = c.self.inside in
    let reply = c.in_ok-reply.reply in
    let event : Event = Check c.args.i c.args.n in
    let items : c.push.new.self.entries ≡ old.journal.entries ++ journal_entry_of (record { worker = c.args.worker; event = event; reply = reply }) ∷ [] =
    c.push.ensures ∙ (λ t. c.in_ok-reserve.ensures.entries t ++ c.new-packed.ensures t ∷ []) in
    run_more old.terms.now old.base.now old.block.now old.journal.entries old.machine c.self.invariant c.args.worker event reply c.in_ok-reply.ensures.allowed c.push.new.self.entries items
    ∙ (λ t. record (c.self.view_is t) { history = (c.self.view_is t).history ++ record { worker = c.args.worker; event = event; reply = reply } ∷ [] })
