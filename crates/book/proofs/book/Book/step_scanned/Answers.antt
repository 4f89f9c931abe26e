use Rattle.std.proofs.Common.{◌≡◌, ◌+◌, ◌^◌, ◌<◌, [], ◌∷◌, ◌++◌, length, ap, arith, sym, ◌∙◌, subst}
use Rattle.block_machine.specs.Machine.{State, IsReady, IsAllowed}
use Rattle.block_machine.specs.Scans.{HasScans}
use Rattle.book.specs.JournalEntry.{journal_entry_of}
use Rattle.book.specs.Run.{Run, run_of_journal, setting, setting_of, state_of, IsSoundEvent, kept}
use Rattle.book.proofs.Replay.{said_of_book, as_long, run_more, replayed_more}
use Rattle.book.proofs.book.Book.step_scanned.Goals as goal

pub step-requires-clause-ready : goal.step-requires-clause-ready
unfolding setting
step-requires-clause-ready c =
    let long = as_long _ _ _ c.self.invariant in
    let short : length (run_of_journal c.self.inside.terms.now c.self.inside.base.now c.self.inside.block.now c.self.inside.journal.entries).history + 1 < 2 ^ 64 =
    omega (arith, long, c.in_ok-reserve.ensures.few, ap length c.in_ok-reserve.ensures.entries) in
    said_of_book _ _ _ c.self.invariant (λ m history s. length history + 1 < 2 ^ 64 → IsReady m.base s) c.ready_after.ensures short

pub step-requires-clause-scans : goal.step-requires-clause-scans
step-requires-clause-scans c = subst (λ (r : Run). HasScans r.base c.args.event.now c.args.scans.now) (sym c.self.view_is) c.requires.scans

pub invariant_of-self-2 : goal.invariant_of-self-2
unfolding setting
invariant_of-self-2 c =
    let old = c.self.inside in
    let reply = c.in_ok-reply.reply in
    let run : Run = run_of_journal old.terms.now old.base.now old.block.now old.journal.entries in
    let items : c.push.new.self.entries ≡ old.journal.entries ++ journal_entry_of (record { worker = c.args.worker; event = kept c.args.event.now reply; reply = reply }) ∷ [] =
    c.push.ensures ∙ (λ t. c.in_ok-reserve.ensures.entries t ++ c.new-packed.ensures t ∷ []) in
    let sound : IsSoundEvent run c.args.event.now = subst (λ (r : Run). IsSoundEvent r c.args.event.now) (sym c.self.view_is) c.requires.sound in
    let size = said_of_book run old.journal.entries old.machine c.self.invariant (λ m history s. length s.slots ≡ m.size) c.front_is_within.ensures.slots in
    replayed_more old.terms.now old.base.now old.block.now old.journal.entries old.machine c.self.invariant c.args.worker c.args.event.now reply c.in_ok-reply.ensures.allowed c.push.new.self.entries items
    size (c.history_goes_on.ensures (setting_of run)) c.step.new.self sound c.in_ok-reply.ensures.changed

pub returns-clause-entry : goal.returns-clause-entry
unfolding setting
returns-clause-entry c =
    let old = c.self.inside in
    let reply = c.in_ok-reply.reply in
    let items : c.push.new.self.entries ≡ old.journal.entries ++ journal_entry_of (record { worker = c.args.worker; event = kept c.args.event.now reply; reply = reply }) ∷ [] =
    c.push.ensures ∙ (λ t. c.in_ok-reserve.ensures.entries t ++ c.new-packed.ensures t ∷ []) in
    run_more old.terms.now old.base.now old.block.now old.journal.entries old.machine c.self.invariant c.args.worker c.args.event.now reply c.in_ok-reply.ensures.allowed c.push.new.self.entries items
    ∙ (λ t. record (c.self.view_is t) { history = (c.self.view_is t).history ++ record { worker = c.args.worker; event = kept c.args.event.now reply; reply = reply } ∷ [] })

pub returns-clause-lawful : goal.returns-clause-lawful
unfolding setting
returns-clause-lawful c =
    let old = c.self.inside in
    let reply = c.in_ok-reply.reply in
    let allowed : IsAllowed old.base.now (state_of (run_of_journal old.terms.now old.base.now old.block.now old.journal.entries)) c.args.worker c.args.event.now reply =
    subst (λ (s : State). IsAllowed old.base.now s c.args.worker c.args.event.now reply) c.self.invariant.state c.in_ok-reply.ensures.allowed in
    subst (λ (r : Run). IsAllowed r.base (state_of r) c.args.worker c.args.event.now reply) c.self.view_is allowed
