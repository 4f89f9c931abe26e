-- A pass that took the book and gave it back with one more entry.
use Rattle.std.proofs.Common.{◌≡◌, ◌<◌, ℕ, eqb, false, List, [], ◌∷◌, ◌++◌, length, length-append, refl, sym, ap, subst, ◌∙◌, arith, append-nil, Some, Result, Ok, Err, IfOk, OnErr}
use Rattle.std.proofs.lemmas.List.Elements.{filter-append, All-nil}
use Rattle.std.proofs.lemmas.List.{nil_from_length}
use Rattle.incarnations.specs.declared.state.Entry.{Entry}
use Rattle.incarnations.specs.declared.state.Event.{Event}
use Rattle.incarnations.specs.declared.state.Event.TheVariants.{Publish}
use Rattle.incarnations.specs.declared.state.Reply.{Reply}
use Rattle.block_machine.specs.Machine.{IsAllowed}
use Rattle.block_machine.specs.Serial.{IsHistory}
use Rattle.book.specs.Run.{Run, state_of, setting_of, IsSoundEvent}
use Rattle.blocklock.specs.History.{of_worker}
use Rattle.blocklock.specs.Passes.{Takes, Watches, given}
use Rattle.shared.specs.declared.kept.Subject.{Subject}
use Rattle.shared.specs.Calls.{Viewed, owner, history_of, run_of, entry, Answers, Unmade, Made, Tried}
use Rattle.shared.specs.declared.refused.Refused.{Refused}
use Rattle.shared.specs.declared.refused.Refused.TheVariants.{Busy, OutOfMemory}

-- the earlier journal's entries of the worker are all of the later one's, so what lies between has
-- none
pub none_between : (w : ℕ) (before between : List Entry) → of_worker owner w (before ++ between) ≡ of_worker owner w before → of_worker owner w between ≡ []
none_between w before between e =
    let first = of_worker owner w before in
    let later = of_worker owner w between in
    let same : first ++ later ≡ first = sym (filter-append (λ x. eqb (owner x) w) before between) ∙ e in
    nil_from_length later (omega (arith, ap length same, length-append first later))

module _ (old mid : Viewed) (book : Run) (takes : Takes owner old (history_of book) mid) where
  worker : mid.worker ≡ old.worker
  worker = ap (λ (p : Viewed). p.worker) takes.sees

  subject : mid.subject ≡ old.subject
  subject = ap (λ (p : Viewed). p.subject) takes.sees

  seen : mid.seen ≡ old.seen ++ takes.includes.begins.0
  seen = ap (λ (p : Viewed). p.seen) takes.sees ∙ takes.includes.begins.1

  -- what is sound for the subject is sound for the book
  pub sound_there : (event : Event) → IsSoundEvent (run_of old.subject old.seen) event → IsSoundEvent book event
  sound_there event sound = subst (λ (s : Subject). IsSoundEvent (run_of s book.history) event) (sym takes.includes.subject) (any_journal old.subject old.seen book.history event sound)
    where
      any_journal : (s : Subject) (a b : List Entry) (e : Event) → IsSoundEvent (run_of s a) e → IsSoundEvent (run_of s b) e
      any_journal s a b (Publish i n (Some finished)) h = h
      any_journal s a b e h = tt

  pub answers : (new : Viewed) (event : Event) (reply : Reply) → new ≡ record mid { seen = mid.seen ++ entry mid.worker event reply ∷ []; holds = false }
      → IsAllowed mid.subject.base (state_of (run_of mid.subject mid.seen)) mid.worker event reply → IsHistory (setting_of (run_of mid.subject new.seen)) new.seen
      → Answers old new event reply
  answers new event reply gave allowed lawful =
      record {
        sees = λ i. record {
          table = (ap (λ (p : Viewed). p.table) gave ∙ ap (λ (p : Viewed). p.table) takes.sees) i;
          worker = (ap (λ (p : Viewed). p.worker) gave ∙ worker) i;
          subject = (ap (λ (p : Viewed). p.subject) gave ∙ subject) i;
          seen = new.seen;
          holds = (ap (λ (p : Viewed). p.holds) gave ∙ sym takes.was_free) i;
        };
        between = takes.includes.begins.0;
        ends = ap (λ (p : Viewed). p.seen) gave ∙ (λ i. seen i ++ entry (worker i) event reply ∷ []);
        none_else = none_between old.worker old.seen takes.includes.begins.0 (ap (of_worker owner old.worker) (sym takes.includes.begins.1) ∙ takes.includes.mine);
        workers = takes.includes.workers;
        allowed = subst (λ (t : ℕ × Subject × List Entry). IsAllowed t.1.base (state_of (run_of t.1 t.2)) t.0 event reply) (λ i. (worker i, subject i, seen i)) allowed;
        lawful = subst (λ (s : Subject). IsHistory (setting_of (run_of s new.seen)) new.seen) subject lawful;
      }

  -- a growth was refused
  pub watches : (new : Viewed) → new ≡ record mid { holds = false } → Watches owner old new
  watches new gave =
      let now : new.seen ≡ book.history = ap (λ (p : Viewed). p.seen) gave ∙ ap (λ (p : Viewed). p.seen) takes.sees in
      let by : new.worker ≡ old.worker = ap (λ (p : Viewed). p.worker) gave ∙ worker in
      record {
        sees = λ i. record {
          table = (ap (λ (p : Viewed). p.table) gave ∙ ap (λ (p : Viewed). p.table) takes.sees) i;
          worker = by i;
          subject = (ap (λ (p : Viewed). p.subject) gave ∙ subject) i;
          seen = new.seen;
          holds = (ap (λ (p : Viewed). p.holds) gave ∙ sym takes.was_free) i;
        };
        begins = (takes.includes.begins.0, now ∙ takes.includes.begins.1);
        mine = (λ i. of_worker owner (by i) (now i)) ∙ takes.includes.mine;
        workers = takes.includes.workers;
      }

  -- the book was given back as it was taken
  pub watches_given : (new : Viewed) → new ≡ given mid (history_of book) → Watches owner old new
  watches_given new gave = watches new (gave ∙ (λ i. record mid { seen = sym (ap (λ (p : Viewed). p.seen) takes.sees) i; holds = false }))

  -- and what it has seen is a history
  pub unmade : (new : Viewed) → new ≡ record mid { holds = false } → IsHistory (setting_of (run_of mid.subject new.seen)) new.seen → Unmade old new
  unmade new gave lawful =
      record { watches = watches new gave; lawful = λ h. subst (λ (s : Subject). IsHistory (setting_of (run_of s new.seen)) new.seen) subject lawful }

  pub made : {X : Type 0} (new : Viewed) (event : Event) (r : Result Reply X) → IfOk r (λ reply. new ≡ record mid { seen = mid.seen ++ entry mid.worker event reply ∷ []; holds = false })
      → IfOk r (λ reply. IsAllowed mid.subject.base (state_of (run_of mid.subject mid.seen)) mid.worker event reply) → IsHistory (setting_of (run_of mid.subject new.seen)) new.seen
      → OnErr r (new ≡ record mid { holds = false }) → Made old new event r
  made new event (Ok reply) gave allowed lawful err = answers new event reply gave allowed lawful
  made new event (Err e) gave allowed lawful err = unmade new err lawful

-- a call that left the pass as it was
pub unmade_so : (p q : Viewed) → q ≡ p → Unmade p q
unmade_so p q same = subst (Unmade p) (sym same) (record {
  watches = record { sees = refl; begins = ([], sym (append-nil p.seen)); mine = refl; workers = All-nil (λ e. owner e < p.table.seats) };
  lawful = λ h. h;
})

-- memory ran out before the book was taken
pub made_not : {X : Type 0} (p : Viewed) (event : Event) (r : Result Reply X) (x : X) → r ≡ Err x → Made p p event r
made_not p event r x is = subst (Made p p event) (sym is) (unmade_so p p refl)

pub tried_not : (p : Viewed) (event : Event) (r : Result Reply Refused) (x : Refused) → r ≡ Err x → Tried p p event r
tried_not p event r x is = subst (Tried p p event) (sym is) (by_why x)
  where
    by_why : (x : Refused) → Tried p p event (Err x)
    by_why Busy = refl
    by_why OutOfMemory = unmade_so p p refl
