-- A pass that took the book, looked for what can be done next, and gave the book back, with the
-- take of a request or without.
use Rattle.std.proofs.Common.{◌≡◌, ◌<◌, ℕ, Bool, true, false, length, append-nil, inl, inr, List, [], ◌∷◌, ◌++◌, Option, Some, None, Result, Ok, Err, IfOk, OnErr, refl, sym, ap, subst, ◌∙◌}
use Rattle.std.specs.Prelude.{IfSome}
use Rattle.std.proofs.lemmas.List.Elements.{All-nil}
use Rattle.incarnations.specs.declared.state.Event.{Event}
use Rattle.incarnations.specs.declared.state.Reply.{Reply}
use Rattle.block_machine.specs.Machine.{IsAllowed}
use Rattle.block_machine.specs.Serial.{IsHistory}
use Rattle.book.specs.Run.{Run, state_of, setting_of}
use Rattle.blocklock.specs.Passes.{Takes, given}
use Rattle.scheduler.specs.Task.{IsNext}
use Rattle.scheduler.specs.declared.task.Task.{Task}
use Rattle.shared.specs.Calls.{Viewed, owner, history_of, run_of, entry, Unmade}
use Rattle.shared.specs.declared.taking.Next.{Next}
use Rattle.shared.specs.InTurn.{Went}
use Rattle.shared.specs.Taking.{taking, TookFrom, TookIt, TookNone, TookBy, Took, AddsAndTakes, WentAndTook}
use Rattle.shared.proofs.InTurn.{in_turn_refused, adds, went_as}
use Rattle.shared.proofs.Made.{answers, watches, unmade}

module _ (old mid new : Viewed) (book book' : Run) (takes : Takes owner old (history_of book) mid) (gave : new ≡ given mid (history_of book')) where
  saw : mid.seen ≡ book.history
  saw = ap (λ (p : Viewed). p.seen) takes.sees

  about : mid.subject ≡ (history_of book).subject
  about = ap (λ (p : Viewed). p.subject) takes.sees ∙ sym takes.includes.subject

  seen_now : new.seen ≡ book'.history
  seen_now = ap (λ (p : Viewed). p.seen) gave

  subject_now : new.subject ≡ mid.subject
  subject_now = ap (λ (p : Viewed). p.subject) gave

  unchanged : book' ≡ book → new ≡ record mid { holds = false }
  unchanged same = gave ∙ (λ i. record mid { seen = (ap (λ (b : Run). b.history) same ∙ sym saw) i; holds = false })

  none : (most : ℕ) (next : Option Task) → taking most next ≡ None → book' ≡ book → IsNext (state_of book) next → IsHistory (setting_of book) book.history → TookNone old new most next
  none most next is same can lawful =
      let now : book ≡ run_of new.subject new.seen = λ i. run_of (sym (subject_now ∙ about) i) (sym (seen_now ∙ ap (λ (b : Run). b.history) same) i) in
      record {
        is = is;
        watches = watches old mid book takes new (unchanged same);
        lawful = subst (λ (b : Run). IsHistory (setting_of b) b.history) now lawful;
        can = subst (λ (b : Run). IsNext (state_of b) next) now can;
      }

  some : (worker most : ℕ) (next : Option Task) (reply : Reply) → worker ≡ mid.worker → TookFrom book book' worker most next reply → IsNext (state_of book) next → TookIt old new most next reply
  some worker most next reply own took can =
      let event = took.event in
      let by : worker ≡ old.worker = own ∙ ap (λ (p : Viewed). p.worker) takes.sees in
      let later : book'.history ≡ book.history ++ entry worker event reply ∷ [] = ap (λ (b : Run). b.history) took.made in
      let gave_more : new ≡ record mid { seen = mid.seen ++ entry mid.worker event reply ∷ []; holds = false } =
      gave ∙ (λ i. record mid { seen = (later ∙ (λ j. sym saw j ++ entry (own j) event reply ∷ [])) i; holds = false }) in
      let allowed : IsAllowed mid.subject.base (state_of (run_of mid.subject mid.seen)) mid.worker event reply =
      subst (λ (t : Run × ℕ). IsAllowed t.0.base (state_of t.0) t.1 event reply) (λ i. (run_of (sym about i) (sym saw i), own i)) took.allowed in
      let lawful : IsHistory (setting_of (run_of mid.subject new.seen)) new.seen =
      subst (λ (b : Run). IsHistory (setting_of b) b.history) (λ i. run_of ((ap (λ (b : Run). (history_of b).subject) took.made ∙ sym about) i) (sym seen_now i)) took.lawful in
      record {
        event = event;
        is = took.is;
        answers = answers old mid book takes new event reply gave_more allowed lawful;
        before = book.history;
        last = seen_now ∙ later ∙ (λ i. book.history ++ entry (by i) event reply ∷ []);
        could = subst (λ (b : Run). IsNext (state_of b) next) (λ i. run_of (takes.includes.subject i) book.history) can;
      }

  by_taken : (worker most : ℕ) → worker ≡ mid.worker → (next : Option Task) (taken : Option Reply) → IsHistory (setting_of book) book.history → IsNext (state_of book) next
      → (taken ≡ None → (taking most next ≡ None) × (book' ≡ book)) → IfSome taken (λ reply. TookFrom book book' worker most next reply) → TookBy old new most next taken
  by_taken worker most own next None lawful can is_none is_some = none most next (is_none refl).0 (is_none refl).1 can lawful
  by_taken worker most own next (Some reply) lawful can is_none is_some = some worker most next reply own is_some can

  took : {X : Type 0} (worker most : ℕ) → worker ≡ mid.worker → (r : Result Next X) → IsHistory (setting_of book) book.history
      → IfOk r (λ t. IsNext (state_of book) t.task) → IfOk r (λ t. t.taken ≡ None → (taking most t.task ≡ None) × (book' ≡ book))
      → IfOk r (λ t. IfSome t.taken (λ reply. TookFrom book book' worker most t.task reply)) → OnErr r (book' ≡ book) → Took old new most r
  took worker most own (Ok t) lawful can is_none is_some err = by_taken worker most own t.task t.taken lawful can is_none is_some
  took worker most own (Err e) lawful can is_none is_some err =
      unmade old mid book takes new (unchanged err)
      (subst (λ (b : Run). IsHistory (setting_of b) b.history) (λ i. run_of (sym about i) (sym (seen_now ∙ ap (λ (b : Run). b.history) err) i)) lawful)

-- the book as it was taken, as it was looked at, and as it was given back
pub took_next : {X : Type 0} (old mid new : Viewed) (before held read after : Run) (worker most : ℕ) (r : Result Next X) → Takes owner old (history_of before) mid
    → held ≡ before → read ≡ before → worker ≡ old.worker → IsHistory (setting_of read) read.history
    → IfOk r (λ t. IsNext (state_of held) t.task) → IfOk r (λ t. t.taken ≡ None → (taking most t.task ≡ None) × (after ≡ held))
    → IfOk r (λ t. IfSome t.taken (λ reply. TookFrom held after worker most t.task reply)) → OnErr r (after ≡ held) → new ≡ given mid (history_of after) → Took old new most r
took_next old mid new before held read after worker most r takes is_held is_read own lawful can is_none is_some err gave =
    took old mid new held after (subst (λ (b : Run). Takes owner old (history_of b) mid) (sym is_held) takes) gave worker most (own ∙ sym (ap (λ (p : Viewed). p.worker) takes.sees)) r
    (subst (λ (b : Run). IsHistory (setting_of b) b.history) (is_read ∙ sym is_held) lawful) can is_none is_some err

-- ---- while a pass holds the book

-- what a pass knows that holds a book of which it has seen all
holds_it : (p : Viewed) (book : Run) → (history_of book).subject ≡ p.subject → Takes owner (given p (history_of book)) (history_of book) (record p { seen = book.history; holds = true })
holds_it p book about =
    record { was_free = refl; includes = record { subject = about; begins = ([], sym (append-nil book.history)); mine = refl; workers = All-nil (λ e. owner e < p.table.seats) }; sees = refl }

pub took_while : {X : Type 0} (p : Viewed) (book book' : Run) (worker most : ℕ) (r : Result Next X) → (history_of book).subject ≡ p.subject → worker ≡ p.worker → IsHistory (setting_of book) book.history
    → IfOk r (λ t. IsNext (state_of book) t.task) → IfOk r (λ t. t.taken ≡ None → (taking most t.task ≡ None) × (book' ≡ book))
    → IfOk r (λ t. IfSome t.taken (λ reply. TookFrom book book' worker most t.task reply)) → OnErr r (book' ≡ book) → Took (given p (history_of book)) (given p (history_of book')) most r
took_while p book book' worker most r about own lawful can is_none is_some err =
    took (given p (history_of book)) (record p { seen = book.history; holds = true }) (given p (history_of book')) book book' (holds_it p book about) refl worker most own r lawful can is_none is_some err

-- Events in turn, and then the next task. Either may come to want of memory.
module _ {E : Type 0} (p : Viewed) (book mid book' : Run) (es : List Event) (rs ps : List Reply) (most : ℕ) (told : Result Bool E) where
  pub took_all : (whole : Bool) (took : Result Next E) (next : Next) → told ≡ Ok whole → took ≡ Ok next → Went p book mid es rs ps told
      → Took (given p (history_of mid)) (given p (history_of book')) most took → WentAndTook {E = E} p book book' es rs ps most (Ok (whole, next))
  took_all whole took next is then went h =
      (mid, subst (λ (r : Result Bool E). Went p book mid es rs ps r) is went, subst (λ (r : Result Next E). Took (given p (history_of mid)) (given p (history_of book')) most r) then h)

  pub took_short : (whole : Bool) (took : Result Next E) (made : Result (Bool × Next) E) (x y : E) → told ≡ Ok whole → took ≡ Err x → made ≡ Err y → Went p book mid es rs ps told
      → Took (given p (history_of mid)) (given p (history_of book')) most took → WentAndTook p book book' es rs ps most made
  took_short whole took made x y is then failed went h =
      subst (λ (r : Result (Bool × Next) E). WentAndTook p book book' es rs ps most r) (sym failed)
      (inr (mid, whole, subst (λ (r : Result Bool E). Went p book mid es rs ps r) is went, subst (λ (r : Result Next E). Took (given p (history_of mid)) (given p (history_of book')) most r) then h))

  pub took_not : (made : Result (Bool × Next) E) (x y : E) → told ≡ Err x → made ≡ Err y → Went p book book' es rs ps told → WentAndTook p book book' es rs ps most made
  took_not made x y is failed went =
      subst (λ (r : Result (Bool × Next) E). WentAndTook p book book' es rs ps most r) (sym failed) (inl (went_as p book book' es rs ps told (Err y) x y is refl went))

-- ---- the pass that took the book and gave it back

-- a growth was refused before anything was made
pub refused_first : {E : Type 0} (a : Viewed) (es : List Event) (rs qs : List Reply) (most : ℕ) (made : Result (Bool × Next) E) (x : E) → 0 < length es → made ≡ Err x → qs ≡ rs
    → AddsAndTakes a a es rs qs most made
refused_first {E} a es rs qs most made x some is still =
    subst (λ (r : Result (Bool × Next) E). AddsAndTakes a a es rs qs most r) (sym is)
    (inl (record { replies = []; added = still ∙ sym (append-nil rs); in_turn = in_turn_refused a es (Err x) x some refl }))

pub adds_and_takes : {E : Type 0} (old mid new : Viewed) (before held read after : Run) (es : List Event) (rs ps qs : List Reply) (most : ℕ) (made : Result (Bool × Next) E)
    → Takes owner old (history_of before) mid → 0 < length es → held ≡ before → read ≡ before → ps ≡ rs → IsHistory (setting_of read) read.history
    → WentAndTook mid held after es ps qs most made → new ≡ given mid (history_of after) → AddsAndTakes old new es rs qs most made
adds_and_takes {E} old mid new before held read after es rs ps qs most (Ok (whole, next)) takes some is_held is_read still lawful (between, went, then) gave = (
  given mid (history_of between),
  adds old mid (given mid (history_of between)) before held read between es rs ps qs (Ok whole) takes some is_held is_read still lawful went refl,
  subst (λ (v : Viewed). Took {E = E} (given mid (history_of between)) v most (Ok next)) (sym gave) then,
)
adds_and_takes {E} old mid new before held read after es rs ps qs most (Err e) takes some is_held is_read still lawful (inl went) gave =
    inl (adds old mid new before held read after es rs ps qs (Err e) takes some is_held is_read still lawful went gave)
adds_and_takes {E} old mid new before held read after es rs ps qs most (Err e) takes some is_held is_read still lawful (inr (between, whole, went, then)) gave =
    inr (
      given mid (history_of between),
      whole,
      adds old mid (given mid (history_of between)) before held read between es rs ps qs (Ok whole) takes some is_held is_read still lawful went refl,
      subst (Unmade (given mid (history_of between))) (sym gave) then,
    )
