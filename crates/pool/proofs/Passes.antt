-- A pass that made a call is still for its duty.
use Rattle.std.proofs.Common.{◌≡◌, ◌<◌, ◌≤◌, ℕ, List, [], ◌∷◌, ◌++◌, ◌+◌, length, length-append, take, drop, All, Bool, Option, Some, None, inl, inr, Result, Ok, Err, refl, sym, ap, ◌∙◌, subst, arith}
use Rattle.std.proofs.lemmas.List.{take_all}
use Rattle.std.proofs.lemmas.List.Elements.{All-append, All-take, All-drop}
use Rattle.datasets.specs.declared.id.Id.{Id}
use Rattle.terms.specs.declared.term.Term.{Term}
use Rattle.dict.specs.Dictionary.{numbers}
use Rattle.meaning.specs.Run.{Request, run, run_of_first}
use Rattle.meaning.specs.declared.reply.Reply.{Reply}
use Rattle.reads.specs.Reads.{View, Read, Answer}
use Rattle.incarnations.specs.declared.state.Event.{Event}
use Rattle.incarnations.specs.declared.state.Reply.{Reply as Told}
use Rattle.blocklock.specs.Passes.{Includes}
use Rattle.book.specs.Run.{Run, front_run, state_of}
use Rattle.shared.specs.Calls.{Viewed, Made, owner, history_of, run_of}
use Rattle.scheduler.specs.declared.task.Task.{Task}
use Rattle.shared.specs.InTurn.{Adds}
use Rattle.shared.specs.declared.taking.Next.{Next}
use Rattle.shared.specs.Taking.{TookBy, Took, AddsAndTakes}
use Rattle.shared.specs.Duty.{Duty, IsPassFor}
use Rattle.shared.specs.Asks.{Asker, Asks}
use Rattle.shared.proofs.Asking.{asks_sees}
use Rattle.reads.specs.Asking.{Asked}
use Rattle.asking.specs.Goes.{Ends, Stops}
use Rattle.asking.proofs.Notes.{asked_all}
use Rattle.reads.specs.declared.note.Note.{Note}
use Rattle.reads.specs.declared.source.Stop.{Stop}
use Rattle.reads.specs.declared.source.Stop.TheVariants.{Blocked, Memory, Stale}
use Rattle.pool.proofs.AskingAll.{sees_in_turn}
use Rattle.datasets.specs.Id.{id_order}
use Rattle.asking.specs.Near.{is_near_request}
use Rattle.update.specs.Asked.{operations_of}
use Rattle.pool.specs.Duty.{MayBegin, IsDone, AreDone}
use Rattle.pool.specs.Stopped.{HasStopped, IsUnanswered}

-- a pass that has seen more is still for its duty
seen_for : (d : Duty) (old new : Viewed) → IsPassFor d old → new ≡ record old { seen = new.seen } → IsPassFor d new
seen_for d old new h sees =
    record {
      table = ap (λ (p : Viewed). p.table) sees ∙ h.table;
      subject = ap (λ (p : Viewed). p.subject) sees ∙ h.subject;
      holds = ap (λ (p : Viewed). p.holds) sees ∙ h.holds;
    }

pub still_for : {E : Type 0} (d : Duty) (old new : Viewed) (event : Event) (r : Result Told E) → IsPassFor d old → Made old new event r → IsPassFor d new
still_for d old new event (Ok reply) h made = seen_for d old new h made.sees
still_for d old new event (Err e) h made = seen_for d old new h made.watches.sees

-- one that made events in turn
pub still_adds : {E : Type 0} (d : Duty) (old new : Viewed) (events : List Event) (before after : List Told) (made : Result Bool E) → IsPassFor d old
    → Adds old new events before after made → IsPassFor d new
still_adds d old new events before after made h adds = seen_for d old new h (sees_in_turn old new events adds.replies made adds.in_turn)

-- one that looked for what can be done next
still_takes : {E : Type 0} (d : Duty) (old new : Viewed) (most : ℕ) (r : Result Next E) → IsPassFor d old → Took old new most r → IsPassFor d new
still_takes d old new most (Ok t) h took = by_taken t.task t.taken took
  where
    by_taken : (task : Option Task) (taken : Option Told) → TookBy old new most task taken → IsPassFor d new
    by_taken task None took = seen_for d old new h took.watches.sees
    by_taken task (Some reply) took = seen_for d old new h took.answers.sees
still_takes d old new most (Err e) h took = seen_for d old new h took.watches.sees

-- one that did both in one hold
pub still_adds_and_takes : {E : Type 0} (d : Duty) (old new : Viewed) (events : List Event) (before after : List Told) (most : ℕ) (made : Result (Bool × Next) E) → IsPassFor d old
    → AddsAndTakes old new events before after most made → IsPassFor d new
still_adds_and_takes {E} d old new events before after most (Ok (whole, next)) h (mid, adds, took) =
    still_takes {E = E} d mid new most (Ok next) (still_adds {E = E} d old mid events before after (Ok whole) h adds) took
still_adds_and_takes d old new events before after most (Err e) h (inl adds) = still_adds d old new events before after (Err e) h adds
still_adds_and_takes {E} d old new events before after most (Err e) h (inr (mid, whole, adds, unmade)) =
    seen_for d mid new (still_adds {E = E} d old mid events before after (Ok whole) h adds) unmade.watches.sees

-- ---- a run whose reads a pass answers

asked_for : (d : Duty) (a a' : Asker) (r : Read) (told : Result Answer Stop) → IsPassFor d a.pass → Asks a r told a' → IsPassFor d a'.pass
asked_for d a a' r told h asks =
    let sees = asks_sees a a' r told asks in
    record {
      table = ap (λ (p : Viewed). p.table) sees ∙ h.table;
      subject = ap (λ (p : Viewed). p.subject) sees ∙ h.subject;
      holds = ap (λ (p : Viewed). p.holds) sees ∙ h.holds;
    }

-- the run came to its end
pub ran_for : (d : Duty) (notes : List Note) (a a' : Asker) → IsPassFor d a.pass → Asked Asks a notes a' → IsPassFor d a'.pass
ran_for d notes a a' h asked =
    (asked_all Asks (λ b. IsPassFor d b.pass) (λ r x. Unit {0}) (λ b b' r x k asks. (asked_for d b b' r (Ok x) k asks, tt)) notes a a' h asked).0

-- it was stopped
pub stopped_for : (d : Duty) (allowed : Read → Bool) (stop : Stop) (a a' : Asker) → IsPassFor d a.pass → Stops Asks allowed a a' stop → IsPassFor d a'.pass
stopped_for d allowed stop a a' h stops =
    let went = stops.1 in
    ended went.last (ran_for d went.more a went.last h went.asked) went.ends
  where
    ended : (b : Asker) → IsPassFor d b.pass → Ends Asks allowed b (Some stop) a' → IsPassFor d a'.pass
    ended b k (inl (short, same)) = subst (λ z. IsPassFor d z.pass) same k
    ended b k (inr (r, near, asks)) = asked_for d b a' r (Err stop) k asks

-- asking changes of what answers only its pass
stopped_as : (allowed : Read → Bool) (stop : Stop) (a a' : Asker) → Stops Asks allowed a a' stop → a' ≡ record a { pass = a'.pass }
stopped_as allowed stop a a' stops =
    let went = stops.1 in
    ended went.last (asked_all Asks (λ b. b ≡ record a { pass = b.pass }) (λ r x. Unit {0}) (λ b b' r x k asks. (asks.0 ∙ ap (λ (c : Asker). record c { pass = b'.pass }) k, tt)) went.more a went.last refl went.asked).0 went.ends
  where
    ended : (b : Asker) → b ≡ record a { pass = b.pass } → Ends Asks allowed b (Some stop) a' → a' ≡ record a { pass = a'.pass }
    ended b k (inl (short, same)) = subst (λ (z : Asker). z ≡ record a { pass = z.pass }) same k
    ended b k (inr (r, near, asks)) = asks.0 ∙ ap (λ (c : Asker). record c { pass = a'.pass }) k

module _ (request : Request Id) (i n : ℕ) (old new : Viewed) (a a' : Asker) (is : a ≡ record { pass = old; place = i; incarnation = n }) (end : new ≡ a'.pass) (stop : Stop)
    (stops : Stops Asks (is_near_request id_order (operations_of request)) a a' stop) where
  has_stopped : HasStopped request i n old new stop
  has_stopped =
      let whole : a' ≡ record { pass = new; place = i; incarnation = n } =
      stopped_as _ stop a a' stops ∙ (λ z. record { pass = sym end z; place = (is z).place; incarnation = (is z).incarnation }) in
      subst (λ (t : Asker × Asker). Stops Asks (is_near_request id_order (operations_of request)) t.0 t.1 stop) (λ z. (is z, whole z)) stops

  pub short_stopped : stop ≡ Memory → HasStopped request i n old new Memory
  short_stopped e = subst (HasStopped request i n old new) e has_stopped

  pub blocked_unanswered : (j : ℕ) → stop ≡ Blocked j → IsUnanswered request i n old new
  blocked_unanswered j e = record { stop = stop; other = λ short. absurd (let both : Blocked j ≡ Memory = sym e ∙ short in cc); stopped = has_stopped }

  pub stale_unanswered : stop ≡ Stale → IsUnanswered request i n old new
  stale_unanswered e = record { stop = stop; other = λ short. absurd (let both : Stale ≡ Memory = sym e ∙ short in cc); stopped = has_stopped }

-- ---- the book that is closed with passes that are done

pub subject_is : (d : Duty) (book : Run) (before ps : List Viewed) (n : ℕ) → length before ≡ n → 0 < n → AreDone d before ps → All (λ p. Includes owner p (history_of book)) ps
    → (history_of book).subject ≡ d.subject
subject_is d book before [] n is some done included = absurd (let none = done.count in omega (arith, is, some, none))
subject_is d book before (p ∷ ps) n is some done included = (included 0 p (omega arith)).subject ∙ (done.done 0 p (omega arith)).pass.subject

pub front_is : (d : Duty) (book : Run) (before ps : List Viewed) (n : ℕ) → length before ≡ n → 0 < n → AreDone d before ps
    → All (λ p. (state_of (run_of p.subject p.seen)).front ≤ (state_of book).front) ps → length d.subject.block ≤ (state_of book).front
front_is d book before [] n is some done fronts = absurd (let none = done.count in omega (arith, is, some, none))
front_is d book before (p ∷ ps) n is some done fronts =
    let reached = fronts 0 p (omega arith) in
    let whole = (done.done 0 p (omega arith)).whole in
    omega (arith, whole, reached)

-- ---- two crews

pub front_may_begin : (d e : Duty) (n : ℕ) (all some : List Viewed) → e ≡ d → some ≡ take n all → MayBegin d all → MayBegin e some
front_may_begin d e n all some same is h =
    subst (λ (x : Duty). MayBegin x some) (sym same) (record { passes = subst (All (IsPassFor d)) (sym is) (All-take (IsPassFor d) n all h.passes); size = h.size; short = h.short })

pub rest_may_begin : (d e : Duty) (n : ℕ) (all some : List Viewed) → e ≡ d → some ≡ drop n all → MayBegin d all → MayBegin e some
rest_may_begin d e n all some same is h =
    subst (λ (x : Duty). MayBegin x some) (sym same) (record { passes = subst (All (IsPassFor d)) (sym is) (All-drop (IsPassFor d) n all h.passes); size = h.size; short = h.short })

pub both_done : (d e f : Duty) (before first second left right all : List Viewed) → e ≡ d → f ≡ d → length first + length second ≡ length before
    → AreDone e first left → AreDone f second right → all ≡ left ++ right → AreDone d before all
both_done d e f before first second left right all same_e same_f count a b is =
    let own : All (IsDone d) left = subst (λ x. All (IsDone x) left) same_e a.done in
    let other : All (IsDone d) right = subst (λ x. All (IsDone x) right) same_f b.done in
    let long : length all ≡ length left + length right = ap length is ∙ length-append left right in
    let n = a.count in
    let m = b.count in
    record {
      count = omega (arith, long, n, m, count);
      done = subst (λ xs. All (IsDone d) xs) (sym is) (All-append (IsDone d) left right own other);
    }

-- ---- the whole block

pub whole_run : (terms : List Term) (base : View) (block : List (Request Id)) (book : Run) (dataset : View) (replies : List Reply)
    → book.terms ≡ terms → book.base ≡ base → book.block ≡ block → length block ≤ (state_of book).front → (dataset, replies) ≡ front_run book
    → (dataset, replies) ≡ run (numbers terms) block base
whole_run terms base block book dataset replies is_terms is_base is_block whole e =
    e ∙ (λ t. run_of_first (numbers (is_terms t)) (state_of book).front (is_block t) (is_base t))
    ∙ ap (λ (b : List (Request Id)). run (numbers terms) b base) (take_all (state_of book).front block whole)
