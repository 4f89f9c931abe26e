-- What a pass has seen of its own calls.
use Rattle.std.specs.Prelude.{ℕ, zero, suc, ◌+◌, ◌-◌, ◌<◌, map, drop, replicate, Contains, nat_lt, option_to_list}
use Rattle.std.proofs.Common.{◌≡◌, Bool, List, [], ◌∷◌, ◌++◌, append_assoc, append-nil, Option, Some, None, Result, Ok, Err, inl, inr, refl, sym, ap, ◌∙◌, subst, arith}
use Rattle.std.specs.List.{range_with_len}
use Rattle.std.proofs.lemmas.List.Elements.{Contains-append_left, Contains-push}
use Rattle.std.proofs.lemmas.Option.{same_Some, cond_some}
use Rattle.reads.specs.Reads.{Read as Asked}
use Rattle.incarnations.specs.declared.state.Event.{Event}
use Rattle.incarnations.specs.declared.state.Event.TheVariants.{Take, Read, Publish, Commit}
use Rattle.incarnations.specs.declared.state.Reply.{Reply}
use Rattle.incarnations.specs.declared.state.Reply.TheVariants.{Published}
use Rattle.incarnations.specs.declared.state.Entry.{Entry}
use Rattle.blocklock.specs.History.{BeginsWith}
use Rattle.blocklock.specs.Passes.{Watches}
use Rattle.book.specs.Run.{kept}
use Rattle.scheduler.specs.declared.task.Task.{Task}
use Rattle.scheduler.specs.declared.task.Task.TheVariants as task
use Rattle.shared.specs.Calls.{Viewed, Answers, Made, owner, entry}
use Rattle.shared.specs.Asks.{Asker}
use Rattle.shared.specs.InTurn.{InTurn, Adds, reading, committing}
use Rattle.shared.specs.declared.taking.Next.{Next}
use Rattle.shared.specs.Taking.{taking, TookBy, Took, AddsAndTakes}
use Rattle.shared.specs.Duty.{Duty, IsPassFor}
use Rattle.pool.specs.Shown.{without_run, HasSeen, FirstIsSeen, AreSeen, StaysSeen, TakeIsSeen}

-- ---- a pass that has seen more

record IsLater (a b : Viewed) : Type 0 where
  sees : b ≡ record a { seen = b.seen }
  begins : BeginsWith b.seen a.seen

same_pass : (a : Viewed) → IsLater a a
same_pass a = record { sees = refl; begins = ([], sym (append-nil a.seen)) }

then_later : (a b c : Viewed) → IsLater a b → IsLater b c → IsLater a c
then_later a b c h k = record {
  sees = k.sees ∙ ap (λ (p : Viewed). record p { seen = c.seen }) h.sees;
  begins = (h.begins.0 ++ k.begins.0, k.begins.1 ∙ ap (λ es. es ++ k.begins.0) h.begins.1 ∙ append_assoc a.seen h.begins.0 k.begins.0);
}

later_seen : (a b : Viewed) → IsLater a b → StaysSeen a b
later_seen a b h event reply seen =
    let own : b.worker ≡ a.worker = ap (λ (p : Viewed). p.worker) h.sees in
    record {
      whole = seen.whole;
      is = seen.is;
      seen = subst (λ (t : List Entry × ℕ). Contains t.0 (record { worker = t.1; event = seen.whole; reply = reply })) (λ z. (sym h.begins.1 z, sym own z))
          (Contains-append_left a.seen h.begins.0 _ seen.seen);
    }

later_answers : (a b : Viewed) (event : Event) (reply : Reply) → Answers a b event reply → IsLater a b
later_answers a b event reply h = record {
  sees = h.sees;
  begins = (h.between ++ entry a.worker event reply ∷ [], h.ends ∙ append_assoc a.seen h.between (entry a.worker event reply ∷ []));
}

later_watches : (a b : Viewed) → Watches owner a b → IsLater a b
later_watches a b h = record { sees = h.sees; begins = h.begins }

later_made : {E : Type 0} (a b : Viewed) (event : Event) (r : Result Reply E) → Made a b event r → IsLater a b
later_made a b event (Ok reply) h = later_answers a b event reply h
later_made a b event (Err e) h = later_watches a b h.watches

later_in_turn : {E : Type 0} (a b : Viewed) (es : List Event) (rs : List Reply) (made : Result Bool E) → InTurn a es rs made b → IsLater a b
later_in_turn a b [] [] (Ok whole) h = subst (IsLater a) (sym h.1) (same_pass a)
later_in_turn a b [] [] (Err x) h = absurd h
later_in_turn a b (e ∷ es) [] (Ok whole) h = absurd h
later_in_turn a b (e ∷ es) [] (Err x) h = later_watches a b h.watches
later_in_turn a b [] (r ∷ rs) made h = absurd h
later_in_turn a b (e ∷ es) (r ∷ rs) made (next, answers, inl (on, rest)) = then_later a next b (later_answers a next e r answers) (later_in_turn next b es rs made rest)
later_in_turn a b (e ∷ es) (r ∷ rs) made (next, answers, inr (off, none, short, same)) = subst (IsLater a) (sym same) (later_answers a next e r answers)

-- ---- its own calls

without_kept : (e : Event) (r : Reply) → without_run e ≡ without_run (kept e r)
without_kept (Publish i n f) Published = refl
without_kept (Publish i n f) r = refl
without_kept e r = refl

pub answers_seen : (a b : Viewed) (event : Event) (reply : Reply) → Answers a b event reply → HasSeen b (without_run event) reply
answers_seen a b event reply h =
    let own : b.worker ≡ a.worker = ap (λ (p : Viewed). p.worker) h.sees in
    record {
      whole = kept event reply;
      is = without_kept event reply;
      seen = subst (λ (t : List Entry × ℕ). Contains t.0 (record { worker = t.1; event = kept event reply; reply = reply })) (λ z. (sym h.ends z, sym own z))
          (Contains-push (a.seen ++ h.between) (entry a.worker event reply));
    }

-- a call that was made, with its reply
pub made_seen : {E : Type 0} (a b : Viewed) (event : Event) (r : Result Reply E) (reply : Reply) → Made a b event r → r ≡ Ok reply → HasSeen b (without_run event) reply
made_seen a b event (Ok x) reply h is = let same : x ≡ reply = cc in answers_seen a b event reply (subst (Answers a b event) same h)
made_seen a b event (Err e) reply h is = absurd cc

pub made_sees : {E : Type 0} (a b : Viewed) (event : Event) (r : Result Reply E) → Made a b event r → b ≡ record a { seen = b.seen }
made_sees a b event r h = (later_made a b event r h).sees

pub made_stays : {E : Type 0} (a b : Viewed) (event : Event) (r : Result Reply E) → Made a b event r → StaysSeen a b
made_stays a b event r h = later_seen a b (later_made a b event r h)

-- calls in turn
in_turn_seen : {E : Type 0} (a b : Viewed) (es : List Event) (rs : List Reply) (made : Result Bool E) → InTurn a es rs made b → AreSeen b rs es
in_turn_seen a b es [] made h = tt
in_turn_seen a b [] (r ∷ rs) made h = absurd h
in_turn_seen a b (e ∷ es) (r ∷ rs) made (next, answers, inl (on, rest)) =
    (later_seen next b (later_in_turn next b es rs made rest) (without_run e) r (answers_seen a next e r answers), in_turn_seen next b es rs made rest)
in_turn_seen a b (e ∷ es) (r ∷ rs) made (next, answers, inr (off, none, short, same)) =
    (subst (λ (p : Viewed). HasSeen p (without_run e) r) (sym same) (answers_seen a next e r answers), subst (λ (qs : List Reply). AreSeen b qs es) (sym none) tt)

are_stays : (a b : Viewed) → StaysSeen a b → (rs : List Reply) (es : List Event) → AreSeen a rs es → AreSeen b rs es
are_stays a b stays [] es h = tt
are_stays a b stays (r ∷ rs) [] h = absurd h
are_stays a b stays (r ∷ rs) (e ∷ es) h = (stays (without_run e) r h.0, are_stays a b stays rs es h.1)

-- their replies came to a list that had none
pub adds_seen : {E : Type 0} (a b : Viewed) (es : List Event) (before after : List Reply) (made : Result Bool E) → before ≡ [] → Adds a b es before after made → AreSeen b after es
adds_seen a b es before after made none h =
    subst (λ (rs : List Reply). AreSeen b rs es) (sym (h.added ∙ ap (λ rs. rs ++ h.replies) none)) (in_turn_seen a b es h.replies made h.in_turn)

-- ---- what can be done next

taken_is : (most i : ℕ) (event : Event) → taking most (Some (task.Take i)) ≡ Some event → event ≡ Take i
taken_is most i event is = sym (cond_some (nat_lt i most) (Take i) event is).1

took_by_seen : (a b : Viewed) (most : ℕ) (t : Option Task) (taken : Option Reply) → TookBy a b most t taken → TakeIsSeen b (record { task = t; taken = taken })
took_by_seen a b most t None h i reply is it = absurd cc
took_by_seen a b most t (Some r) h i reply is it =
    let event : h.event ≡ Take i = taken_is most i h.event (ap (taking most) (sym is) ∙ h.is) in
    let same : r ≡ reply = same_Some _ _ it in
    subst (λ (x : Event × Reply). HasSeen b (without_run x.0) x.1) (λ z. (event z, same z)) (answers_seen a b h.event r h.answers)

pub took_seen : {E : Type 0} (a b : Viewed) (most : ℕ) (r : Result Next E) (next : Next) → Took a b most r → r ≡ Ok next → TakeIsSeen b next
took_seen a b most (Ok t) next h is = let same : t ≡ next = cc in subst (TakeIsSeen b) same (took_by_seen a b most t.task t.taken h)
took_seen a b most (Err e) next h is = absurd cc

-- a hint was tried as it is, whose request could be taken
pub hint_seen : {E : Type 0} (a b : Viewed) (hint : Task) (place : ℕ) (r : Result Reply E) (told : Reply) → hint ≡ task.Take place → Made a b (Take place) r → r ≡ Ok told
    → TakeIsSeen b (record { task = Some hint; taken = Some told })
hint_seen a b hint place r told is made ok i reply at it =
    let both : task.Take place ≡ task.Take i = sym is ∙ same_Some hint (task.Take i) at in
    let same : place ≡ i = cc in
    let told_it : told ≡ reply = same_Some told reply it in
    subst (λ (x : ℕ × Reply). HasSeen b (Take x.0) x.1) (λ z. (same z, told_it z)) (made_seen a b (Take place) r told made ok)

later_took : {E : Type 0} (a b : Viewed) (most : ℕ) (r : Result Next E) → Took a b most r → IsLater a b
later_took a b most (Ok t) h = by_taken t.task t.taken h
  where
    by_taken : (t : Option Task) (taken : Option Reply) → TookBy a b most t taken → IsLater a b
    by_taken t None h = later_watches a b h.watches
    by_taken t (Some reply) h = later_answers a b h.event reply h.answers
later_took a b most (Err e) h = later_watches a b h.watches

pub take_stays : (a b : Viewed) (next : Next) → StaysSeen a b → TakeIsSeen a next → TakeIsSeen b next
take_stays a b next stays h i reply is it = stays (Take i) reply (h i reply is it)

-- a pass for a duty that has seen more
pub both_watched : (d : Duty) (a b p : Viewed) (next : Next) → IsPassFor d a → TakeIsSeen a next → Watches owner a b → p ≡ b → IsPassFor d p × TakeIsSeen p next
both_watched d a b p next is seen watches same =
    subst (λ (v : Viewed). IsPassFor d v × TakeIsSeen v next) (sym same) (
      record {
        table = ap (λ (v : Viewed). v.table) watches.sees ∙ is.table;
        subject = ap (λ (v : Viewed). v.subject) watches.sees ∙ is.subject;
        holds = ap (λ (v : Viewed). v.holds) watches.sees ∙ is.holds;
      },
      take_stays a b next (later_seen a b (later_watches a b watches)) seen,
    )

pub both_same : (d : Duty) (a p : Viewed) (next : Next) → IsPassFor d a → TakeIsSeen a next → p ≡ a → IsPassFor d p × TakeIsSeen p next
both_same d a p next is seen same = subst (λ (v : Viewed). IsPassFor d v × TakeIsSeen v next) (sym same) (is, seen)

pub nothing_seen : (a : Viewed) (next : Next) → next.taken ≡ None → TakeIsSeen a next
nothing_seen a next none i reply is it = absurd (let both : None ≡ Some reply = sym none ∙ it in cc)

-- ---- both in one hold

pub adds_and_takes_seen : {E : Type 0} (a b : Viewed) (es : List Event) (before after : List Reply) (most : ℕ) (made : Result (Bool × Next) E) → before ≡ [] → AddsAndTakes a b es before after most made → AreSeen b after es
adds_and_takes_seen {E} a b es before after most (Ok (whole, next)) none (mid, adds, took) =
    are_stays mid b (later_seen mid b (later_took {E = E} mid b most (Ok next) took)) after es (adds_seen {E = E} a mid es before after (Ok whole) none adds)
adds_and_takes_seen a b es before after most (Err e) none (inl adds) = adds_seen a b es before after (Err e) none adds
adds_and_takes_seen {E} a b es before after most (Err e) none (inr (mid, whole, adds, unmade)) =
    are_stays mid b (later_seen mid b (later_watches mid b unmade.watches)) after es (adds_seen {E = E} a mid es before after (Ok whole) none adds)

pub adds_and_takes_take : {E : Type 0} (a b : Viewed) (es : List Event) (before after : List Reply) (most : ℕ) (made : Result (Bool × Next) E) (got : Bool × Next) → AddsAndTakes a b es before after most made → made ≡ Ok got → TakeIsSeen b got.1
adds_and_takes_take {E} a b es before after most (Ok (whole, next)) got (mid, adds, took) is =
    took_seen {E = E} mid b most (Ok next) got.1 took (let same : (whole, next) ≡ got = cc in ap (λ (t : Bool × Next). Ok t.1) same)
adds_and_takes_take a b es before after most (Err e) got h is = absurd cc

-- ---- one after another

pub first_seen : (p : Viewed) (e : Event) (es : List Event) (rs : List Reply) → AreSeen p rs (e ∷ es) → FirstIsSeen p (without_run e) rs
first_seen p e es [] h = tt
first_seen p e es (r ∷ rs) h = h.0

pub others_seen : (p : Viewed) (e : Event) (es : List Event) (rs later : List Reply) → AreSeen p rs (e ∷ es) → later ≡ drop 1 rs → AreSeen p later es
others_seen p e es [] later h is = subst (λ (qs : List Reply). AreSeen p qs es) (sym is) tt
others_seen p e es (r ∷ rs) later h is = subst (λ (qs : List Reply). AreSeen p qs es) (sym is) h.1

pub one_seen : (p : Viewed) (event : Event) (o : Option Reply) (reply : Reply) (rs later : List Reply) → FirstIsSeen p event rs → rs ≡ option_to_list o ++ later → o ≡ Some reply → HasSeen p event reply
one_seen p event o reply rs later h is it = subst (FirstIsSeen p event) (is ∙ ap (λ x. option_to_list x ++ later) it) h

-- a reply to a read, among those to many
pub read_seen : (p : Viewed) (i n : ℕ) (r : Asked) (left others : List Asked) (reply : Reply) (rs later : List Reply) → AreSeen p rs (reading i n left) → left ≡ r ∷ others → rs ≡ reply ∷ later
    → HasSeen p (Read i n r) reply × AreSeen p later (reading i n others)
read_seen p i n r left others reply rs later h reads are = subst (λ (t : List Asked × List Reply). AreSeen p t.1 (reading i n t.0)) (λ z. (reads z, are z)) h

-- a reply to a read of the same one that answers
pub same_asker : (a b : Asker) (r : Asked) (reply : Reply) → b ≡ a → HasSeen a.pass (Read a.place a.incarnation r) reply → HasSeen b.pass (Read b.place b.incarnation r) reply
same_asker a b r reply same h = subst (λ (x : Asker). HasSeen x.pass (Read x.place x.incarnation r) reply) (sym same) h

-- the same replies
pub same_seen : (p : Viewed) (es : List Event) (rs qs : List Reply) → qs ≡ rs → AreSeen p rs es → AreSeen p qs es
same_seen p es rs qs same h = subst (λ (xs : List Reply). AreSeen p xs es) (sym same) h

pub none_seen : (p : Viewed) (es : List Event) (rs : List Reply) → rs ≡ [] → AreSeen p rs es
none_seen p es rs none = subst (λ (qs : List Reply). AreSeen p qs es) (sym none) tt

-- the checks and the commits that are left

one_check : (n : ℕ) (x : Event) (es : List Event) → 0 < n → replicate n x ++ es ≡ x ∷ (replicate (n - 1) x ++ es)
one_check zero x es some = absurd (omega (arith, some))
one_check (suc n) x es some = let same : n ≡ suc n - 1 = omega arith in ap (λ m. x ∷ (replicate m x ++ es)) same

pub check_seen : (p : Viewed) (n : ℕ) (x : Event) (es : List Event) (rs : List Reply) → 0 < n → AreSeen p rs (replicate n x ++ es) → AreSeen p rs (x ∷ (replicate (n - 1) x ++ es))
check_seen p n x es rs some h = subst (AreSeen p rs) (one_check n x es some) h

one_commit : (i until : ℕ) → i < until → committing i until ≡ Commit i ∷ committing (i + 1) until
one_commit i until lt =
    let one : until - i ≡ suc (until - (i + 1)) = omega (arith, lt) in
    ap (λ n. map (λ j. Commit j) (range_with_len i n)) one

pub commit_seen : (p : Viewed) (i until : ℕ) (rs : List Reply) → i < until → AreSeen p rs (committing i until) → AreSeen p rs (Commit i ∷ committing (i + 1) until)
commit_seen p i until rs lt h = subst (AreSeen p rs) (one_commit i until lt) h
