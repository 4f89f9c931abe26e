-- Many reads that a pass answers in one hold of the book.
use Rattle.std.proofs.Common.{◌≡◌, ℕ, ◌<◌, ◌+◌, arith, length, get_or, drop, Bool, true, false, ◌==◌, List, [], ◌∷◌, ◌++◌, Option, Some, None, Result, Ok, Err, ◌⊎◌, inl, inr, refl, sym, ap, subst, ◌∙◌}
use Rattle.std.specs.Prelude.{if◌then◌else◌, option_to_list}
use Rattle.std.specs.Result.{IsErrAnd}
use Rattle.reads.specs.Reads.{View, Read, Answer}
use Rattle.reads.specs.Asking.{AsksAll}
use Rattle.reads.specs.declared.note.Note.{Note}
use Rattle.reads.specs.declared.source.Stop.{Stop}
use Rattle.reads.specs.declared.source.Stop.TheVariants.{Memory}
use Rattle.reads.proofs.Asking.{Went, went_on, went_through, went_until}
use Rattle.incarnations.specs.declared.state.Event.{Event}
use Rattle.incarnations.specs.declared.state.Event.TheVariants.{Read as ReadOf}
use Rattle.incarnations.specs.declared.state.Status.{Status}
use Rattle.incarnations.specs.declared.state.Status.TheVariants as status
use Rattle.incarnations.specs.declared.state.Reply.{Reply}
use Rattle.incarnations.specs.declared.state.Reply.TheVariants as told
use Rattle.incarnations.specs.Statuses.{execution_refusal}
use Rattle.slots.specs.Slots.{status_of}
use Rattle.block_machine.specs.Machine.{State, IsAllowed, Unless}
use Rattle.book.specs.Run.{state_of}
use Rattle.shared.specs.Calls.{Viewed, Answers, run_of}
use Rattle.shared.specs.Asks.{Asker, Asks, told_by}
use Rattle.shared.specs.InTurn.{lets_go_on, InTurn, reading}

-- ---- what a read is replied

-- a reply that lets a worker go on is no refusal
not_refused : (o : Option Status) (n w : ℕ) (reply : Reply) (Row : Type 0) → lets_go_on reply ≡ true → Unless (execution_refusal o n w) reply Row → Row
not_refused o n w reply Row on h = by_status o h
  where
    no_stale : reply ≡ told.Stale → Row
    no_stale is = absurd (let off : true ≡ false = sym on ∙ ap lets_go_on is in cc)

    by_tests : (a b : Bool) → Unless (if a then (if b then None else Some told.NotYours) else Some told.Stale) reply Row → Row
    by_tests true true h = h
    by_tests true false h = absurd (let off : true ≡ false = sym on ∙ ap lets_go_on h in cc)
    by_tests false b h = no_stale h

    by_status : (o : Option Status) → Unless (execution_refusal o n w) reply Row → Row
    by_status (Some (status.Executing m by)) h = by_tests (m == n) (by == w) h
    by_status (Some (status.Ready m)) h = no_stale h
    by_status (Some (status.Executed m)) h = no_stale h
    by_status (Some (status.Committed m)) h = no_stale h
    by_status None h = no_stale h

-- the reply to a read that stops a run doesn't let the worker go on
stops_here : (base : View) (s : State) (w i n : ℕ) (r : Read) (reply : Reply) (stop : Stop) → IsAllowed base s w (ReadOf i n r) reply → Err stop ≡ told_by reply → lets_go_on reply ≡ false
stops_here base s w i n r (told.Answered a) stop h is = absurd (cc)
stops_here base s w i n r told.Published stop h is = absurd (not_refused (status_of s.slots i) n w told.Published _ refl h)
stops_here base s w i n r told.Begun stop h is = absurd (not_refused (status_of s.slots i) n w told.Begun _ refl h)
stops_here base s w i n r told.Passed stop h is = absurd (not_refused (status_of s.slots i) n w told.Passed _ refl h)
stops_here base s w i n r told.Committed stop h is = absurd (not_refused (status_of s.slots i) n w told.Committed _ refl h)
stops_here base s w i n r (told.Taken m) stop h is = refl
stops_here base s w i n r (told.Blocked j) stop h is = refl
stops_here base s w i n r told.Aborted stop h is = refl
stops_here base s w i n r told.Given stop h is = refl
stops_here base s w i n r told.Stale stop h is = refl
stops_here base s w i n r told.NotYours stop h is = refl
stops_here base s w i n r told.NotYet stop h is = refl

-- a reply that gives an answer lets it go on
goes_on_here : (reply : Reply) (a : Answer) → Ok a ≡ told_by reply → lets_go_on reply ≡ true
goes_on_here (told.Answered b) a is = refl
goes_on_here told.Published a is = refl
goes_on_here told.Begun a is = refl
goes_on_here told.Passed a is = refl
goes_on_here told.Committed a is = refl
goes_on_here (told.Taken m) a is = absurd (cc)
goes_on_here (told.Blocked j) a is = absurd (cc)
goes_on_here told.Aborted a is = absurd (cc)
goes_on_here told.Given a is = absurd (cc)
goes_on_here told.Stale a is = absurd (cc)
goes_on_here told.NotYours a is = absurd (cc)
goes_on_here told.NotYet a is = absurd (cc)

-- ---- first of a list

first_of : {A : Type 0} (xs : List A) (d : A) → 0 < length xs → xs ≡ get_or xs 0 d ∷ drop 1 xs
first_of [] d some = absurd (omega (arith, some))
first_of (x ∷ xs) d some = refl

pub some_first : {A : Type 0} (xs : List A) → 0 < length xs → (x : A) × (xs ≡ x ∷ drop 1 xs)
some_first [] some = absurd (omega (arith, some))
some_first (x ∷ xs) some = (x, refl)

pub first_is : {A : Type 0} (xs ys : List A) (d : A) → 0 < length xs → ys ≡ drop 1 xs → xs ≡ get_or xs 0 d ∷ ys
first_is xs ys d some rest = first_of xs d some ∙ (λ t. get_or xs 0 d ∷ sym rest t)

pub one_less : {A : Type 0} (xs ys : List A) → 0 < length xs → ys ≡ drop 1 xs → length ys + 1 ≡ length xs
one_less [] ys some rest = absurd (omega (arith, some))
one_less (x ∷ xs) ys some rest = omega (arith, ap length rest)

pub popped_first : {A : Type 0} (xs ys : List A) (o : Option A) (x : A) → xs ≡ option_to_list o ++ ys → o ≡ Some x → xs ≡ x ∷ ys
popped_first xs ys o x e is = e ∙ ap (λ z. option_to_list z ++ ys) is

-- ---- going along the replies

-- some of the reads were noted with their answers; the others are left, with the replies that are
-- left of those that were made in turn
pub record Along {E : Type 0} (a : Asker) (made : Result Bool E) (old : Viewed) (reads left : List Read) (replies : List Reply) (notes notes' : List Note) : Type 0 where
  pub mid : Viewed
  pub went : Went Asks (record a { pass = old }) reads left notes notes' (record a { pass = mid })
  pub turn : InTurn mid (reading a.place a.incarnation left) replies made a.pass

module _ {E : Type 0} (a : Asker) (made : Result Bool E) where
  module _ (old : Viewed) (reads left others : List Read) (r : Read) (is : left ≡ r ∷ others) (replies later : List Reply) (reply : Reply) (are : replies ≡ reply ∷ later) (notes ns : List Note)
      (along : Along a made old reads left replies notes ns) where
    turn_is : InTurn along.mid (reading a.place a.incarnation (r ∷ others)) (reply ∷ later) made a.pass
    turn_is = subst (λ (t : List Read × List Reply). InTurn along.mid (reading a.place a.incarnation t.0) t.1 made a.pass) (λ t. (is t, are t)) along.turn

    -- one more was answered
    pub along_next : (answer : Answer) (ms : List Note) → Ok answer ≡ told_by reply → ms ≡ ns ++ record { read = r; answer = answer } ∷ [] → Along a made old reads others later notes ms
    along_next answer ms told noted = go turn_is
      where
        go : InTurn along.mid (reading a.place a.incarnation (r ∷ others)) (reply ∷ later) made a.pass → Along a made old reads others later notes ms
        go (next, answers, inl (on, rest)) =
            record { mid = next; went = went_on along.went (record { read = r; answer = answer }) others ms is noted (refl, inl (reply, answers, told)); turn = rest }
        go (next, answers, inr (off, none, short, same)) = absurd (let wrong : true ≡ false = sym (goes_on_here reply answer told) ∙ off in cc)

    -- one stops the run
    pub along_stops : {A : Type 0} (stop : Stop) (result : Result A Stop) → Err stop ≡ told_by reply → IsErrAnd result (λ it. it ≡ stop) → AsksAll Asks (record a { pass = old }) reads notes ns result a
    along_stops {A} stop result told fails = go turn_is
      where
        go : InTurn along.mid (reading a.place a.incarnation (r ∷ others)) (reply ∷ later) made a.pass → AsksAll Asks {A = A} (record a { pass = old }) reads notes ns result a
        go (next, answers, inl (on, rest)) =
            absurd (let wrong : true ≡ false = sym on ∙ stops_here along.mid.subject.base (state_of (run_of along.mid.subject (along.mid.seen ++ answers.between))) along.mid.worker a.place a.incarnation r reply stop answers.allowed told in cc)
        go (next, answers, inr (off, none, short, same)) =
            went_until result along.went r others is (refl, inl (reply, subst (λ (v : Viewed). Answers along.mid v (ReadOf a.place a.incarnation r) reply) (sym same) answers, told)) fails

  -- ---- the end, where no read or no reply is left

  pub along_whole : {A : Type 0} (old : Viewed) (reads left : List Read) (replies : List Reply) (notes ns : List Note) (x : A) (whole : Bool) → (left ≡ []) ⊎ (replies ≡ []) → made ≡ Ok whole
      → Along a made old reads left replies notes ns → AsksAll Asks (record a { pass = old }) reads notes ns (Ok x) a
  along_whole {A} old reads left replies notes ns x whole over is along = go left replies over along.went (subst (λ (m : Result Bool E). InTurn along.mid (reading a.place a.incarnation left) replies m a.pass) is along.turn)
    where
      go : (left : List Read) (replies : List Reply) → (left ≡ []) ⊎ (replies ≡ []) → Went Asks (record a { pass = old }) reads left notes ns (record a { pass = along.mid })
          → InTurn {E = E} along.mid (reading a.place a.incarnation left) replies (Ok whole) a.pass → AsksAll Asks {A = A} (record a { pass = old }) reads notes ns (Ok x) a
      go [] [] over w t = subst (λ (v : Viewed). AsksAll Asks {A = A} (record a { pass = old }) reads notes ns (Ok x) (record a { pass = v })) (sym t.1) (went_through x w refl)
      go [] (q ∷ qs) over w t = absurd t
      go (r ∷ rs) [] over w t = absurd t
      go (r ∷ rs) (q ∷ qs) (inl wrong) w t = absurd (cc)
      go (r ∷ rs) (q ∷ qs) (inr wrong) w t = absurd (cc)

  pub along_short : {A : Type 0} (old : Viewed) (reads left : List Read) (replies : List Reply) (notes ns : List Note) (e : E) (result : Result A Stop) → (left ≡ []) ⊎ (replies ≡ []) → made ≡ Err e
      → IsErrAnd result (λ it. it ≡ Memory) → Along a made old reads left replies notes ns → AsksAll Asks (record a { pass = old }) reads notes ns result a
  along_short {A} old reads left replies notes ns e result over is fails along = go left replies over along.went (subst (λ (m : Result Bool E). InTurn along.mid (reading a.place a.incarnation left) replies m a.pass) is along.turn)
    where
      go : (left : List Read) (replies : List Reply) → (left ≡ []) ⊎ (replies ≡ []) → Went Asks (record a { pass = old }) reads left notes ns (record a { pass = along.mid })
          → InTurn {E = E} along.mid (reading a.place a.incarnation left) replies (Err e) a.pass → AsksAll Asks {A = A} (record a { pass = old }) reads notes ns result a
      go [] [] over w t = absurd t
      go [] (q ∷ qs) over w t = absurd t
      go (r ∷ rs) [] over w t = went_until result w r rs refl (refl, inr (refl, t)) fails
      go (r ∷ rs) (q ∷ qs) (inl wrong) w t = absurd (cc)
      go (r ∷ rs) (q ∷ qs) (inr wrong) w t = absurd (cc)

-- events in turn change of a pass only what it has seen
pub sees_in_turn : {E : Type 0} (a b : Viewed) (es : List Event) (rs : List Reply) (made : Result Bool E) → InTurn a es rs made b → b ≡ record a { seen = b.seen }
sees_in_turn a b [] [] (Ok whole) h = subst (λ (v : Viewed). v ≡ record a { seen = v.seen }) (sym h.1) refl
sees_in_turn a b [] [] (Err x) h = absurd h
sees_in_turn a b (e ∷ es) [] (Ok whole) h = absurd h
sees_in_turn a b (e ∷ es) [] (Err x) h = h.watches.sees
sees_in_turn a b [] (r ∷ rs) made h = absurd h
sees_in_turn a b (e ∷ es) (r ∷ rs) made (next, answers, inl (on, rest)) = sees_in_turn next b es rs made rest ∙ ap (λ (v : Viewed). record v { seen = b.seen }) answers.sees
sees_in_turn a b (e ∷ es) (r ∷ rs) made (next, answers, inr (off, none, short, same)) = subst (λ (v : Viewed). v ≡ record a { seen = v.seen }) (sym same) answers.sees
