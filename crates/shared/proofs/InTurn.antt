-- Events that a worker makes in turn.
use Rattle.std.proofs.Common.{◌≡◌, ℕ, ◌+◌, ◌-◌, ◌<◌, ◌≤◌, eqb, Bool, true, false, List, [], ◌∷◌, ◌++◌, append_assoc, append-nil, length, get_or, take, drop, add-one, arith, refl, sym, ap, subst, ◌∙◌, Result, Ok, Err, inl, inr}
use Rattle.std.proofs.lemmas.Bool.{eq-eqb}
use Rattle.std.proofs.lemmas.List.{length-map, length-replicate, take-append-drop, take_all, take_more, drop_more, get_or-replicate, get_or-map}
use Rattle.std.proofs.lemmas.List.FromFn.{length-map-range_with_len, get_or-map-range_with_len}
use Rattle.std.proofs.lemmas.List.Elements.{filter-append, All-append, All-nil}
use Rattle.incarnations.specs.declared.state.Entry.{Entry}
use Rattle.incarnations.specs.declared.state.Event.{Event}
use Rattle.incarnations.specs.declared.state.Event.TheVariants.{Read as ReadOf, Check, Commit}
use Rattle.incarnations.specs.declared.state.Reply.{Reply}
use Rattle.block_machine.specs.Machine.{IsAllowed}
use Rattle.block_machine.specs.Serial.{IsHistory}
use Rattle.reads.specs.Reads.{View, Read}
use Rattle.reads.specs.Questions.{Question}
use Rattle.book.specs.Run.{Run, state_of, setting_of}
use Rattle.blocklock.specs.History.{of_worker, AreBelow, GoesOn}
use Rattle.blocklock.specs.Passes.{Takes, Watches, given}
use Rattle.shared.specs.declared.kept.Subject.{Subject}
use Rattle.shared.specs.Calls.{Viewed, owner, history_of, run_of, entry, Answers}
use Rattle.shared.specs.InTurn.{lets_go_on, InTurn, Adds, questions, reading, checking, committing, Went}
use Rattle.shared.proofs.Made.{none_between, unmade_so, watches}

-- ---- one pass after another

module _ (a b c : Viewed) (first : Watches owner a b) where
  by : b.worker ≡ a.worker
  by = ap (λ (v : Viewed). v.worker) first.sees

  about : b.subject ≡ a.subject
  about = ap (λ (v : Viewed). v.subject) first.sees

  -- what the pass saw then, behind what it had seen more
  below_more : (es : List Entry) → AreBelow owner b.table.seats es → AreBelow owner a.table.seats (first.begins.0 ++ es)
  below_more es h =
      All-append (λ e. owner e < a.table.seats) first.begins.0 es first.workers
      (subst (λ n. AreBelow owner n es) (ap (λ (v : Viewed). v.table.seats) first.sees) h)

  watches_more : Watches owner b c → Watches owner a c
  watches_more h =
      record {
        sees = h.sees ∙ ap (λ (v : Viewed). record v { seen = c.seen }) first.sees;
        begins = (first.begins.0 ++ h.begins.0, h.begins.1 ∙ ap (λ es. es ++ h.begins.0) first.begins.1 ∙ append_assoc a.seen first.begins.0 h.begins.0);
        mine = h.mine ∙ first.mine;
        workers = below_more h.begins.0 h.workers;
      }

  answers_more : (event : Event) (reply : Reply) → Answers b c event reply → Answers a c event reply
  answers_more event reply h =
      let seen : b.seen ++ h.between ≡ a.seen ++ (first.begins.0 ++ h.between) = ap (λ es. es ++ h.between) first.begins.1 ∙ append_assoc a.seen first.begins.0 h.between in
      let none : of_worker owner a.worker first.begins.0 ≡ [] =
      none_between a.worker a.seen first.begins.0 (ap (of_worker owner a.worker) (sym first.begins.1) ∙ (λ t. of_worker owner (sym by t) b.seen) ∙ first.mine) in
      let none_then : of_worker owner a.worker h.between ≡ [] = (λ t. of_worker owner (sym by t) h.between) ∙ h.none_else in
      record {
        sees = h.sees ∙ ap (λ (v : Viewed). record v { seen = c.seen }) first.sees;
        between = first.begins.0 ++ h.between;
        ends = h.ends ∙ (λ t. seen t ++ entry (by t) event reply ∷ []);
        none_else = filter-append (λ e. eqb (owner e) a.worker) first.begins.0 h.between ∙ (λ t. none t ++ none_then t);
        workers = below_more h.between h.workers;
        allowed = subst (λ (t : ℕ × Subject × List Entry). IsAllowed t.1.base (state_of (run_of t.1 t.2)) t.0 event reply) (λ t. (by t, about t, seen t)) h.allowed;
        lawful = subst (λ (s : Subject). IsHistory (setting_of (run_of s c.seen)) c.seen) about h.lawful;
      }

-- events that are made after the pass has seen more
in_turn_later : {E : Type 0} (a b c : Viewed) (es : List Event) (rs : List Reply) (made : Result Bool E) → 0 < length es → Watches owner a b → IsHistory (setting_of (run_of b.subject b.seen)) b.seen
    → InTurn b es rs made c → InTurn a es rs made c
in_turn_later a b c [] rs made some first lawful h = absurd (omega (arith, some))
in_turn_later a b c (e ∷ es) [] (Ok whole) some first lawful h = h
in_turn_later a b c (e ∷ es) [] (Err x) some first lawful h =
    record { watches = watches_more a b c first h.watches; lawful = λ _. subst (λ (s : Subject). IsHistory (setting_of (run_of s c.seen)) c.seen) (about a b c first) (h.lawful lawful) }
in_turn_later a b c (e ∷ es) (r ∷ rs) made some first lawful (next, answers, rest) = (next, answers_more a b next first e r answers, rest)

-- ---- some events after others

in_turn_more : {E : Type 0} (a b c : Viewed) (es fs : List Event) (rs qs : List Reply) (made : Result Bool E) → InTurn {E = E} a es rs (Ok true) b → InTurn b fs qs made c
    → InTurn a (es ++ fs) (rs ++ qs) made c
in_turn_more a b c [] fs [] qs made h k = subst (λ (p : Viewed). InTurn p fs qs made c) h.1 k
in_turn_more a b c [] fs (r ∷ rs) qs made h k = absurd h
in_turn_more a b c (e ∷ es) fs [] qs made h k = absurd h
in_turn_more a b c (e ∷ es) fs (r ∷ rs) qs made (next, answers, inl (on, rest)) k = (next, answers, inl (on, in_turn_more next b c es fs rs qs made rest k))
in_turn_more a b c (e ∷ es) fs (r ∷ rs) qs made (next, answers, inr (off, none, is, same)) k = cc

-- events that were not made, since the worker stopped
in_turn_short : {E : Type 0} (a b : Viewed) (es fs : List Event) (rs : List Reply) (made : Result Bool E) → (made ≡ Ok true → ⊥) → InTurn a es rs made b → InTurn a (es ++ fs) rs made b
in_turn_short a b [] fs [] (Ok whole) stopped h = absurd (stopped (ap Ok h.0))
in_turn_short a b [] fs [] (Err x) stopped h = absurd h
in_turn_short a b [] fs (r ∷ rs) made stopped h = absurd h
in_turn_short a b (e ∷ es) fs [] (Ok whole) stopped h = absurd h
in_turn_short a b (e ∷ es) fs [] (Err x) stopped h = h
in_turn_short a b (e ∷ es) fs (r ∷ rs) made stopped (next, answers, inl (on, rest)) = (next, answers, inl (on, in_turn_short next b es fs rs made stopped rest))
in_turn_short a b (e ∷ es) fs (r ∷ rs) made stopped (next, answers, inr last) = (next, answers, inr last)

in_turn_err : {E : Type 0} (a b : Viewed) (es : List Event) (rs : List Reply) (x y : E) → InTurn a es rs (Err x) b → InTurn a es rs (Err y) b
in_turn_err a b [] [] x y h = absurd h
in_turn_err a b (e ∷ es) [] x y h = h
in_turn_err a b [] (r ∷ rs) x y h = absurd h
in_turn_err a b (e ∷ es) (r ∷ rs) x y (next, answers, inl (on, rest)) = (next, answers, inl (on, in_turn_err next b es rs x y rest))
in_turn_err a b (e ∷ es) (r ∷ rs) x y (next, answers, inr (off, none, is, same)) = cc

-- a growth was refused before the first was made
pub in_turn_refused : {E : Type 0} (a : Viewed) (es : List Event) (made : Result Bool E) (x : E) → 0 < length es → made ≡ Err x → InTurn a es [] made a
in_turn_refused a [] made x some is = absurd (omega (arith, some))
in_turn_refused {E} a (e ∷ es) made x some is = subst (λ (r : Result Bool E). InTurn a (e ∷ es) [] r a) (sym is) (unmade_so a a refl)

in_turn_one : {E : Type 0} (a b : Viewed) (e : Event) (r : Reply) → Answers a b e r → InTurn {E = E} a (e ∷ []) (r ∷ []) (Ok (lets_go_on r)) b
in_turn_one {E} a b e r answers = by_reply (lets_go_on r) refl
  where
    by_reply : (on : Bool) → lets_go_on r ≡ on → InTurn {E = E} a (e ∷ []) (r ∷ []) (Ok on) b
    by_reply true is = (b, answers, inl (is, (refl, refl)))
    by_reply false is = (b, answers, inr (is, refl, refl, refl))

-- ---- while a pass holds the book

pub goes_on_more : (w : ℕ) (xs ys zs : List Entry) → GoesOn owner w xs ys → GoesOn owner w ys zs → GoesOn owner w xs zs
goes_on_more w xs ys zs (m, is, own) (n, is_then, own_then) =
    (m ++ n, is_then ∙ ap (λ es. es ++ n) is ∙ append_assoc xs m n, filter-append (λ e. eqb (owner e) w) m n ∙ (λ t. own t ++ own_then t))

own_entry : (w v : ℕ) (e : Event) (r : Reply) → w ≡ v → of_worker owner v (entry w e r ∷ []) ≡ entry w e r ∷ []
own_entry w v e r same = rw (eq-eqb w v same) refl

module _ (p : Viewed) (book : Run) (is_about : (history_of book).subject ≡ p.subject) where
  -- a growth was refused
  pub went_nowhere : {E : Type 0} (book' : Run) (e : Event) (rs qs : List Reply) (made : Result Bool E) (x : E) → made ≡ Err x → book' ≡ book → qs ≡ rs → Went p book book' (e ∷ []) rs qs made
  went_nowhere {E} book' e rs qs made x failed same kept =
      subst (λ (r : Result Bool E). Went p book book' (e ∷ []) rs qs r) (sym failed) (record {
        subject = ap (λ (b : Run). (history_of b).subject) same ∙ is_about;
        goes_on = ([], ap (λ (b : Run). b.history) same ∙ sym (append-nil book.history), refl);
        adds = record { replies = []; added = kept ∙ sym (append-nil rs); in_turn = unmade_so _ _ (ap (λ (b : Run). given p (history_of b)) same) };
      })

  pub went_one : {E : Type 0} (book' : Run) (w : ℕ) (e : Event) (r : Reply) (on : Bool) (rs qs : List Reply) → w ≡ p.worker → book' ≡ record book { history = book.history ++ entry w e r ∷ [] }
      → IsAllowed book.base (state_of book) w e r → IsHistory (setting_of book') book'.history → on ≡ lets_go_on r → qs ≡ rs ++ r ∷ []
      → Went {E = E} p book book' (e ∷ []) rs qs (Ok on)
  went_one {E} book' w e r on rs qs own is allowed lawful goes_on replied =
      let still : (history_of book').subject ≡ p.subject = ap (λ (b : Run). (history_of b).subject) is ∙ is_about in
      let ends : book'.history ≡ book.history ++ entry w e r ∷ [] = ap (λ (b : Run). b.history) is in
      let same = sym (append-nil book.history) in
      let answers : Answers (given p (history_of book)) (given p (history_of book')) e r = record {
        sees = refl;
        between = [];
        ends = ends ∙ (λ t. same t ++ entry (own t) e r ∷ []);
        none_else = refl;
        workers = All-nil (λ e. owner e < p.table.seats);
        allowed = subst (λ (t : ℕ × Subject × List Entry). IsAllowed t.1.base (state_of (run_of t.1 t.2)) t.0 e r) (λ t. (own t, is_about t, same t)) allowed;
        lawful = subst (λ (s : Subject). IsHistory (setting_of (run_of s book'.history)) book'.history) still lawful;
      } in
      record {
        subject = still;
        goes_on = (entry w e r ∷ [], ends, own_entry w p.worker e r own);
        adds = record { replies = r ∷ []; added = replied; in_turn = subst (λ b. InTurn {E = E} (given p (history_of book)) (e ∷ []) (r ∷ []) (Ok b) (given p (history_of book'))) (sym goes_on) (in_turn_one _ _ e r answers) };
      }

pub went_more : {E : Type 0} (p : Viewed) (a b c : Run) (es fs : List Event) (rs qs os : List Reply) (made : Result Bool E) → Went {E = E} p a b es rs qs (Ok true) → Went p b c fs qs os made
    → Went p a c (es ++ fs) rs os made
went_more p a b c es fs rs qs os made first h =
    record {
      subject = h.subject;
      goes_on = goes_on_more p.worker a.history b.history c.history first.goes_on h.goes_on;
      adds = record {
        replies = first.adds.replies ++ h.adds.replies;
        added = h.adds.added ∙ ap (λ xs. xs ++ h.adds.replies) first.adds.added ∙ append_assoc rs first.adds.replies h.adds.replies;
        in_turn = in_turn_more _ _ _ es fs first.adds.replies h.adds.replies made first.adds.in_turn h.adds.in_turn;
      };
    }

pub went_short : {E : Type 0} (p : Viewed) (a b : Run) (es fs : List Event) (rs qs : List Reply) (made : Result Bool E) → (made ≡ Ok true → ⊥) → Went p a b es rs qs made → Went p a b (es ++ fs) rs qs made
went_short p a b es fs rs qs made stopped h =
    record {
      subject = h.subject;
      goes_on = h.goes_on;
      adds = record { replies = h.adds.replies; added = h.adds.added; in_turn = in_turn_short _ _ es fs h.adds.replies made stopped h.adds.in_turn };
    }

-- a growth was refused, as is told
pub went_as : {E : Type 0} (p : Viewed) (a b : Run) (es : List Event) (rs qs : List Reply) (made told : Result Bool E) (x y : E) → made ≡ Err x → told ≡ Err y → Went p a b es rs qs made → Went p a b es rs qs told
went_as {E} p a b es rs qs made told x y is failed h =
    let k = subst (λ (r : Result Bool E). Went p a b es rs qs r) is h in
    subst (λ (r : Result Bool E). Went p a b es rs qs r) (sym failed)
    (record { subject = k.subject; goes_on = k.goes_on; adds = record { replies = k.adds.replies; added = k.adds.added; in_turn = in_turn_err _ _ es k.adds.replies x y k.adds.in_turn } })

-- the worker was told whether it goes on
pub went_told : {E : Type 0} (p : Viewed) (a b : Run) (es : List Event) (rs qs : List Reply) (made : Result Bool E) (x on : Bool) → made ≡ Ok x → x ≡ on → Went p a b es rs qs made → Went {E = E} p a b es rs qs (Ok on)
went_told {E} p a b es rs qs made x on is same h = subst (λ (r : Result Bool E). Went p a b es rs qs r) (is ∙ ap Ok same) h

-- ---- a list of events, one by one

module _ {E : Type 0} (p : Viewed) (a b c : Run) (xs : List Event) (k : ℕ) (e : Event) (rs qs os : List Reply) (below : k < length xs) (is : get_or xs k e ≡ e)
    (first : Went {E = E} p a b (take k xs) rs qs (Ok true)) where
  pub went_next : (j : ℕ) → j ≡ k + 1 → Went {E = E} p b c (e ∷ []) qs os (Ok true) → Went {E = E} p a c (take j xs) rs os (Ok true)
  went_next j more h =
      subst (λ (ys : List Event). Went {E = E} p a c ys rs os (Ok true)) (sym (ap (λ n. take n xs) more ∙ take_more xs k e below ∙ ap (λ (x : Event). take k xs ++ x ∷ []) is))
      (went_more p a b c (take k xs) (e ∷ []) rs qs os (Ok true) first h)

  pub went_stop : (made : Result Bool E) → (made ≡ Ok true → ⊥) → Went p b c (e ∷ []) qs os made → Went p a c xs rs os made
  went_stop made stopped h =
      let whole : take k xs ++ (e ∷ drop (k + 1) xs) ≡ xs =
      ap (λ (x : Event). take k xs ++ (x ∷ drop (k + 1) xs)) (sym is) ∙ ap (λ ys. take k xs ++ ys) (sym (drop_more xs k e below)) ∙ take-append-drop k xs in
      subst (λ (ys : List Event). Went p a c ys rs os made) whole
      (went_more p a b c (take k xs) (e ∷ drop (k + 1) xs) rs qs os made first (went_short p b c (e ∷ []) (drop (k + 1) xs) qs os made stopped h))

pub went_all : {E : Type 0} (p : Viewed) (a b : Run) (xs : List Event) (k : ℕ) (rs qs : List Reply) (made : Result Bool E) → length xs ≤ k → Went p a b (take k xs) rs qs made → Went p a b xs rs qs made
went_all p a b xs k rs qs made whole h = subst (λ (ys : List Event). Went p a b ys rs qs made) (take_all k xs whole) h

-- ---- the lists

pub check_below : (i n notes k : ℕ) → k < notes → k + 1 < length (checking i n notes)
check_below i n notes k below = omega (arith, length-replicate notes (Check i n))

pub check_at : (i n notes k : ℕ) → k < notes → get_or (checking i n notes) (k + 1) (Check i n) ≡ Check i n
check_at i n notes k below = rw add-one (get_or-replicate notes k (Check i n) (Check i n) below)

module _ (i until place : ℕ) where
  pub commit_below : i ≤ place → place < until → place - i < length (committing i until)
  commit_below from below = omega (arith, length-map-range_with_len (λ j. Commit j) i (until - i))

  pub commit_at : i ≤ place → place < until → get_or (committing i until) (place - i) (Commit place) ≡ Commit place
  commit_at from below = get_or-map-range_with_len (λ j. Commit j) i (until - i) (place - i) place (Commit place) (omega arith) (omega arith)

  pub commit_all : until ≤ place → length (committing i until) ≤ place - i
  commit_all reached = omega (arith, length-map-range_with_len (λ j. Commit j) i (until - i))

module _ (reads : List Read) (k : ℕ) (below : k < length reads) where
  pub read_below : (i n : ℕ) → k < length (reading i n reads)
  read_below i n = omega (arith, length-map reads (λ r. ReadOf i n r))

  pub read_at : (i n : ℕ) (d : Read) (e : Event) → get_or (reading i n reads) k e ≡ ReadOf i n (get_or reads k d)
  read_at i n d e = get_or-map (λ r. ReadOf i n r) reads k d e below

  pub one_scan : (base : View) (scans : List Question) (d : Read) → scans ≡ questions base reads → take (k + 1 - k) (drop k scans) ≡ record { dataset = base; read = get_or reads k d } ∷ []
  one_scan base scans d is =
      let ask : Read → Question = λ r. record { dataset = base; read = r } in
      let one : k + 1 - k ≡ 1 = omega arith in
      let there : drop k (questions base reads) ≡ ask (get_or reads k d) ∷ drop (k + 1) (questions base reads) =
      drop_more (questions base reads) k (ask d) (omega (arith, length-map reads ask))
      ∙ ap (λ q. q ∷ drop (k + 1) (questions base reads)) (get_or-map ask reads k d (ask d) below) in
      (λ t. take (one t) (drop k (is t))) ∙ ap (λ qs. take 1 qs) there

-- ---- the pass that took the book and gave it back

pub adds : {E : Type 0} (old mid new : Viewed) (before took read after : Run) (es : List Event) (rs ps qs : List Reply) (made : Result Bool E) → Takes owner old (history_of before) mid → 0 < length es
    → took ≡ before → read ≡ before → ps ≡ rs → IsHistory (setting_of read) read.history → Went mid took after es ps qs made → new ≡ given mid (history_of after) → Adds old new es rs qs made
adds old mid new before took read after es rs ps qs made takes some is_took is_read still lawful went gave =
    let mine : took.history ≡ mid.seen = ap (λ (b : Run). b.history) is_took ∙ sym (ap (λ (p : Viewed). p.seen) takes.sees) in
    let first : Viewed = given mid (history_of took) in
    let watched : Watches owner old first = watches old mid before takes first (λ t. record mid { seen = mine t; holds = false }) in
    let about_it : (history_of took).subject ≡ mid.subject = ap (λ (b : Run). (history_of b).subject) is_took ∙ takes.includes.subject ∙ sym (ap (λ (p : Viewed). p.subject) takes.sees) in
    let known : IsHistory (setting_of took) took.history = subst (λ (b : Run). IsHistory (setting_of b) b.history) (is_read ∙ sym is_took) lawful in
    let lawful_first = subst (λ (s : Subject). IsHistory (setting_of (run_of s took.history)) took.history) about_it known in
    record {
      replies = went.adds.replies;
      added = went.adds.added ∙ ap (λ xs. xs ++ went.adds.replies) still;
      in_turn = subst (λ (p : Viewed). InTurn old es went.adds.replies made p) (sym gave)
          (in_turn_later old first (given mid (history_of after)) es went.adds.replies made some watched lawful_first went.adds.in_turn);
    }
