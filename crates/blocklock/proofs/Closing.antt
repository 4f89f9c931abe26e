-- What taking in all passes says of each, and giving back a book as it was taken.
use Rattle.std.proofs.Common.{◌≡◌, ℕ, zero, suc, false, cond, List, [], ◌∷◌, ◌++◌, drop, map, All, Option, None, sym, ap, subst, ◌∙◌, arith, append_assoc}
use Rattle.std.proofs.lemmas.List.{map-append}
use Rattle.atomic_table.specs.Table.{Me}
use Rattle.blocklock.specs.History.{History, of_worker, AreBelow}
use Rattle.blocklock.specs.declared.view.View.{View}
use Rattle.blocklock.specs.declared.view.Told.{Told}
use Rattle.blocklock.specs.Rule.{AllCovered, joined}
use Rattle.blocklock.specs.Passes.{LockTable, PassView, Includes, Takes, Watches, IsSeatOf, given, told_of}
use Rattle.blocklock.proofs.Journals.{all_from}

module _ {S E : Type 0} where
  pub no_slots : {T : Type 0} (worker : ℕ) (me : Me (Option T) (View S E)) → IsSeatOf worker me → me.0.holds ≡ false → me.1 ≡ []
  no_slots worker me seat idle = seat.slots ∙ ap (λ b. cond b ((0, None) ∷ []) []) idle

  -- the seat's view, once it has taken in one more
  pub taken_in : (start old new w : View S E) → old ≡ record start { told = old.told } → new ≡ joined old w → new ≡ record start { told = new.told }
  taken_in start old new w was is =
      is ∙ ((λ k. record (was k) { told = (joined old w).told }) ∙ (λ k. record start { told = sym (ap (λ (v : View S E). v.told) is) k }))

module _ {A S E : Type 0} (pass_of : A → PassView S E) where
  abbrev pub told_by : A → Told S E
  told_by a = told_of (pass_of a)

  -- what is still to be taken in and what was is all that there is
  pub told_more : (before passes all : List A) (a : A) (old new w : View S E) → passes ≡ before ++ a ∷ [] → new ≡ joined old w
      → (pass_of a).worker ≡ w.from → (pass_of a).subject ≡ w.subject → (pass_of a).seen ≡ w.seen → (pass_of a).table.seats ≡ w.seats → map told_by passes ++ old.told ≡ map told_by all → map told_by before ++ new.told ≡ map told_by all
  told_more before passes all a old new w last is worker subject seen seats was =
      let one : told_by a ∷ old.told ≡ new.told = (λ k. record { worker = worker k; subject = subject k; seen = seen k; seats = seats k } ∷ old.told) ∙ sym (ap (λ (v : View S E). v.told) is) in
      ap (λ l. map told_by before ++ l) (sym one)
      ∙ (sym (append_assoc (map told_by before) (told_by a ∷ []) old.told)
      ∙ (ap (λ l. l ++ old.told) (sym (ap (map told_by) last ∙ map-append told_by before (a ∷ []))) ∙ was))

module _ {A S E : Type 0} (worker_of : E → ℕ) (pass_of : A → PassView S E) where
  pub all_included : (book : History S E) (ps : List A) → AllCovered worker_of book.subject book.journal (map (told_by pass_of) ps) → All (λ p. Includes worker_of (pass_of p) book) ps
  all_included book [] c k d less = absurd (omega arith)
  all_included book (p ∷ ps) c zero d less = record { subject = sym c.0.same_subject; begins = c.0.begins; mine = c.0.own; workers = c.0.workers }
  all_included book (p ∷ ps) c (suc k) d less = all_included book ps c.1 k d (omega arith)

  -- The last pass took the book and then took in the others
  pub all_closed : (book : History S E) (last : A) (took : PassView S E) (others all : List A) (v : View S E) → Takes worker_of (pass_of last) book took → took.subject ≡ v.subject → took.seen ≡ v.seen → v.told ≡ map (told_by pass_of) others
      → AllCovered worker_of v.subject v.seen v.told → all ≡ others ++ last ∷ [] → All (λ p. Includes worker_of (pass_of p) book) all
  all_closed book last took others all v takes same_subject seen told covered is =
      let now = takes.sees in
      let subject : v.subject ≡ book.subject = sym same_subject ∙ (ap (λ (p : PassView S E). p.subject) now ∙ sym takes.includes.subject) in
      let journal : v.seen ≡ book.journal = sym seen ∙ ap (λ (p : PassView S E). p.seen) now in
      let at : AllCovered worker_of book.subject book.journal (map (told_by pass_of) others) = subst (λ (t : S × List E × List (Told S E)). AllCovered worker_of t.0 t.1 t.2) (λ i. (subject i, journal i, told i)) covered in
      all_from (λ p. Includes worker_of (pass_of p) book) others all last is (all_included book others at) takes.includes

module _ {E : Type 0} (worker_of : E → ℕ) where
  -- all that the last pass saw beyond the start, of the lock and the book
  pub all_below : (lock at : LockTable) (seen journal : List E) → at ≡ lock → seen ≡ journal → AreBelow worker_of at.seats (drop at.start seen) → AreBelow worker_of lock.seats (drop lock.start journal)
  all_below lock at seen journal same is h = subst (λ (t : LockTable × List E). AreBelow worker_of t.0.seats (drop t.0.start t.1)) (λ k. (same k, is k)) h

module _ {S E : Type 0} (worker_of : E → ℕ) where
  -- a pass took the book and gave it back
  pub watches : (old mid new : PassView S E) (book : History S E) → Takes worker_of old book mid → new ≡ given mid book → Watches worker_of old new
  watches old mid new book takes gave =
      let now : new.seen ≡ book.journal = ap (λ (p : PassView S E). p.seen) gave in
      let by : new.worker ≡ old.worker = ap (λ (p : PassView S E). p.worker) gave ∙ ap (λ (p : PassView S E). p.worker) takes.sees in
      record {
        sees = gave ∙ (ap (λ (p : PassView S E). given p book) takes.sees ∙ (λ k. record old { seen = sym now k; holds = sym takes.was_free k }));
        begins = (takes.includes.begins.0, now ∙ takes.includes.begins.1);
        mine = (λ k. of_worker worker_of (by k) (now k)) ∙ takes.includes.mine;
        workers = takes.includes.workers;
      }
