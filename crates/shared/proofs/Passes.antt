-- Passes in a list, a pass that takes the book, and the journal at the end.
use Rattle.std.proofs.Common.{◌≡◌, ℕ, List, [], ◌∷◌, ◌++◌, reverse, drop, sym, ap, subst, ◌∙◌, append_assoc, Result, Ok, Err, IfOk, OnErr}
use Rattle.std.proofs.lemmas.List.{reverse-append}
use Rattle.incarnations.specs.declared.state.Entry.{Entry}
use Rattle.blocklock.specs.History.{AreBelow}
use Rattle.blocklock.specs.Passes.{LockTable}
use Rattle.shared.specs.Calls.{Viewed, owner}

-- values that are put in a list from the last one on
pub one_moved : {A : Type 0} (left rest done next all : List A) (x : A) → left ≡ rest ++ x ∷ [] → next ≡ done ++ x ∷ [] → left ++ reverse done ≡ all → rest ++ reverse next ≡ all
one_moved left rest done next all x popped pushed was =
    ap (λ l. rest ++ reverse l) pushed ∙ ap (λ l. rest ++ l) (reverse-append done (x ∷ []))
    ∙ sym (append_assoc rest (x ∷ []) (reverse done)) ∙ ap (λ l. l ++ reverse done) (sym popped) ∙ was

-- whether the book was taken or not, the base is the same
pub still_about : {X E : Type 0} (r : Result X E) (old new : Viewed) (P : X → Type 0) → ((x : X) → P x → new.subject.base ≡ old.subject.base) → IfOk r P → OnErr r (new ≡ old)
    → new.subject.base ≡ old.subject.base
still_about (Ok x) old new P about held busy = about x held
still_about (Err e) old new P about held busy = ap (λ (p : Viewed). p.subject.base) busy

-- all entries of a journal that began empty are of workers who have passes
pub all_below : (lock at : LockTable) (journal : List Entry) → at ≡ lock → at.start ≡ 0 → AreBelow owner at.seats (drop at.start journal) → AreBelow owner lock.seats journal
all_below lock at journal same empty h =
    subst (λ (t : ℕ × ℕ). AreBelow owner t.0 (drop t.1 journal)) (λ k. (ap (λ (l : LockTable). l.seats) same k, empty k)) h
