-- Reads that are noted, or found noted.
use Rattle.std.proofs.Common.{◌≡◌, ℕ, Bool, List, [], ◌∷◌, ◌++◌, length, Some, Result, Ok, Err, inl, inr, ◌⊎◌, get_or, unwrap_or, refl, ap, sym, subst, ◌∙◌}
use Rattle.std.specs.Prelude.{slice_get}
use Rattle.std.specs.Result.{IsErrAnd}
use Rattle.std.proofs.lemmas.List.{append-nil}
use Rattle.std.proofs.lemmas.Option.{unwrap_or-slice_get}
use Rattle.datasets.specs.declared.id.Id.{Id}
use Rattle.reads.specs.Reads.{Read, Answer, says}
use Rattle.reads.specs.declared.note.Note.{Note}
use Rattle.reads.specs.declared.source.Stop.{Stop}
use Rattle.reads.specs.declared.source.Stop.TheVariants.{Memory}
use Rattle.recount.specs.Counted.{counted}
use Rattle.recount.specs.Recounting.{IsNoteOf, IsTold, IsNoted, Recounts}
use Rattle.recount.proofs.CountedLaws.{counted_at}

last_is : (notes : List Note) (n : Note) → slice_get (notes ++ n ∷ []) (length notes) ≡ Some n
last_is [] n = refl
last_is (m ∷ notes) n = last_is notes n

module _ {S : Type 0} (asks : S → Read → Result Answer Stop → S → Type 0) (s : S) (notes notes' : List Note) (r : Read) where
  nothing_noted : notes' ≡ notes → IsNoted asks s notes r s notes'
  nothing_noted e = record { more = []; noted = e ∙ sym (append-nil notes); same = tt; asked = refl }

  -- memory runs out
  pub short : {A : Type 0} (Is : List Note → A → Type 0) (result : Result A Stop) → notes' ≡ notes → IsErrAnd result (λ stop. stop ≡ Memory) → Recounts asks Is s notes r result s notes'
  short Is (Ok a) e h = absurd h
  short Is (Err stop) e h = (s, nothing_noted e, inl (h, refl))

  -- the source stops, and the call as it does
  pub stopped : {A : Type 0} (Is : List Note → A → Type 0) (result : Result A Stop) (stop : Stop) (s' : S) → notes' ≡ notes → asks s r (Err stop) s'
      → IsErrAnd result (λ it. it ≡ stop) → Recounts asks Is s notes r result s' notes'
  stopped Is (Ok a) stop s' e k h = absurd h
  stopped Is (Err it) stop s' e k h = (s, nothing_noted e, inr (subst (λ z. asks s r (Err z) s') (sym h) k))

  -- a note is there
  pub found : (place : ℕ) (n : Note) → slice_get notes place ≡ Some n → n.read ≡ r → notes' ≡ notes → Recounts asks (IsNoteOf r) s notes r (Ok place) s notes'
  found place n at same e = (s, nothing_noted e, (refl, (n, ap (λ ns. slice_get ns place) e ∙ at, same)))

  -- the source answers, which is noted
  pub noted_now : (place : ℕ) (a : Answer) (s' : S) → asks s r (Ok a) s' → place ≡ length notes → notes' ≡ notes ++ (record { read = r; answer = a }) ∷ []
      → Recounts asks (IsNoteOf r) s notes r (Ok place) s' notes'
  noted_now place a s' k at e =
      let n : Note = record { read = r; answer = a } in
      (s', record { more = n ∷ []; noted = e; same = (refl, tt); asked = (s', k, refl) }, (refl, (n, (λ i. slice_get (e i) (at i)) ∙ last_is notes n, refl)))

-- what a note of the read counts as is told
told_at : (known : Id → Bool) (r : Read) (notes : List Note) (place : ℕ) (answer : Answer) (m : Note) → IsNoteOf r notes place → m ≡ get_or notes place m
    → answer ≡ counted known r m.answer → IsTold known r notes answer
told_at known r notes place answer m n at e d a =
    let same : m ≡ n.0 = at ∙ sym (unwrap_or-slice_get notes place m) ∙ ap (λ o. unwrap_or o m) n.1 in
    e ∙ (λ i. counted known (sym n.2 i) (same i).answer) ∙ counted_at known notes place n.0 d n.1 a ∙ ap (λ z. says z d) n.2

module _ {S : Type 0} {asks : S → Read → Result Answer Stop → S → Type 0} {s s' : S} {notes notes' : List Note} {r : Read} {A B : Type 0} (Is : List Note → A → Type 0) (Tells : List Note → B → Type 0) where
  -- a call that stops as one in it did
  pub as_it : (result : Result B Stop) (stop : Stop) → Recounts asks Is s notes r (Err stop) s' notes' → IsErrAnd result (λ it. it ≡ stop) → Recounts asks Tells s notes r result s' notes'
  as_it (Ok b) stop h e = absurd e
  as_it (Err it) stop h e = (h.0, h.1, subst (λ z. ((z ≡ Memory) × (h.0 ≡ s')) ⊎ asks h.0 r (Err z) s') (sym e) h.2)

  -- memory runs out after that
  pub then_short : (result : Result B Stop) (a : A) → Recounts asks Is s notes r (Ok a) s' notes' → IsErrAnd result (λ it. it ≡ Memory) → Recounts asks Tells s notes r result s' notes'
  then_short (Ok b) a h e = absurd e
  then_short (Err it) a h e = (h.0, h.1, inl (e, h.2.0))

-- the answer is what the note counts as
pub then_told : {S : Type 0} {asks : S → Read → Result Answer Stop → S → Type 0} {s s' : S} {notes notes' : List Note} {r : Read} (known : Id → Bool) (place : ℕ) (answer : Answer) (m : Note)
    → Recounts asks (IsNoteOf r) s notes r (Ok place) s' notes' → m ≡ get_or notes' place m → answer ≡ counted known r m.answer
    → Recounts asks (IsTold known r) s notes r (Ok answer) s' notes'
then_told {S} {asks} {s} {s'} {notes} {notes'} {r} known place answer m h at e = (h.0, h.1, (h.2.0, told_at known r notes' place answer m h.2.1 at e))
