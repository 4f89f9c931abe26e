-- Notes, one after another.
use Rattle.std.proofs.Common.{◌≡◌, Bool, true, List, [], ◌∷◌, ◌++◌, ℕ, ◌≤◌, ◌-◌, length, take, drop, get_or, Option, Some, None, Result, Ok, Err, inl, inr, refl, ap, subst, sym, ◌∙◌, arith, append_assoc}
use Rattle.std.specs.Prelude.{map, slice_get, OnOk}
use Rattle.std.specs.List.{AllByRecursion}
use Rattle.std.specs.Result.{IfErr, IsErrAnd}
use Rattle.std.proofs.lemmas.List.{append-nil, drop_at, take_rest}
use Rattle.sets.proofs.Every.{all_joined, all_weaker}
use Rattle.reads.specs.Reads.{View, Read, Answer, says}
use Rattle.reads.specs.Runs.{Agrees}
use Rattle.reads.specs.declared.note.Note.{Note}
use Rattle.reads.specs.declared.source.Stop.{Stop}
use Rattle.reads.specs.declared.source.Stop.TheVariants.{Memory}
use Rattle.reads.specs.Asking.{Asked, AsksAll, EndsAt}
use Rattle.reads.proofs.Asking.{asked_both}
use Rattle.asking.specs.Goes.{AllAllowed, AreAllowed, AreNoted, Ends, Goes, Stops, stop_of}

agrees_before : (ns ms : List Note) (d : View) → Agrees (ns ++ ms) d → Agrees ns d
agrees_before [] ms d a = tt
agrees_before (n ∷ ns) ms d a = (a.0, agrees_before ns ms d a.1)

agrees_after : (ns ms : List Note) (d : View) → Agrees (ns ++ ms) d → Agrees ms d
agrees_after [] ms d a = a
agrees_after (n ∷ ns) ms d a = agrees_after ns ms d a.1

agrees_last : (ns : List Note) (n : Note) (d : View) → Agrees (ns ++ n ∷ []) d → n.answer ≡ says n.read d
agrees_last [] n d a = a.0
agrees_last (m ∷ ns) n d a = agrees_last ns n d a.1

-- what is allowed of all reads is allowed of the first that were asked for, and of the next
allowed_first : (allowed : Read → Bool) (ns : List Note) (left : List Read) → AreAllowed allowed (map (λ n. n.read) ns ++ left) → AllAllowed allowed ns
allowed_first allowed [] left near = tt
allowed_first allowed (n ∷ ns) left near = (near.0, allowed_first allowed ns left near.1)

allowed_left : (allowed : Read → Bool) (ns : List Note) (left : List Read) → AreAllowed allowed (map (λ n. n.read) ns ++ left) → AreAllowed allowed left
allowed_left allowed [] left near = near
allowed_left allowed (n ∷ ns) left near = allowed_left allowed ns left near.1

allowed_next : (allowed : Read → Bool) (left : List Read) → AreAllowed allowed left → (r : Read) → slice_get left 0 ≡ Some r → allowed r ≡ true
allowed_next allowed [] near r is = cc
allowed_next allowed (x ∷ xs) near r is = let same : r ≡ x = cc in ap allowed same ∙ near.0

-- what the last note tells
pub told_last : (ns ns' : List Note) (n : Note) (d : View) → ns' ≡ ns ++ n ∷ [] → Agrees ns' d → n.answer ≡ says n.read d
told_last ns ns' n d e a = agrees_last ns n d (subst (λ z. Agrees z d) e a)

module _ {S : Type 0} (asks : S → Read → Result Answer Stop → S → Type 0) where
  ends_within : {allowed more : Read → Bool} → ((r : Read) → allowed r ≡ true → more r ≡ true) → (s s' : S) (stop : Option Stop)
      → Ends asks allowed s stop s' → Ends asks more s stop s'
  ends_within f s s' None e = e
  ends_within f s s' (Some stop) (inl e) = inl e
  ends_within f s s' (Some stop) (inr e) = inr (e.0, f e.0 e.1, e.2)

  ends_at : {A : Type 0} (allowed : Read → Bool) (left : List Read) (s s' : S) (result : Result A Stop) → AreAllowed allowed left
      → EndsAt asks left s result s' → Ends asks allowed s (stop_of result) s'
  ends_at allowed left s s' (Ok x) near e = e.1
  ends_at allowed left s s' (Err stop) near (inl e) = inl e
  ends_at allowed left s s' (Err stop) near (inr e) = inr (e.0, allowed_next allowed left near e.0 e.1, e.2)

  -- Where each answer keeps a fact of the source, and brings one of the read and the answer, a run
  -- of them does.
  pub asked_all : (Is : S → Type 0) (Tells : Read → Answer → Type 0)
      → ((s s' : S) (r : Read) (a : Answer) → Is s → asks s r (Ok a) s' → Is s' × Tells r a)
      → (ns : List Note) (s s' : S) → Is s → Asked asks s ns s' → Is s' × AllByRecursion (λ n. Tells n.read n.answer) ns
  asked_all Is Tells step [] s s' is a = (subst Is a is, tt)
  asked_all Is Tells step (n ∷ ns) s s' is a =
      let one = step s a.0 n.read n.answer is a.1 in
      let rest = asked_all Is Tells step ns a.0 s' one.0 a.2 in
      (rest.0, (one.1, rest.1))

module _ {S : Type 0} {asks : S → Read → Result Answer Stop → S → Type 0} where
  -- what agrees with the notes now agreed with those before
  pub agreed : {ns ns' : List Note} {allowed : Read → Bool} {s s' : S} {stop : Option Stop}
      → Goes asks allowed s s' ns ns' stop → (d : View) → Agrees ns' d → Agrees ns d
  agreed {ns} {ns'} g d a = agrees_before ns g.more d (subst (λ z. Agrees z d) g.noted a)

  pub goes_nowhere : (allowed : Read → Bool) (s : S) (ns : List Note) → Goes asks allowed s s ns ns None
  goes_nowhere allowed s ns = record { more = []; noted = sym (append-nil ns); near = tt; last = s; asked = refl; ends = refl }

  -- the source was asked, and what it answered was noted
  pub goes_noted : (allowed : Read → Bool) (s s' : S) (ns ns' : List Note) (n : Note)
      → ns' ≡ ns ++ n ∷ [] → asks s n.read (Ok n.answer) s' → allowed n.read ≡ true → Goes asks allowed s s' ns ns' None
  goes_noted allowed s s' ns ns' n e a near =
      record { more = n ∷ []; noted = e; near = (near, tt); last = s'; asked = (s', a, refl); ends = refl }

  -- the source was asked for some reads at once
  pub goes_all : {A : Type 0} {s s' : S} {reads : List Read} {ns ns' : List Note} {result : Result A Stop} → AsksAll asks s reads ns ns' result s'
      → (allowed : Read → Bool) → AreAllowed allowed reads → Goes asks allowed s s' ns ns' (stop_of result)
  goes_all {A} {s} {s'} {reads} {ns} {ns'} {result} a allowed h =
      let near : AreAllowed allowed (map (λ n. n.read) a.more ++ a.left) = subst (AreAllowed allowed) a.in_order h in
      record {
        more = a.more;
        noted = a.noted;
        near = allowed_first allowed a.more a.left near;
        last = a.last;
        asked = a.asked;
        ends = ends_at asks allowed a.left a.last s' result (allowed_left allowed a.more a.left near) a.ends;
      }

  pub all_noted : {A : Type 0} {s s' : S} {reads : List Read} {ns ns' : List Note} (result : Result A Stop) → AsksAll asks s reads ns ns' result s'
      → OnOk result (AreNoted reads ns ns')
  all_noted (Ok x) a = (a.more, a.noted, sym (a.in_order ∙ ap (λ rs. map (λ n. n.read) a.more ++ rs) a.ends.0 ∙ append-nil (map (λ n. n.read) a.more)))
  all_noted (Err stop) a = tt

  pub goes_on : {allowed : Read → Bool} {s s1 s2 : S} {ns ns1 ns2 : List Note} {stop : Option Stop}
      → Goes asks allowed s s1 ns ns1 None → Goes asks allowed s1 s2 ns1 ns2 stop → Goes asks allowed s s2 ns ns2 stop
  goes_on {allowed} {s} {s1} {s2} {ns} {ns1} {ns2} {stop} a b = record {
    more = a.more ++ b.more;
    noted = b.noted ∙ ap (λ ms. ms ++ b.more) a.noted ∙ append_assoc ns a.more b.more;
    near = all_joined (λ n. allowed n.read ≡ true) a.more b.more a.near b.near;
    last = b.last;
    asked = asked_both asks a.more b.more s s1 b.last (subst (λ m. Asked asks s a.more m) a.ends a.asked) b.asked;
    ends = b.ends;
  }

  -- a test that allows more
  pub goes_within : {allowed more : Read → Bool} {s s' : S} {ns ns' : List Note} {stop : Option Stop}
      → ((r : Read) → allowed r ≡ true → more r ≡ true) → Goes asks allowed s s' ns ns' stop → Goes asks more s s' ns ns' stop
  goes_within {allowed} {more} {s} {s'} {ns} {ns'} {stop} f a = record {
    more = a.more;
    noted = a.noted;
    near = all_weaker (λ n. allowed n.read ≡ true) (λ n. more n.read ≡ true) (λ n. f n.read) a.more a.near;
    last = a.last;
    asked = a.asked;
    ends = ends_within asks f a.last s' stop a.ends;
  }

  -- then memory runs out, for which the call stops
  pub goes_short : {A : Type 0} {allowed : Read → Bool} {s s' : S} {ns ns' : List Note} (result : Result A Stop)
      → IsErrAnd result (λ stop. stop ≡ Memory) → Goes asks allowed s s' ns ns' None → Goes asks allowed s s' ns ns' (stop_of result)
  goes_short (Ok x) e a = absurd e
  goes_short (Err stop) e a =
      record { more = a.more; noted = a.noted; near = a.near; last = a.last; asked = a.asked; ends = inl (e, a.ends) }

  -- the call stops as one within it did
  pub goes_as : {A : Type 0} {allowed : Read → Bool} {s s' : S} {ns ns' : List Note} {stop : Stop} (result : Result A Stop)
      → IsErrAnd result (λ it. it ≡ stop) → Goes asks allowed s s' ns ns' (Some stop) → Goes asks allowed s s' ns ns' (stop_of result)
  goes_as (Ok x) e a = absurd e
  goes_as {A} {allowed} {s} {s'} {ns} {ns'} (Err it) e a = subst (λ z. Goes asks allowed s s' ns ns' (Some z)) (sym e) a

  -- ---- calls that begin with no notes

  module _ {allowed : Read → Bool} {s s' : S} {ns ns' : List Note} (none : ns ≡ []) where
    pub all_near : {stop : Option Stop} → Goes asks allowed s s' ns ns' stop → AllAllowed allowed ns'
    all_near a = subst (AllAllowed allowed) (sym (a.noted ∙ ap (λ ms. ms ++ a.more) none)) a.near

    pub all_asked : Goes asks allowed s s' ns ns' None → Asked asks s ns' s'
    all_asked a =
        subst (λ m. Asked asks s ns' m) a.ends (subst (λ ms. Asked asks s ms a.last) (sym (a.noted ∙ ap (λ ms. ms ++ a.more) none)) a.asked)

    pub stops_as : {A : Type 0} {stop : Stop} (result : Result A Stop) → IsErrAnd result (λ it. it ≡ stop)
        → Goes asks allowed s s' ns ns' (Some stop) → IfErr result (λ it. Stops asks allowed s s' it)
    stops_as (Ok x) e a = tt
    stops_as {A} {stop} (Err it) e a =
        (ns', subst (λ z. Goes asks allowed s s' [] ns' (Some z)) (sym e) (subst (λ ms. Goes asks allowed s s' ms ns' (Some stop)) none a))

    pub stops_short : {A : Type 0} (result : Result A Stop) → IsErrAnd result (λ it. it ≡ Memory)
        → Goes asks allowed s s' ns ns' None → IfErr result (λ it. Stops asks allowed s s' it)
    stops_short (Ok x) e a = tt
    stops_short {A} (Err it) e a = (ns', subst (λ ms. Goes asks allowed s s' ms ns' (Some it)) none (goes_short {A = A} (Err it) e a))

-- the first of some notes, and those behind it
pub first_of : (notes : List Note) (n : Note) → n ≡ get_or notes 0 n → 1 ≤ length notes → notes ≡ n ∷ take (length notes - 1) (drop 1 notes)
first_of [] n is some = absurd (omega (arith, some))
first_of (m ∷ ms) n is some = λ i. sym is i ∷ sym (take_rest (m ∷ ms) 1) i

-- what was noted last, behind so many notes, is of the reads that were asked for, and agrees with
-- what all notes agree with
pub noted_behind : (reads : List Read) (notes notes' tail : List Note) (n : ℕ) (d : View) → AreNoted reads notes notes' → length notes ≡ n → tail ≡ drop n notes' → Agrees notes' d
    → (map (λ m. m.read) tail ≡ reads) × Agrees tail d
noted_behind reads notes notes' tail n d noted e is a =
    let last : tail ≡ noted.0 = is ∙ ap (drop n) noted.1 ∙ drop_at notes noted.0 n e in
    (ap (map (λ m. m.read)) last ∙ noted.2, subst (λ ms. Agrees ms d) (sym last) (agrees_after notes noted.0 d (subst (λ ms. Agrees ms d) noted.1 a)))
