-- How a changed slot keeps what is kept, and changes what that stands for.
use Rattle.std.proofs.Common.{◌≡◌, ◌≢◌, ℕ, zero, suc, ◌<◌, ◌≤◌, ◌+◌, inl, inr, Bool, true, false, List, [], ◌∷◌, ◌++◌, length, map, replicate, Option, Some, None, slice_get, slice_set, slice_index_or, refl, sym, ap, ◌∙◌, subst, arith}
use Rattle.std.specs.Prelude.{◌==◌, if◌then◌else◌, option_map}
use Rattle.std.proofs.lemmas.Bool.{cases_lt, cases_eq, false≢true}
use Rattle.std.proofs.lemmas.List.{length-map, length-set, map-set, map-append}
use Rattle.std.proofs.lemmas.Option.{slice_get_within}
use Rattle.reads.specs.Reads.{View, Delta, Read, says, applied, covers}
use Rattle.reads.proofs.Changes.{covers_none}
use Rattle.version_overlay.specs.Settled.{changed_by}
use Rattle.incarnations.specs.declared.state.Noted.{Noted as KeptNote}
use Rattle.incarnations.specs.declared.state.Slot.{Slot as KeptSlot}
use Rattle.incarnations.specs.declared.state.Pass.{Pass}
use Rattle.incarnations.specs.declared.state.Status.{Status}
use Rattle.incarnations.specs.declared.state.Status.TheVariants.{Ready, Executing, Executed, Committed as HasCommitted}
use Rattle.incarnations.specs.Slots.{Noted, Slot, fresh_slot, transcript_of, with_note, begun, passed, committed}
use Rattle.incarnations.specs.Statuses.{is_closed}
use Rattle.incarnations.specs.Kept.{slot_by, plain, kept_note_of, fresh_kept}
use Rattle.validate.specs.declared.checks.Verdict.{Verdict}
use Rattle.validate.specs.Below.{slot_at, view_at, blocker, touching, note_now}
use Rattle.validate.specs.Verdicts.{NoteVerdict, ListVerdict}
use Rattle.validate.specs.Lower.{Knows}
use Rattle.validate.specs.Kept.{shown, whole, may_estimate, IsCalm, LowNotes, LowSlots, IsKept}
use Rattle.validate.proofs.Shown.{kept_at, by_at, kept_is, is_slot, at_slot}
use Rattle.slots.specs.Slots.{status_of, slots_of}
use Rattle.slots.proofs.Alike.{status_shown, view_shown, blocker_shown, touching_shown, answers_shown, lists_shown}
use Rattle.slots.proofs.SlotLaws.{set_same, set_other, view_below, status_at}

-- ---- notes that were made early enough

pub low_more : (low high : ℕ) → low ≤ high → (ns : List KeptNote) → LowNotes low ns → LowNotes high ns
low_more low high le [] h = tt
low_more low high le (n ∷ ns) h = ((let w = h.0 in omega (arith, w, le)), low_more low high le ns h.1)

lows_more : (low high : ℕ) → low ≤ high → (xs : List KeptSlot) → LowSlots low xs → LowSlots high xs
lows_more low high le [] h = tt
lows_more low high le (x ∷ xs) h = (low_more low high le x.notes h.0, lows_more low high le xs h.1)

pub lows_at : (low : ℕ) (xs : List KeptSlot) → LowSlots low xs → (i : ℕ) → LowNotes low (kept_at xs i).notes
lows_at low [] h i = tt
lows_at low (x ∷ xs) h zero = h.0
lows_at low (x ∷ xs) h (suc i) = lows_at low xs h.1 i

lows_set : (low : ℕ) (xs : List KeptSlot) (i : ℕ) (x : KeptSlot) → LowSlots low xs → LowNotes low x.notes → LowSlots low (slice_set xs i x)
lows_set low [] i x h own = tt
lows_set low (y ∷ xs) zero x h own = (own, h.1)
lows_set low (y ∷ xs) (suc i) x h own = (h.0, lows_set low xs i x h.1 own)

pub low_append : (low : ℕ) (ns : List KeptNote) (n : KeptNote) → LowNotes low ns → n.low ≤ low → LowNotes low (ns ++ n ∷ [])
low_append low [] n h le = (le, tt)
low_append low (m ∷ ns) n h le = (h.0, low_append low ns n h.1 le)

-- ---- whole lists, of slots that are alike below

touching_low : (slots : List Slot) (i : ℕ) (x : Slot) (k : ℕ) (read : Read) → k ≤ i → touching (slice_set slots i x) k read ≡ touching slots k read
unfolding touching
touching_low slots i x zero read le = refl
touching_low slots i x (suc k) read le =
    let ne : k ≢ i = omega arith in
    let below : k ≤ i = omega arith in
    λ t. touching_low slots i x k read below t ++ (if covers (set_other slots i k x ne t).delta read then (k, (set_other slots i k x ne t).version) ∷ [] else [])

module _ (a b : List KeptSlot) (low : ℕ) (same : (k : ℕ) (read : Read) → k ≤ low → touching (shown a) k read ≡ touching (shown b) k read) where
  notes_alike : (ns : List KeptNote) → LowNotes low ns → map (whole a) ns ≡ map (whole b) ns
  notes_alike [] h = refl
  notes_alike (n ∷ ns) h =
      λ t. record { read = n.note.read; answer = n.note.answer; touching = same n.low n.note.read h.0 t ++ n.touching } ∷ notes_alike ns h.1 t

  slot_alike : (x : KeptSlot) → LowNotes low x.notes → slot_by (whole a) x ≡ slot_by (whole b) x
  slot_alike x h = ap (λ ns. record (slot_by plain x) { notes = ns }) (notes_alike x.notes h)

  pub slots_alike : (xs : List KeptSlot) → LowSlots low xs → map (slot_by (whole a)) xs ≡ map (slot_by (whole b)) xs
  slots_alike [] h = refl
  slots_alike (x ∷ xs) h = λ t. slot_alike x h.0 t ∷ slots_alike xs h.1 t

module _ (xs : List KeptSlot) (low : ℕ) (published : Read → Bool) (settled : List Delta) (k : IsKept xs low published settled) where
  -- an open request is not settled, and is of the block

  module _ (i : ℕ) (still : is_closed (status_of (slots_of xs) i) ≡ false) where
    pub in_slots : i < length xs
    in_slots = subst (λ n. i < n) (length-map xs (slot_by (whole xs))) (go (slice_get (slots_of xs) i) refl still)
      where
        go : (o : Option Slot) → slice_get (slots_of xs) i ≡ o → is_closed (option_map (λ (x : Slot). x.status) o) ≡ false → i < length (slots_of xs)
        go None e f = absurd (false≢true (sym f))
        go (Some x) e f = slice_get_within (slots_of xs) i x e

    in_shown : i < length (slots_of xs)
    in_shown = subst (λ n. i < n) (sym (length-map xs (slot_by (whole xs)))) in_slots

    pub above : low ≤ i
    above =
        elim (cases_lt i low) [
          | inl lt ↦
              absurd
              (false≢true
              (sym still ∙ ap is_closed (status_at (slots_of xs) i in_shown) ∙ ap (λ st. is_closed (Some st)) (sym (status_shown xs i)) ∙ k.closed i lt))
          | inr ge ↦ ge
        ]

    -- another slot in its place

    module _ (x : KeptSlot) (lows : LowNotes low x.notes) where
      shown_set : shown (slice_set xs i x) ≡ slice_set (shown xs) i (slot_by plain x)
      shown_set = map-set (slot_by plain) xs i x

      same_below : (j : ℕ) (read : Read) → j ≤ low → touching (shown (slice_set xs i x)) j read ≡ touching (shown xs) j read
      same_below j read le = ap (λ s. touching s j read) shown_set ∙ touching_low (shown xs) i (slot_by plain x) j read (let a = above in omega (arith, a, le))

      pub stands_for : slots_of (slice_set xs i x) ≡ slice_set (slots_of xs) i (slot_by (whole xs) x)
      stands_for = slots_alike (slice_set xs i x) xs low same_below (slice_set xs i x) (lows_set low xs i x k.lows lows) ∙ map-set (slot_by (whole xs)) xs i x

      at_other : (j : ℕ) → j ≢ i → slot_at (shown (slice_set xs i x)) j ≡ slot_at (shown xs) j
      at_other j ne = ap (λ s. slot_at s j) shown_set ∙ set_other (shown xs) i j (slot_by plain x) ne

      in_list : i < length (shown xs)
      in_list = subst (λ n. i < n) (sym (length-map xs (slot_by plain))) in_slots

      at_it : slot_at (shown (slice_set xs i x)) i ≡ slot_by plain x
      at_it = ap (λ s. slot_at s i) shown_set ∙ set_same (shown xs) i (slot_by plain x) in_list

      module _ (more : Read → Bool) (kept : (read : Read) → published read ≡ true → more read ≡ true) (own : (read : Read) → covers x.delta read ≡ true → more read ≡ true) (calm : IsCalm (slot_by plain x)) where
        knows : Knows more (shown (slice_set xs i x))
        knows j read e =
            elim (cases_eq j i) [
              | inl same ↦
                  own read (subst (λ (y : Slot). covers y.delta read ≡ true) (ap (slot_at (shown (slice_set xs i x))) same ∙ at_it) e)
              | inr ne ↦ kept read (k.knows j read (subst (λ (y : Slot). covers y.delta read ≡ true) (at_other j ne) e))
            ]

        pub holds_set : IsKept (slice_set xs i x) low more settled
        holds_set =
            record {
              within = (let n = length-set xs i x in let w = k.within in omega (arith, n, w));
              knows = knows;
              folded = λ base. k.folded base ∙ sym (view_below base (shown xs) i (slot_by plain x) low above) ∙ ap (λ s. view_at base s low) (sym shown_set);
              closed = λ j lt. ap (λ (y : Slot). is_closed (Some y.status)) (at_other j (let a = above in omega (arith, a, lt))) ∙ k.closed j lt;
              calm = λ j. elim (cases_eq j i) [
                | inl same ↦ subst IsCalm (sym (ap (slot_at (shown (slice_set xs i x))) same ∙ at_it)) calm
                | inr ne ↦ subst IsCalm (sym (at_other j ne)) (k.calm j)
              ];
              lows = lows_set low xs i x k.lows lows;
            }

    -- the slot that another one was
    module _ (y x : KeptSlot) (at : y ≡ slice_index_or xs i y) where
      pub was : (f : KeptNote → Noted) → slot_by f y ≡ slot_at (map (slot_by f) xs) i
      was f = is_slot f xs i y at in_slots

      pub old_lows : LowNotes low y.notes
      old_lows = subst (λ (z : KeptSlot). LowNotes low z.notes) (sym (kept_is xs i y at in_slots)) (lows_at low xs k.lows i)

      pub old_calm : IsCalm (slot_by plain y)
      old_calm = subst IsCalm (sym (was plain)) (k.calm i)

      -- one with the same delta
      pub holds_same : LowNotes low x.notes → x.delta ≡ y.delta → IsCalm (slot_by plain x) → IsKept (slice_set xs i x) low published settled
      holds_same lows same calm =
          holds_set x lows published (λ read e. e)
          (λ read e. k.knows i read (ap (λ (z : Slot). covers z.delta read) (sym (was plain)) ∙ ap (λ d. covers d read) (sym same) ∙ e)) calm

-- ---- notes

pub transcript_by : (xs : List KeptSlot) (ns : List KeptNote) → map kept_note_of ns ≡ transcript_of (map (whole xs) ns)
transcript_by xs [] = refl
transcript_by xs (n ∷ ns) = ap (λ ms. kept_note_of n ∷ ms) (transcript_by xs ns)

-- ---- a slot that an event changes

pub low_none : (low : ℕ) (ns : List KeptNote) → ns ≡ [] → LowNotes low ns
low_none low ns e = subst (LowNotes low) (sym e) tt

pub low_same : (low : ℕ) (ns ms : List KeptNote) → ns ≡ ms → LowNotes low ms → LowNotes low ns
low_same low ns ms e h = subst (LowNotes low) (sym e) h

module _ (xs : List KeptSlot) (low : ℕ) (published : Read → Bool) (settled : List Delta) (k : IsKept xs low published settled) (old : List Slot) (view : slots_of xs ≡ old) (i : ℕ) (still : is_closed (status_of old i) ≡ false) where
  own_still : is_closed (status_of (slots_of xs) i) ≡ false
  own_still = ap (λ s. is_closed (status_of s i)) view ∙ still

  pub in_block : i < length xs
  in_block = in_slots xs low published settled k i own_still

  pub from_low : low ≤ i
  from_low = above xs low published settled k i own_still

  module _ (y x : KeptSlot) (at : y ≡ slice_index_or xs i y) where
    pub lows_of : LowNotes low y.notes
    lows_of = old_lows xs low published settled k i own_still y x at

    pub old_is : slot_by (whole xs) y ≡ slot_at old i
    old_is = was xs low published settled k i own_still y x at (whole xs) ∙ ap (λ s. slot_at s i) view

    module _ (g : (KeptNote → Noted) → Slot → Slot) (by : (f : KeptNote → Noted) → slot_by f x ≡ g f (slot_by f y)) (lows : LowNotes low x.notes) where
      pub view_set : slots_of (slice_set xs i x) ≡ slice_set old i (g (whole xs) (slot_at old i))
      view_set = stands_for xs low published settled k i own_still x lows ∙ (λ t. slice_set (view t) i ((by (whole xs) ∙ ap (g (whole xs)) old_is) t))

      pub kept_set : (g plain (slot_by plain y)).delta ≡ y.delta → (IsCalm (slot_by plain y) → IsCalm (g plain (slot_by plain y))) → IsKept (slice_set xs i x) low published settled
      kept_set same calm =
          holds_same xs low published settled k i own_still y x at lows (ap (λ (z : Slot). z.delta) (by plain) ∙ same)
          (subst IsCalm (sym (by plain)) (calm (old_calm xs low published settled k i own_still y x at)))

      pub kept_published : (more : Read → Bool) → ((read : Read) → published read ≡ true → more read ≡ true) → ((read : Read) → covers (g plain (slot_by plain y)).delta read ≡ true → more read ≡ true)
          → IsCalm (g plain (slot_by plain y)) → IsKept (slice_set xs i x) low more settled
      kept_published more kept own calm =
          holds_set xs low published settled k i own_still x lows more kept
          (λ read e. own read (ap (λ (z : Slot). covers z.delta read) (sym (by plain)) ∙ e)) (subst IsCalm (sym (by plain)) calm)

    -- the same slot again
    pub kept_again : x ≡ y → IsKept (slice_set xs i x) low published settled
    kept_again e = kept_set (λ f z. z) (λ f. ap (slot_by f) e) (subst (λ (z : KeptSlot). LowNotes low z.notes) (sym e) lows_of) refl (λ h. h)

  pub blocker_is : (read : Read) → blocker old i read ≡ blocker (shown xs) i read
  blocker_is read = sym (ap (λ s. blocker s i read) view) ∙ sym (blocker_shown xs i read)

  pub now_is : (base : View) (read : Read) → note_now base (shown xs) i read ≡ note_now base old i read
  now_is base read =
      (λ t. record { read = read; answer = says read (view_shown xs base i t); touching = touching_shown xs i read t }) ∙ ap (λ s. note_now base s i read) view

  -- the whole note
  pub note_of_index : (y : KeptSlot) (at : ℕ) (n : KeptNote) (note : Noted) → n ≡ slice_index_or (slice_index_or xs i y).notes at n → slice_get (slot_at old i).notes at ≡ Some note → note ≡ whole xs n
  note_of_index y at n note is e =
      go (slice_index_or xs i y).notes at is
      (ap (λ (z : Slot). slice_get z.notes at) (at_slot (whole xs) xs i y in_block ∙ ap (λ s. slot_at s i) view) ∙ e)
    where
      go : (ns : List KeptNote) (at : ℕ) → n ≡ slice_index_or ns at n → slice_get (map (whole xs) ns) at ≡ Some note → note ≡ whole xs n
      go [] at is e = absurd (let f : None ≡ Some note = e in (cc))
      go (m ∷ ns) zero is e = let f : Some (whole xs m) ≡ Some note = e in let same : whole xs m ≡ note = cc in sym same ∙ ap (whole xs) (sym is)
      go (m ∷ ns) (suc at) is e = go ns at is e

  -- a note's number of settled requests
  pub index_low : (y : KeptSlot) → y ≡ slice_index_or xs i y → (ns : List KeptNote) → ns ≡ y.notes → (at : ℕ) (n : KeptNote) → n ≡ slice_index_or ns at n → at < length (slot_at old i).notes → n.low ≤ low
  index_low y is ns e at n here lt =
      let long = ap length e ∙ sym (length-map y.notes (whole xs)) ∙ ap (λ (z : Slot). length z.notes) (old_is y y is) in
      go ns at here (low_same low ns y.notes e (lows_of y y is)) (omega (arith, long, lt))
    where
      go : (ns : List KeptNote) (at : ℕ) → n ≡ slice_index_or ns at n → LowNotes low ns → at < length ns → n.low ≤ low
      go [] at here h lt = absurd (omega (arith, lt))
      go (m ∷ ns) zero here h lt = subst (λ (z : KeptNote). z.low ≤ low) (sym here) h.0
      go (m ∷ ns) (suc at) here h lt = go ns at here h.1 (omega (arith, lt))

  pub list_verdict : (n : KeptNote) (note : Noted) → note ≡ whole xs n → (v : Verdict) → ListVerdict (shown xs) i n.note.read (whole xs n).touching v → ListVerdict old i note.read note.touching v
  list_verdict n note is v h =
      subst (λ (m : Noted). ListVerdict old i m.read m.touching v) (sym is)
      (subst (λ s. ListVerdict s i n.note.read (whole xs n).touching v) view (lists_shown xs i n.note.read (whole xs n).touching v h))

  pub answer_verdict : (base : View) (n : KeptNote) (note : Noted) → note ≡ whole xs n → (v : Verdict) → NoteVerdict base (shown xs) i (whole xs n) v → NoteVerdict base old i note v
  answer_verdict base n note is v h =
      subst (λ (m : Noted). NoteVerdict base old i m v) (sym is)
      (subst (λ s. NoteVerdict base s i (whole xs n) v) view (answers_shown xs base i (whole xs n) v h))

pub notes_are : (xs : List KeptSlot) (old : List Slot) → slots_of xs ≡ old → (i : ℕ) (y : KeptSlot) → i < length xs → map kept_note_of (slice_index_or xs i y).notes ≡ transcript_of (slot_at old i).notes
notes_are xs old view i y lt =
    transcript_by xs (slice_index_or xs i y).notes ∙ ap (λ (z : Slot). transcript_of z.notes) (at_slot (whole xs) xs i y lt ∙ ap (λ s. slot_at s i) view)

-- one more note
pub noted_by : (x y : KeptSlot) (n : KeptNote) → x ≡ record y { notes = y.notes ++ n ∷ [] } → (f : KeptNote → Noted) → slot_by f x ≡ with_note (slot_by f y) (f n)
noted_by x y n e f = ap (slot_by f) e ∙ ap (λ ms. record (slot_by f y) { notes = ms }) (map-append f y.notes (n ∷ []))

-- ---- what an event leaves of a slot's delta

pub begun-delta : (x : Slot) (ns : List Noted) (clock : ℕ) → (begun x ns clock).delta ≡ x.delta
begun-delta x [] clock = refl
begun-delta x (n ∷ ns) clock = refl

if_delta : (b : Bool) (x y z : Slot) → y.delta ≡ x.delta → z.delta ≡ x.delta → (if b then y else z).delta ≡ x.delta
if_delta true x y z e f = e
if_delta false x y z e f = f

pub passed-delta : (x : Slot) (p : Option Pass) → (passed x p).delta ≡ x.delta
passed-delta x None = refl
passed-delta x (Some p) =
    if_delta ((p.next + 1) == length x.notes) x (record x { pass = None; stamp = Some p.start }) (record x { pass = Some (record p { next = p.next + 1 }) }) refl refl

pub committed-delta : (x : Slot) (st : Status) → (committed x st).delta ≡ x.delta
committed-delta x (Ready n) = refl
committed-delta x (Executing n w) = refl
committed-delta x (Executed n) = refl
committed-delta x (HasCommitted n) = refl

-- ---- what events leave calm

pub calm_open : (x : Slot) → may_estimate x.status ≡ true → IsCalm x
calm_open x e = λ f. absurd (false≢true (sym f ∙ e))

pub calm_begun : (x : Slot) (ns : List Noted) (clock : ℕ) → IsCalm x → IsCalm (begun x ns clock)
calm_begun x [] clock h = h
calm_begun x (n ∷ ns) clock h = h

pub calm_passed : (x : Slot) (p : Option Pass) → IsCalm x → IsCalm (passed x p)
calm_passed x None h = h
calm_passed x (Some p) h = go _
  where
    go : (b : Bool) → IsCalm (if b then record x { pass = None; stamp = Some p.start } else record x { pass = Some (record p { next = p.next + 1 }) })
    go true = h
    go false = h

pub calm_committed : (x : Slot) (st : Status) → x.status ≡ st → IsCalm x → IsCalm (committed x st)
calm_committed x (Executed n) e h = λ f. h (ap may_estimate e)
calm_committed x (Ready n) e h = h
calm_committed x (Executing n w) e h = h
calm_committed x (HasCommitted n) e h = h

-- ---- fresh slots

fresh_shown : (f : KeptNote → Noted) (n : ℕ) → map (slot_by f) (replicate n fresh_kept) ≡ replicate n fresh_slot
fresh_shown f zero = refl
fresh_shown f (suc n) = ap (λ xs. fresh_slot ∷ xs) (fresh_shown f n)

pub fresh_slots : (xs : List KeptSlot) (n : ℕ) → xs ≡ replicate n fresh_kept → slots_of xs ≡ replicate n fresh_slot
fresh_slots xs n e = ap slots_of e ∙ fresh_shown (whole (replicate n fresh_kept)) n

fresh_at : (n j : ℕ) → slot_at (replicate n fresh_slot) j ≡ fresh_slot
fresh_at zero j = refl
fresh_at (suc n) zero = refl
fresh_at (suc n) (suc j) = fresh_at n j

fresh_lows : (n : ℕ) → LowSlots 0 (replicate n fresh_kept)
fresh_lows zero = tt
fresh_lows (suc n) = (tt, fresh_lows n)

pub holds_fresh : (xs : List KeptSlot) (n : ℕ) (published : Read → Bool) (settled : List Delta) → xs ≡ replicate n fresh_kept → settled ≡ [] → IsKept xs 0 published settled
unfolding changed_by view_at
holds_fresh xs n published settled e none =
    let at : (j : ℕ) → slot_at (shown xs) j ≡ fresh_slot = λ j. ap (λ z. slot_at (shown z) j) e ∙ ap (λ s. slot_at s j) (fresh_shown plain n) ∙ fresh_at n j in
    record {
      within = omega arith;
      knows = λ j read c. absurd (false≢true (sym (covers_none read) ∙ ap (λ (y : Slot). covers y.delta read) (sym (at j)) ∙ c));
      folded = λ base. ap (λ cs. changed_by cs base) none;
      closed = λ j lt. absurd (omega (arith, lt));
      calm = λ j. subst IsCalm (sym (at j)) (λ f. refl);
      lows = subst (LowSlots 0) (sym e) (fresh_lows n);
    }

-- ---- one more is settled

module _ (xs : List KeptSlot) (low : ℕ) (published : Read → Bool) (settled : List Delta) (k : IsKept xs low published settled) where
  pub holds_settled : (more : List Delta) (delta : Delta) (next : ℕ) → next ≡ low + 1 → low < length xs → delta ≡ (kept_at xs low).delta → ((d : View) → changed_by more d ≡ applied delta (changed_by settled d))
      → is_closed (Some (slot_at (shown xs) low).status) ≡ true → IsKept xs next published more
  unfolding view_at
  holds_settled more delta next e lt is after shut =
      let up : low ≤ next = omega (arith, e) in
      let one : suc low ≡ next = omega (arith, e) in
      record {
        within = omega (arith, e, lt);
        knows = k.knows;
        folded = λ base.
            after base
            ∙ (λ t. applied ((is ∙ sym (ap (λ (y : Slot). y.delta) (by_at plain xs low))) t) (k.folded base t))
            ∙ ap (view_at base (shown xs)) one;
        closed = λ j below. elim (cases_eq j low) [
          | inl same ↦ subst (λ n. is_closed (Some (slot_at (shown xs) n).status) ≡ true) (sym same) shut
          | inr ne ↦ k.closed j (omega (arith, below, ne, e))
        ];
        calm = k.calm;
        lows = lows_more low next up xs k.lows;
      }

  -- settled changes that make the same of each dataset
  pub holds_alike : (others : List Delta) → ((d : View) → changed_by others d ≡ changed_by settled d) → IsKept xs low published others
  holds_alike others same = record {
    within = k.within;
    knows = k.knows;
    folded = λ base. same base ∙ k.folded base;
    closed = k.closed;
    calm = k.calm;
    lows = k.lows;
  }
