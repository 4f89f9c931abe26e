-- After every history in sixteen shards the touching lists that were noted in parts name the noted
-- answer.
use Rattle.std.proofs.Common.{◌≡◌, ◌≢◌, ℕ, zero, suc, ◌+◌, ◌<◌, ◌≤◌, ◌⊎◌, inl, inr, Bool, true, false, ◌&&◌, ◌==◌, if◌then◌else◌, List, [], ◌∷◌, ◌++◌, length, length-append, map, Option, Some, None, slice_get, slice_set, refl, sym, ap, ◌∙◌, subst, arith, eqb-true, eq-eqb, ne_eqb}
use Rattle.std.proofs.Math.Nat.{le_refl}
use Rattle.std.proofs.lemmas.Bool.{cases_eq, cases_lt}
use Rattle.std.proofs.lemmas.List.{append_assoc, append-nil, map-append, take_all, take-append-le}
use Rattle.std.proofs.lemmas.List.{get_or-replicate, get_or_past}
use Rattle.std.proofs.Math.ListN.{length-replicate}
use Rattle.std.specs.Prelude.{replicate}
use Rattle.datasets.specs.Id.{id_order}
use Rattle.change_laws.specs.Laws.{IsRising}
use Rattle.reads.specs.Reads.{View, Delta, Read, Answer, says}
use Rattle.incarnations.specs.declared.state.Status.{Status}
use Rattle.incarnations.specs.declared.state.Status.TheVariants.{Ready, Executing, Executed, Committed as HasCommitted}
use Rattle.incarnations.specs.declared.state.Event.{Event}
use Rattle.incarnations.specs.declared.state.Event.TheVariants.{Take, Read as ReadOf, Publish, Begin, Check, Commit, GiveUp}
use Rattle.incarnations.specs.declared.state.Reply.{Reply}
use Rattle.incarnations.specs.declared.state.Reply.TheVariants.{Taken, Answered, Published, Begun, Passed, Aborted, Committed, Given}
use Rattle.incarnations.specs.declared.state.Entry.{Entry}
use Rattle.incarnations.specs.Slots.{Noted, Slot, fresh_slot, with_note, committed}
use Rattle.incarnations.specs.Statuses.{is_closed}
use Rattle.validate.specs.Below.{slot_at, view_at, touching}
use Rattle.slots.specs.Slots.{status_of}
use Rattle.slots.proofs.SlotLaws.{set_same, set_other, status_within}
use Rattle.validate.proofs.Overlay.{view_rises}
use Rattle.shards.specs.Shards.{shards_of, part_of_answer, merged}
use Rattle.shards.proofs.FoundParts.{EachIs, each_part}
use Rattle.block_machine.specs.Machine.{State, fresh, after, state_after}
use Rattle.block_machine.specs.Archive.{Archive, along, archive_with, archive_after, archive_of, nothing_filed}
use Rattle.block_machine.specs.Serial.{Setting, IsSetting, state_of}
use Rattle.sharded_machine.specs.Histories.{ShardedEntry, entries, state_at, opening_of, found_lengths, ReadFound, cut_slot, Part, parts_found, answer_found, SameParts, lists_found, lists_noted_by, lists_noted_after, lists_noted, IsAllowedAfter, IsLawfulAfter, LawfulAfter, IsShardedHistory}
use Rattle.block_machine.proofs.Theorem.{unless_execution}
use Rattle.block_machine.proofs.Archive.{next_of, Below, AgreesOn, along_agrees, below_grows, same_begun, same_passed, base_rises}
use Rattle.block_machine.proofs.Statuses.{HasStatus}
use Rattle.sharded_machine.proofs.Statuses.{sharded_status}
use Rattle.sharded_machine.proofs.Archive.{Moves, moves_step, Named, named_moves, named_now, archive_in, part_listed, part_past}
use Rattle.sharded_machine.proofs.Theorem.{state_push}

abbrev pub Lists : Type 0
Lists = List (List (ℕ × ℕ))

-- ---- how a slot's incarnation and notes go on

-- the first incarnation that has not read anything yet
abbrev reads_from : Status → ℕ
reads_from (Ready n) = n
reads_from (Executing n by) = suc n
reads_from (Executed n) = suc n
reads_from (HasCommitted n) = suc n

-- whether this incarnation is executing or executed
abbrev runs : ℕ → Status → Bool
runs n (Ready k) = false
runs n (Executing k by) = k == n
runs n (Executed k) = k == n
runs n (HasCommitted k) = false

-- the same incarnation keeps its notes, and a new one has none
record Turns (was now : Slot) : Type 0 where
  from : reads_from was.status ≤ reads_from now.status
  notes : (n : ℕ) → runs n now.status ≡ true → ((runs n was.status ≡ true) × (now.notes ≡ was.notes)) ⊎ ((reads_from was.status ≤ n) × (now.notes ≡ []))

turns_not : (x : Slot) → Turns x x
turns_not x = record { from = le_refl (reads_from x.status); notes = λ n e. inl (e, refl) }

turns_set : (slots : List Slot) (i : ℕ) (x : Slot) → i < length slots → Turns (slot_at slots i) x → (j : ℕ) → Turns (slot_at slots j) (slot_at (slice_set slots i x) j)
turns_set slots i x within h j =
    elim (cases_eq j i) [
      | inl e ↦
          let now : x ≡ slot_at (slice_set slots i x) j = sym (ap (slot_at (slice_set slots i x)) e ∙ set_same slots i x within) in
          subst (λ y. Turns (slot_at slots j) y) now (subst (λ (n : ℕ). Turns (slot_at slots n) x) (sym e) h)
      | inr ne ↦ subst (λ y. Turns (slot_at slots j) y) (sym (set_other slots i j x ne)) (turns_not (slot_at slots j))
    ]

turns_kept : (x y : Slot) → y.status ≡ x.status → y.notes ≡ x.notes → Turns x y
turns_kept x y status notes =
    record { from = (let e = ap reads_from status in omega (arith, e)); notes = λ n e. inl (ap (runs n) (sym status) ∙ e, notes) }

turns_over : (x y : Slot) → reads_from x.status ≤ reads_from y.status → ((n : ℕ) → runs n y.status ≡ false) → Turns x y
turns_over x y le none = record { from = le; notes = λ n e. absurd (let d : false ≡ true = sym (none n) ∙ e in (cc)) }

turns_committed : (x : Slot) (st : Status) → x.status ≡ st → Turns x (committed x st)
turns_committed x (Ready n) e = turns_not x
turns_committed x (Executing n by) e = turns_not x
turns_committed x (Executed n) e = turns_over x (committed x (Executed n)) (let h = ap reads_from e in omega (arith, h)) (λ k. refl)
turns_committed x (HasCommitted n) e = turns_not x

-- each event but an answered read
abbrev TurnsBy : State → ℕ → Event → Reply → Type 0
TurnsBy s w (ReadOf i n read) (Answered a) = Unit {0}
TurnsBy s w e r = (j : ℕ) → Turns (slot_at s.slots j) (slot_at (after s w e r).slots j)

closed_within : (slots : List Slot) (i : ℕ) (o : Option Status) → status_of slots i ≡ o → is_closed o ≡ false → i < length slots
closed_within slots i None e h = cc
closed_within slots i (Some st) e h = (status_within slots i st e).0

turns_step : (s : State) (w : ℕ) (e : Event) (r : Reply) → HasStatus s.slots w e r → TurnsBy s w e r
turns_step s w (Take i) (Taken n) h =
    let at = status_within s.slots i (Ready n) h in
    let st = ap reads_from at.1 in
    turns_set s.slots i _ at.0
    (record {
      from = omega (arith, st);
      notes = λ k e. inr ((let same : n ≡ k = eqb-true n k e in omega (arith, st, same)), refl);
    })
turns_step s w (ReadOf i n read) (Answered a) h = tt
turns_step s w (Publish i n (Some f)) Published h =
    let at = status_within s.slots i (Executing n w) h in
    let st = ap reads_from at.1 in
    turns_set s.slots i _ at.0 (record { from = omega (arith, st); notes = λ k e. inl (ap (runs k) at.1 ∙ e, refl) })
turns_step s w (Begin i n) Begun h =
    let same = same_begun (slot_at s.slots i) (slot_at s.slots i).notes s.clock in
    turns_set s.slots i _ (status_within s.slots i (Executed n) h).0 (turns_kept (slot_at s.slots i) _ same.status same.notes)
turns_step s w (Check i n) Passed h =
    let same = same_passed (slot_at s.slots i) (slot_at s.slots i).pass in
    turns_set s.slots i _ (status_within s.slots i (Executed n) h).0 (turns_kept (slot_at s.slots i) _ same.status same.notes)
turns_step s w (Check i n) Aborted h =
    let at = status_within s.slots i (Executed n) h in
    let st = ap reads_from at.1 in
    turns_set s.slots i _ at.0 (turns_over (slot_at s.slots i) _ (omega (arith, st)) (λ k. refl))
turns_step s w (Commit i) Committed h =
    turns_set s.slots i _ (closed_within s.slots i (status_of s.slots i) refl h) (turns_committed (slot_at s.slots i) (slot_at s.slots i).status refl)
turns_step s w (GiveUp i n) Given h =
    let at = status_within s.slots i (Executing n w) h in
    let st = ap reads_from at.1 in
    turns_set s.slots i _ at.0 (turns_over (slot_at s.slots i) _ (omega (arith, st)) (λ k. refl))
turns_step s w event reply h = λ j. turns_not (slot_at s.slots j)

-- ---- answers along lists

-- the parts of an answer along touching lists, one for each shard
abbrev pub answers_along : Archive → View → Read → List ℕ → Lists → List Answer
answers_along archive base read (k ∷ ks) (l ∷ ls) = part_of_answer k (says read (along (archive_in k archive) base l)) ∷ answers_along archive base read ks ls
answers_along archive base read (k ∷ ks) [] = []
answers_along archive base read [] ls = []

-- no publication of these lists is still to come
abbrev pub AllBelow : List Slot → Lists → Type 0
AllBelow slots [] = Unit {0}
AllBelow slots (l ∷ ls) = Below slots l × AllBelow slots ls

below_moves : (was now : List Slot) → ((j : ℕ) → next_of (slot_at was j).status ≤ next_of (slot_at now j).status) → (ls : Lists) → AllBelow was ls → AllBelow now ls
below_moves was now grows [] h = tt
below_moves was now grows (l ∷ ls) h = (below_grows was now grows l h.0, below_moves was now grows ls h.1)

answers_move : (slots : List Slot) (old new : Archive) → AgreesOn slots old new → (base : View) (read : Read) (ks : List ℕ) (ls : Lists) → AllBelow slots ls → answers_along new base read ks ls ≡ answers_along old base read ks ls
answers_move slots old new agrees base read [] ls h = refl
answers_move slots old new agrees base read (k ∷ ks) [] h = refl
answers_move slots old new agrees base read (k ∷ ks) (l ∷ ls) h =
    λ t. part_of_answer k (says read (along_agrees slots (archive_in k old) (archive_in k new) (λ j v lt z. cut_at k (agrees j v lt z)) base l h.0 t)) ∷ answers_move slots old new agrees base read ks ls h.1 t
  where
    cut_at : ℕ → Delta → Delta
    cut_at k d = (cut_slot k (record fresh_slot { delta = d })).delta

module _ (m : Setting) (rising : IsRising id_order m.base) (history : List ShardedEntry) (archive : Archive) (now : List Slot) (named : (n : ℕ) → Named archive now (state_at m history n).slots) (i : ℕ) (read : Read) where
  -- the parts found are the parts along the lists found
  along_found : (ks ns : List ℕ) → map (λ (p : Part). part_of_answer p.shard (says read (view_at m.base p.slots i))) (parts_found m history ks ns) ≡ answers_along archive m.base read ks (lists_found (parts_found m history ks ns) i read)
  unfolding parts_found
  along_found [] ns = refl
  along_found (k ∷ ks) [] = refl
  along_found (k ∷ ks) (n ∷ ns) =
      λ t. part_of_answer k (part_listed archive now (state_at m history n).slots (named n) k read m.base rising i t) ∷ along_found ks ns t

  below_found : (ks ns : List ℕ) → AllBelow now (lists_found (parts_found m history ks ns) i read)
  unfolding parts_found
  below_found [] ns = tt
  below_found (k ∷ ks) [] = tt
  below_found (k ∷ ks) (n ∷ ns) = (part_past archive now (state_at m history n).slots (named n) k read i, below_found ks ns)

-- ---- notes

pub record NoteMade (base : View) (archive : Archive) (slots : List Slot) (note : Noted) (ls : Lists) : Type 0 where
  pub below : AllBelow slots ls
  pub answer : note.answer ≡ merged note.read (answers_along archive base note.read (shards_of note.read) ls)

-- each note has its lists
abbrev pub NotesMade : View → Archive → List Slot → List Noted → List Lists → Type 0
NotesMade base archive slots [] [] = Unit {0}
NotesMade base archive slots [] (l ∷ ls) = ⊥
NotesMade base archive slots (n ∷ ns) [] = ⊥
NotesMade base archive slots (n ∷ ns) (l ∷ ls) = NoteMade base archive slots n l × NotesMade base archive slots ns ls

notes_move : (base : View) (old new : Archive) (was now : List Slot) → Moves old new was now → (ns : List Noted) (ls : List Lists) → NotesMade base old was ns ls → NotesMade base new now ns ls
notes_move base old new was now moves [] [] h = tt
notes_move base old new was now moves [] (l ∷ ls) h = absurd h
notes_move base old new was now moves (n ∷ ns) [] h = absurd h
notes_move base old new was now moves (n ∷ ns) (l ∷ ls) h = (
  record {
    below = below_moves was now moves.grows l h.0.below;
    answer = h.0.answer ∙ ap (merged n.read) (sym (answers_move was old new moves.agrees base n.read (shards_of n.read) l h.0.below));
  },
  notes_move base old new was now moves ns ls h.1,
)

pub notes_append : (base : View) (archive : Archive) (slots : List Slot) (ns : List Noted) (ls : List Lists) (n : Noted) (l : Lists) → NotesMade base archive slots ns ls → NoteMade base archive slots n l → NotesMade base archive slots (ns ++ n ∷ []) (ls ++ l ∷ [])
notes_append base archive slots [] [] n l h a = (a, tt)
notes_append base archive slots [] (y ∷ ys) n l h a = absurd h
notes_append base archive slots (x ∷ xs) [] n l h a = absurd h
notes_append base archive slots (x ∷ xs) (y ∷ ys) n l h a = (h.0, notes_append base archive slots xs ys n l h.1 a)

note_at : (base : View) (archive : Archive) (slots : List Slot) (ns : List Noted) (ls : List Lists) (k : ℕ) (n : Noted) (l : Lists) → NotesMade base archive slots ns ls → slice_get ns k ≡ Some n → slice_get ls k ≡ Some l → NoteMade base archive slots n l
note_at base archive slots [] ls k n l h a b = absurd (let d : None ≡ Some n = a in (cc))
note_at base archive slots (x ∷ xs) [] k n l h a b = absurd h
note_at base archive slots (x ∷ xs) (y ∷ ys) zero n l h a b =
    let p : x ≡ n = (let d : Some x ≡ Some n = a in (cc)) in
    let q : y ≡ l = (let d : Some y ≡ Some l = b in (cc)) in
    subst (λ (z : Noted). NoteMade base archive slots z l) p (subst (λ (z : Lists). NoteMade base archive slots x z) q h.0)
note_at base archive slots (x ∷ xs) (y ∷ ys) (suc k) n l h a b = note_at base archive slots xs ys k n l h.1 a b

-- ---- the invariant

record Noting (m : Setting) (history : List ShardedEntry) (archive : Archive) (s : State) : Type 0 where
  now : Named archive s.slots s.slots
  named : (n : ℕ) → Named archive s.slots (state_at m history n).slots
  made : (i n : ℕ) → runs n (slot_at s.slots i).status ≡ true → NotesMade m.base archive s.slots (slot_at s.slots i).notes (lists_noted m history i n)
  none : (i n : ℕ) → reads_from (slot_at s.slots i).status ≤ n → lists_noted m history i n ≡ []

lists_push : (m : Setting) (before : List ShardedEntry) (i n : ℕ) (es : List ShardedEntry) (e : ShardedEntry)
    → lists_noted_after m before i n (es ++ e ∷ []) ≡ lists_noted_after m before i n es ++ lists_noted_by m (before ++ es) i n e.entry.event e.entry.reply e.lengths
unfolding lists_noted_after
lists_push m before i n [] e = append-nil _ ∙ ap (λ (xs : List ShardedEntry). lists_noted_by m xs i n e.entry.event e.entry.reply e.lengths) (sym (append-nil before))
lists_push m before i n (x ∷ xs) e =
    ap (λ ls. lists_noted_by m before i n x.entry.event x.entry.reply x.lengths ++ ls)
    (lists_push m (before ++ x ∷ []) i n xs e
    ∙ ap (λ (ys : List ShardedEntry). lists_noted_after m (before ++ x ∷ []) i n xs ++ lists_noted_by m ys i n e.entry.event e.entry.reply e.lengths) (append_assoc before (x ∷ []) xs))
    ∙ sym (append_assoc (lists_noted_by m before i n x.entry.event x.entry.reply x.lengths) (lists_noted_after m (before ++ x ∷ []) i n xs) (lists_noted_by m (before ++ x ∷ xs) i n e.entry.event e.entry.reply e.lengths))

archive-push : (archive : Archive) (es : List Entry) (e : Entry) → archive_after archive (es ++ e ∷ []) ≡ archive_with (archive_after archive es) e.event e.reply
unfolding archive_after
archive-push archive [] e = refl
archive-push archive (x ∷ xs) e = archive-push (archive_with archive x.event x.reply) xs e

-- an event that is no answered read notes nothing
notes_nothing : (m : Setting) (history : List ShardedEntry) (i n : ℕ) (e : ShardedEntry) → lists_noted_by m history i n e.entry.event e.entry.reply e.lengths ≡ [] → lists_noted m (history ++ e ∷ []) i n ≡ lists_noted m history i n
notes_nothing m history i n e none = lists_push m [] i n history e ∙ ap (λ ls. lists_noted m history i n ++ ls) none ∙ append-nil (lists_noted m history i n)

module _ (m : Setting) (rising : IsRising id_order m.base) (history : List ShardedEntry) (archive : Archive) (old : Noting m history archive (state_of m (entries history))) (e : ShardedEntry) (allowed : IsAllowedAfter m history e.entry.worker e.entry.event e.entry.reply e.lengths) where
  abbrev s : State
  s = state_of m (entries history)

  abbrev t : State
  t = after (state_of m (entries history)) e.entry.worker e.entry.event e.entry.reply

  abbrev archive' : Archive
  archive' = archive_with archive e.entry.event e.entry.reply

  moves : Moves archive archive' s.slots t.slots
  moves = moves_step archive s e.entry.worker e.entry.event e.entry.reply (sharded_status m history e.entry.worker e.entry.event e.entry.reply e.lengths allowed)

  now' : Named archive' t.slots t.slots
  now' = named_now archive archive' s.slots t.slots moves old.now

  named_before : (n : ℕ) → Named archive' t.slots (state_at m history n).slots
  named_before n = named_moves archive archive' s.slots t.slots (state_at m history n).slots moves (old.named n)

  named' : (n : ℕ) → Named archive' t.slots (state_at m (history ++ e ∷ []) n).slots
  named' n =
      elim (cases_lt n (length history + 1)) [
        | inl lt ↦
            subst (λ (es : List ShardedEntry). Named archive' t.slots (state_of m (entries es)).slots) (sym (take-append-le n history (e ∷ []) (omega (arith, lt)))) (named_before n)
        | inr past ↦
            subst (λ (es : List ShardedEntry). Named archive' t.slots (state_of m (entries es)).slots) (sym (take_all n (history ++ e ∷ []) (long past)))
            (subst (λ (x : State). Named archive' t.slots x.slots) (sym (state_push m history e)) now')
      ]
    where
      long : length history + 1 ≤ n → length (history ++ e ∷ []) ≤ n
      long past = let l = length-append history (e ∷ []) in omega (arith, l, past)

  -- with no note more
  noting_turned : ((i n : ℕ) → lists_noted_by m history i n e.entry.event e.entry.reply e.lengths ≡ []) → ((j : ℕ) → Turns (slot_at s.slots j) (slot_at t.slots j)) → Noting m (history ++ e ∷ []) archive' t
  noting_turned nothing turns =
      record {
        now = now';
        named = named';
        made = λ i n h. made i n ((turns i).notes n h);
        none = λ i n h. (let f = (turns i).from in notes_nothing m history i n e (nothing i n) ∙ old.none i n (omega (arith, f, h)));
      }
    where
      made : (i n : ℕ) → ((runs n (slot_at s.slots i).status ≡ true) × ((slot_at t.slots i).notes ≡ (slot_at s.slots i).notes)) ⊎ ((reads_from (slot_at s.slots i).status ≤ n) × ((slot_at t.slots i).notes ≡ []))
          → NotesMade m.base archive' t.slots (slot_at t.slots i).notes (lists_noted m (history ++ e ∷ []) i n)
      made i n (inl same) =
          subst (λ (ns : List Noted). NotesMade m.base archive' t.slots ns (lists_noted m (history ++ e ∷ []) i n)) (sym same.1)
          (subst (λ (ls : List Lists). NotesMade m.base archive' t.slots (slot_at s.slots i).notes ls) (sym (notes_nothing m history i n e (nothing i n)))
          (notes_move m.base archive archive' s.slots t.slots moves (slot_at s.slots i).notes (lists_noted m history i n) (old.made i n same.0)))
      made i n (inr new) =
          subst (λ (ns : List Noted). NotesMade m.base archive' t.slots ns (lists_noted m (history ++ e ∷ []) i n)) (sym new.1)
          (subst (λ (ls : List Lists). NotesMade m.base archive' t.slots [] ls) (sym (notes_nothing m history i n e (nothing i n) ∙ old.none i n new.0)) tt)

-- an entry by its parts
abbrev entry_of : ℕ → Event → Reply → List ℕ → ShardedEntry
entry_of w e r lengths = record { entry = record { worker = w; event = e; reply = r }; lengths = lengths }

module _ (m : Setting) (rising : IsRising id_order m.base) (history : List ShardedEntry) (archive : Archive) (old : Noting m history archive (state_of m (entries history))) where
  abbrev slots : List Slot
  slots = (state_of m (entries history)).slots

  -- an answered read is noted with its lists
  noting_read : (w i n : ℕ) (read : Read) (a : Answer) (lengths : List ℕ) → IsAllowedAfter m history w (ReadOf i n read) (Answered a) lengths
      → Noting m (history ++ entry_of w (ReadOf i n read) (Answered a) lengths ∷ []) archive (after (state_of m (entries history)) w (ReadOf i n read) (Answered a))
  noting_read w i n read a lengths allowed =
      record {
        now = now' m rising history archive old e allowed;
        named = named' m rising history archive old e allowed;
        made = λ j k h.
            elim (cases_eq j i) [
              | inl is ↦ subst (λ (x : ℕ). runs k (slot_at after_slots x).status ≡ true → NotesMade m.base archive after_slots (slot_at after_slots x).notes (lists_noted m history' x k)) (sym is) (made_here k) h
              | inr ne ↦
                  let same : slot_at after_slots j ≡ slot_at slots j = set_other slots i j x ne in
                  subst (λ (y : Slot). NotesMade m.base archive after_slots y.notes (lists_noted m history' j k)) (sym same)
                  (subst (λ (ls : List Lists). NotesMade m.base archive after_slots (slot_at slots j).notes ls) (sym (notes_nothing m history j k e (nothing_there j k ne)))
                  (notes_move m.base archive archive slots after_slots moved (slot_at slots j).notes (lists_noted m history j k) (old.made j k (ap (λ (y : Slot). runs k y.status) (sym same) ∙ h))))
            ];
        none = λ j k h.
            elim (cases_eq j i) [
              | inl is ↦ subst (λ (x : ℕ). reads_from (slot_at after_slots x).status ≤ k → lists_noted m history' x k ≡ []) (sym is) (none_here k) h
              | inr ne ↦
                  let same = ap (λ (y : Slot). reads_from y.status) (set_other slots i j x ne) in
                  notes_nothing m history j k e (nothing_there j k ne) ∙ old.none j k (omega (arith, same, h))
            ];
      }
    where
      e : ShardedEntry
      e = entry_of w (ReadOf i n read) (Answered a) lengths

      history' : List ShardedEntry
      history' = history ++ e ∷ []

      note : Noted
      note = record { read = read; answer = a; touching = touching slots i read }

      x : Slot
      x = with_note (slot_at slots i) note

      after_slots : List Slot
      after_slots = slice_set slots i x

      u : (status_of slots i ≡ Some (Executing n w)) × ReadFound m.base (state_at m history (opening_of lengths)).slots (parts_found m history (shards_of read) (found_lengths lengths)) i read (Answered a)
      u = unless_execution (status_of slots i) n w (Answered a) _ (λ e. cc) (λ e. cc) allowed.1

      at : (i < length slots) × ((slot_at slots i).status ≡ Executing n w)
      at = status_within slots i (Executing n w) u.0

      moved : Moves archive archive slots after_slots
      moved = moves m rising history archive old e allowed

      parts : List Part
      parts = parts_found m history (shards_of read) (found_lengths lengths)

      by : ℕ → ℕ → List Lists
      by j k = if (i == j) && (n == k) then lists_found parts j read ∷ [] else []

      nothing_there : (j k : ℕ) → j ≢ i → by j k ≡ []
      nothing_there j k ne = ap (λ b. if b && (n == k) then lists_found parts j read ∷ [] else []) (ne_eqb i j (λ e. ne (sym e)))

      nothing_yet : (k : ℕ) → n ≢ k → by i k ≡ []
      nothing_yet k ne = λ t. if (eq-eqb i i refl t) && (ne_eqb n k ne t) then lists_found parts i read ∷ [] else []

      listed : (k : ℕ) → (n == k) ≡ true → by i k ≡ lists_found parts i read ∷ []
      listed k same = λ t. if (eq-eqb i i refl t) && (same t) then lists_found parts i read ∷ [] else []

      here : slot_at after_slots i ≡ x
      here = set_same slots i x at.0

      made_here : (k : ℕ) → runs k (slot_at after_slots i).status ≡ true → NotesMade m.base archive after_slots (slot_at after_slots i).notes (lists_noted m history' i k)
      made_here k h =
          let was : runs k (slot_at slots i).status ≡ true = ap (λ (y : Slot). runs k y.status) (sym here) ∙ h in
          let same : (n == k) ≡ true = ap (runs k) (sym at.1) ∙ was in
          subst (λ (y : Slot). NotesMade m.base archive after_slots y.notes (lists_noted m history' i k)) (sym here)
          (subst (λ (ls : List Lists). NotesMade m.base archive after_slots ((slot_at slots i).notes ++ note ∷ []) ls) (sym (lists_push m [] i k history e ∙ ap (λ ls. lists_noted m history i k ++ ls) (listed k same)))
          (notes_append m.base archive after_slots (slot_at slots i).notes (lists_noted m history i k) note (lists_found parts i read)
          (notes_move m.base archive archive slots after_slots moved (slot_at slots i).notes (lists_noted m history i k) (old.made i k was))
          (record {
            below = below_found m rising history archive after_slots (named_before m rising history archive old e allowed) i read (shards_of read) (found_lengths lengths);
            answer = u.1.1 ∙ ap (merged read) (along_found m rising history archive after_slots (named_before m rising history archive old e allowed) i read (shards_of read) (found_lengths lengths));
          })))

      none_here : (k : ℕ) → reads_from (slot_at after_slots i).status ≤ k → lists_noted m history' i k ≡ []
      none_here k h =
          let same = ap (λ (y : Slot). reads_from y.status) here in
          let st = ap reads_from at.1 in
          let ne : n ≢ k = (omega (arith, same, st, h)) in
          notes_nothing m history i k e (nothing_yet k ne) ∙ old.none i k (omega (arith, same, h))

  noting_step : (w : ℕ) (e : Event) (r : Reply) (lengths : List ℕ) → IsAllowedAfter m history w e r lengths → Noting m (history ++ entry_of w e r lengths ∷ []) (archive_with archive e r) (after (state_of m (entries history)) w e r)
  noting_step w (ReadOf i n read) (Answered a) lengths allowed = noting_read w i n read a lengths allowed
  noting_step w e r lengths allowed =
      noting_turned m rising history archive old (entry_of w e r lengths) allowed (λ i n. refl)
      (turns_step (state_of m (entries history)) w e r (sharded_status m history w e r lengths allowed))

noting_push : (m : Setting) → IsRising id_order m.base → (history : List ShardedEntry) (e : ShardedEntry) → Noting m history (archive_of (entries history)) (state_of m (entries history)) → IsLawfulAfter m history e
    → Noting m (history ++ e ∷ []) (archive_of (entries (history ++ e ∷ []))) (state_of m (entries (history ++ e ∷ [])))
noting_push m rising history e old lawful =
    subst (λ (a : Archive). Noting m (history ++ e ∷ []) a (state_of m (entries (history ++ e ∷ []))))
    (sym (ap archive_of (map-append (λ (x : ShardedEntry). x.entry) history (e ∷ [])) ∙ archive-push nothing_filed (entries history) e.entry))
    (subst (λ (x : State). Noting m (history ++ e ∷ []) (archive_with (archive_of (entries history)) e.entry.event e.entry.reply) x) (sym (state_push m history e))
    (noting_step m rising history (archive_of (entries history)) old e.entry.worker e.entry.event e.entry.reply e.lengths lawful.0))

noting_after : (m : Setting) → IsRising id_order m.base → (before history : List ShardedEntry) → Noting m before (archive_of (entries before)) (state_of m (entries before)) → LawfulAfter m before history
    → Noting m (before ++ history) (archive_of (entries (before ++ history))) (state_of m (entries (before ++ history)))
noting_after m rising before [] old lawful = subst (λ (es : List ShardedEntry). Noting m es (archive_of (entries es)) (state_of m (entries es))) (sym (append-nil before)) old
noting_after m rising before (e ∷ es) old lawful =
    subst (λ (xs : List ShardedEntry). Noting m xs (archive_of (entries xs)) (state_of m (entries xs))) (append_assoc before (e ∷ []) es)
    (noting_after m rising (before ++ e ∷ []) es (noting_push m rising before e old lawful.0) lawful.1)

fresh_at : (size j : ℕ) → slot_at (replicate size fresh_slot) j ≡ fresh_slot
fresh_at size j =
    elim (cases_lt j (length (replicate size fresh_slot))) [
      | inl lt ↦ get_or-replicate size j fresh_slot fresh_slot (let l = length-replicate size fresh_slot in omega (arith, l, lt))
      | inr ge ↦ get_or_past (replicate size fresh_slot) j fresh_slot ge
    ]

noting_nothing : (m : Setting) → Noting m [] nothing_filed (fresh m.size)
unfolding state_after lists_noted_after
noting_nothing m =
    record {
      now = fresh_named;
      named = λ n. subst (λ (es : List ShardedEntry). Named nothing_filed (replicate m.size fresh_slot) (state_of m (entries es)).slots) (sym (take_all n [] (omega arith))) fresh_named;
      made = λ i n h. absurd (let d : false ≡ true = ap (λ (x : Slot). runs n x.status) (sym (fresh_at m.size i)) ∙ h in (cc));
      none = λ i n h. refl;
    }
  where
    fresh_named : Named nothing_filed (replicate m.size fresh_slot) (replicate m.size fresh_slot)
    fresh_named j = inl (ap (λ (x : Slot). x.delta) (fresh_at m.size j))

noting_whole : (m : Setting) → IsSetting m → (history : List ShardedEntry) → IsShardedHistory m history → Noting m history (archive_of (entries history)) (state_of m (entries history))
unfolding IsShardedHistory state_after archive_after
noting_whole m ok history lawful = noting_after m (base_rises m ok) [] history (noting_nothing m) lawful

-- the parts found are those of the shards
shards_found : (m : Setting) (history : List ShardedEntry) (ks ns : List ℕ) → length ns ≡ length ks → map (λ (p : Part). p.shard) (parts_found m history ks ns) ≡ ks
unfolding parts_found
shards_found m history [] ns h = refl
shards_found m history (k ∷ ks) [] h = absurd (omega (arith, h))
shards_found m history (k ∷ ks) (n ∷ ns) h = let rest : length ns ≡ length ks = omega (arith, h) in λ t. k ∷ shards_found m history ks ns rest t

parts_same : (base : View) (i : ℕ) (note : Noted) (ps : List Part) → EachIs (λ (p : Part). p.shard) (λ (p : Part). view_at base p.slots i) note.read note.answer ps → SameParts base ps i note
parts_same base i note [] h = tt
parts_same base i note (p ∷ ps) h = (h.0, parts_same base i note ps h.1)

-- Where the lists found are the noted ones, every part of the answer found is the noted one.
pub sharded_lists_are_enough : (m : Setting) (history : List ShardedEntry) (i n k : ℕ) (note : Noted) (lengths : List ℕ) → IsSetting m → IsShardedHistory m history
    → status_of (state_of m (entries history)).slots i ≡ Some (Executed n) → slice_get (slot_at (state_of m (entries history)).slots i).notes k ≡ Some note
    → length lengths ≡ length (shards_of note.read) → slice_get (lists_noted m history i n) k ≡ Some (lists_found (parts_found m history (shards_of note.read) lengths) i note.read)
    → SameParts m.base (parts_found m history (shards_of note.read) lengths) i note
sharded_lists_are_enough m history i n k note lengths ok lawful st at len same =
    let noting = noting_whole m ok history lawful in
    let slots = (state_of m (entries history)).slots in
    let archive = archive_of (entries history) in
    let parts = parts_found m history (shards_of note.read) lengths in
    let rising = base_rises m ok in
    let run : runs n (slot_at slots i).status ≡ true = ap (runs n) (status_within slots i (Executed n) st).1 ∙ eq-eqb n n refl in
    let made = note_at m.base archive slots (slot_at slots i).notes (lists_noted m history i n) k note (lists_found parts i note.read) (noting.made i n run) at same in
    let answer : note.answer ≡ answer_found m.base parts i note.read =
    made.answer ∙ ap (merged note.read) (sym (along_found m rising history archive slots noting.named i note.read (shards_of note.read) lengths)) in
    parts_same m.base i note parts
    (subst (λ (a : Answer). EachIs (λ (p : Part). p.shard) (λ (p : Part). view_at m.base p.slots i) note.read a parts) (sym answer)
    (each_part (λ (p : Part). p.shard) (λ (p : Part). view_at m.base p.slots i) m.base rising (λ p. view_rises m.base p.slots rising i) note.read parts
    (shards_found m history (shards_of note.read) lengths len)))

has_lists : (base : View) (archive : Archive) (slots : List Slot) (ns : List Noted) (ls : List Lists) (k : ℕ) (n : Noted) → NotesMade base archive slots ns ls → slice_get ns k ≡ Some n → (l : Lists) × (slice_get ls k ≡ Some l)
has_lists base archive slots [] ls k n h a = absurd (let d : None ≡ Some n = a in (cc))
has_lists base archive slots (x ∷ xs) [] k n h a = absurd h
has_lists base archive slots (x ∷ xs) (y ∷ ys) zero n h a = (y, refl)
has_lists base archive slots (x ∷ xs) (y ∷ ys) (suc k) n h a = has_lists base archive slots xs ys k n h.1 a

-- Each noted read of an executed request has its lists.
pub noted_has_lists : (m : Setting) (history : List ShardedEntry) (i n k : ℕ) (note : Noted) → IsSetting m → IsShardedHistory m history
    → status_of (state_of m (entries history)).slots i ≡ Some (Executed n) → slice_get (slot_at (state_of m (entries history)).slots i).notes k ≡ Some note
    → (lists : Lists) × (slice_get (lists_noted m history i n) k ≡ Some lists)
noted_has_lists m history i n k note ok lawful st at =
    let slots = (state_of m (entries history)).slots in
    let run : runs n (slot_at slots i).status ≡ true = ap (runs n) (status_within slots i (Executed n) st).1 ∙ eq-eqb n n refl in
    has_lists m.base (archive_of (entries history)) slots (slot_at slots i).notes (lists_noted m history i n) k note ((noting_whole m ok history lawful).made i n run) at
