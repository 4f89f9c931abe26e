-- A book is the replay of its journal, before and after a step.
use Rattle.std.proofs.Common.{◌≡◌, ℕ, ◌==◌, ◌<◌, ◌≤◌, Bool, true, false, if◌then◌else◌, List, [], ◌∷◌, ◌++◌, length, map, Option, Some, None, Ok, option_map, slice_get, refl, sym, ap, ◌∙◌, subst, arith}
use Rattle.std.specs.Prelude.{◌≢◌}
use Rattle.std.proofs.lemmas.List.{map-append, length-map}
use Rattle.std.proofs.lemmas.Option.{slice_get-get_or, slice_get_within}
use Rattle.terms.specs.declared.term.Term.{Term}
use Rattle.datasets.specs.declared.id.Id.{Id}
use Rattle.dict.specs.Dictionary.{IsDictionary, is_known, numbers}
use Rattle.meaning.specs.Run.{Request, answer_of, run_of_first}
use Rattle.reads.specs.Reads.{View}
use Rattle.delta.specs.Sound.{IsSoundFor}
use Rattle.delta.specs.declared.finished.Finished.{Finished}
use Rattle.incarnations.specs.declared.state.Event.{Event}
use Rattle.incarnations.specs.declared.state.Event.TheVariants.{Read, Publish}
use Rattle.incarnations.specs.declared.state.Reply.{Reply}
use Rattle.incarnations.specs.declared.state.Reply.TheVariants.{Answered, Published, Stale, NotYours, NotYet}
use Rattle.incarnations.specs.declared.state.Status.{Status}
use Rattle.incarnations.specs.declared.state.Status.TheVariants.{Ready, Executing, Executed, Committed}
use Rattle.incarnations.specs.declared.state.Entry.{Entry}
use Rattle.incarnations.specs.Slots.{Slot}
use Rattle.incarnations.specs.Statuses.{execution_refusal}
use Rattle.validate.specs.Below.{slot_at, view_at}
use Rattle.slots.specs.Slots.{status_of, replies_to}
use Rattle.block_machine.specs.Machine.{State, fresh, Unless, PublishReply, IsAllowed, after, state_after}
use Rattle.block_machine.specs.Serial.{Setting, IsSetting, IsSound, IsSoundEntry, IsLawful, IsHistory, FrontIsSerial}
use Rattle.book.specs.declared.journal_entry.JournalEntry.{JournalEntry}
use Rattle.book.specs.JournalEntry.{journal_entry_of, entry_in, history_from}
use Rattle.book.specs.Run.{Run, run_of_journal, answer_at, setting, setting_of, front_run, HasAllTerms, IsReplayed, kept, IsSoundEvent}
use Rattle.book.proofs.Meaning.{is_setting, serial_run}

-- before any event
pub run_none : (terms : List Term) (base : View) (block : List (Request Id)) (journal : List JournalEntry) → journal ≡ [] → run_of_journal terms base block journal ≡ record { terms = terms; base = base; block = block; history = [] }
unfolding history_from
run_none terms base block journal none = ap (run_of_journal terms base block) none

none_yet : (run : Run) (machine : State) → IsDictionary run.terms → HasAllTerms run.terms run.base run.block → run.history ≡ [] → machine ≡ fresh (length run.block) → IsReplayed run [] machine
unfolding state_after IsHistory
none_yet run machine is h none e =
    record {
      dictionary = is;
      has_all_terms = h;
      lawful = subst (λ (es : List Entry). IsHistory (setting_of run) es) (sym none) tt;
      kept = ap (map journal_entry_of) none;
      state = e ∙ ap (λ (es : List Entry). state_after (fresh (length run.block)) es) (sym none);
    }

pub replayed_none : (terms : List Term) (base : View) (block : List (Request Id)) (journal : List JournalEntry) (machine : State) → IsDictionary terms → HasAllTerms terms base block → journal ≡ [] → machine ≡ fresh (length block)
    → IsReplayed (run_of_journal terms base block journal) journal machine
unfolding history_from
replayed_none terms base block journal machine is h none e =
    subst (λ (es : List JournalEntry). IsReplayed (run_of_journal terms base block es) es machine) (sym none)
    (none_yet (run_of_journal terms base block []) machine is h refl e)

module _ (run : Run) (journal : List JournalEntry) (machine : State) (r : IsReplayed run journal machine) where
  -- what a law says of every history, said of the book's journal and its machine
  pub said_of_book : (Says : Setting → List Entry → State → Type 0) → ((m : Setting) (history : List Entry) → IsSetting m → IsHistory m history → Says m history (state_after (fresh m.size) history)) → Says (setting_of run) run.history machine
  unfolding setting
  said_of_book Says law =
      subst (λ (s : State). Says (setting_of run) run.history s) (sym r.state)
      (law (setting_of run) run.history (is_setting run.terms run.base run.block r.dictionary r.has_all_terms) r.lawful)

  pub as_long : length run.history ≡ length journal
  as_long = sym (length-map run.history journal_entry_of) ∙ ap length r.kept

  -- WHAT THE FRONT IS

  module _ (serial : FrontIsSerial (setting_of run) machine) (within : machine.front ≤ length run.block) where
    pub front_view : view_at run.base machine.slots machine.front ≡ (front_run run).0
    unfolding setting
    front_view =
        serial.dataset
        ∙ ap (λ p. p.0) (serial_run run.terms run.base run.block machine.front within)
        ∙ ap (λ (s : State). (run_of_first (numbers run.terms) s.front run.block run.base).0) r.state

    pub front_replies : replies_to machine.slots machine.front ≡ (front_run run).1
    front_replies =
        serial.replies
        ∙ ap (λ p. p.1) (serial_run run.terms run.base run.block machine.front within)
        ∙ ap (λ (s : State). (run_of_first (numbers run.terms) s.front run.block run.base).1) r.state

-- WHAT IS KEPT OF AN EVENT

unless_map : (o : Option Reply) (r : Reply) (P Q : Type 0) → (P → Q) → Unless o r P → Unless o r Q
unless_map (Some refusal) r P Q f h = h
unless_map None r P Q f h = f h

kept_allowed : (base : View) (s : State) (w : ℕ) (e : Event) (r : Reply) → IsAllowed base s w e r → IsAllowed base s w (kept e r) r
kept_allowed base s w (Publish i n f) Published h = h
kept_allowed base s w (Publish i n None) r h = h
kept_allowed base s w (Publish i n (Some f)) NotYet h = unless_map (execution_refusal (status_of s.slots i) n w) NotYet _ _ (λ _. refl) h
kept_allowed base s w (Publish i n (Some f)) r h = unless_map (execution_refusal (status_of s.slots i) n w) r _ _ (λ x. absurd x) h
kept_allowed base s w e r h = h

kept_after : (s : State) (w : ℕ) (e : Event) (r : Reply) → after s w (kept e r) r ≡ after s w e r
kept_after s w (Publish i n f) Published = refl
kept_after s w (Publish i n None) r = refl
kept_after s w (Publish i n (Some f)) r = refl
kept_after s w e r = refl

-- what the machine runs at a place of the block
sound_at : (run : Run) (i : ℕ) (f : Finished) → i < length run.block → ((r : Request Id) → slice_get run.block i ≡ Some r → IsSoundFor (is_known run.terms) (answer_of (numbers run.terms) i r) f) → IsSound (setting_of run) i f
unfolding setting
sound_at run i f lt sound = go (slice_get run.block i) refl
  where
    go : (o : Option (Request Id)) → slice_get run.block i ≡ o → IsSoundFor (is_known run.terms) (λ d. answer_at (numbers run.terms) i o d) f
    go None e = absurd (let some = slice_get-get_or run.block i (Ok []) lt in (cc))
    go (Some r) e = sound r e

-- a request that is none of the block is not published
published_within : (base : View) (s : State) (w i n : ℕ) (f : Option Finished) → IsAllowed base s w (Publish i n f) Published → i < length s.slots
published_within base s w i n f h = go (slice_get s.slots i) refl h
  where
    go : (o : Option Slot) → slice_get s.slots i ≡ o → Unless (execution_refusal (option_map (λ x. x.status) o) n w) Published (PublishReply (slot_at s.slots i).notes f Published) → i < length s.slots
    go None e h = absurd (let stale : Published ≡ Stale = h in (cc))
    go (Some x) e h = slice_get_within s.slots i x e

-- WHAT IS KEPT STANDS FOR THE WHOLE

-- the row of a reply that is no refusal
no_refusal : (o : Option Status) (n w : ℕ) (r : Reply) (P : Type 0) → r ≢ Stale → r ≢ NotYours → Unless (execution_refusal o n w) r P → P
no_refusal None n w r P a b h = absurd (a h)
no_refusal (Some (Ready m)) n w r P a b h = absurd (a h)
no_refusal (Some (Executed m)) n w r P a b h = absurd (a h)
no_refusal (Some (Committed m)) n w r P a b h = absurd (a h)
no_refusal (Some (Executing m by)) n w r P a b h = go (m == n) (by == w) h
  where
    go : (same mine : Bool) → Unless (if same then (if mine then None else Some NotYours) else Some Stale) r P → P
    go true true h = h
    go true false h = absurd (b h)
    go false mine h = absurd (a h)

module _ (base : View) (s : State) (w : ℕ) where
  -- what is kept of a lawful entry stands for it
  entry_again : (e : Event) (r : Reply) → IsAllowed base s w e r → entry_in base s (journal_entry_of (record { worker = w; event = kept e r; reply = r })) ≡ record { worker = w; event = kept e r; reply = r }
  entry_again (Read i n q) (Answered a) h =
      let says = no_refusal (status_of s.slots i) n w (Answered a) _ (λ (e : Answered a ≡ Stale). (cc)) (λ (e : Answered a ≡ NotYours). (cc)) h in
      λ t. record { worker = w; event = Read i n q; reply = Answered (sym says.1 t) }
  entry_again (Publish i n (Some f)) Published h =
      let same = no_refusal (status_of s.slots i) n w Published _ (λ (e : Published ≡ Stale). (cc)) (λ (e : Published ≡ NotYours). (cc)) h in
      λ t. record { worker = w; event = Publish i n (Some (record f { transcript = sym same t })); reply = Published }
  entry_again (Publish i n None) Published h = refl
  entry_again (Publish i n None) r h = refl
  entry_again (Publish i n (Some f)) r h = refl
  entry_again e r h = refl

-- a journal with one entry more stands for a history with one more
history_more : (base : View) (s : State) (es : List JournalEntry) (e : JournalEntry) → history_from base s (es ++ e ∷ []) ≡ history_from base s es ++ entry_in base (state_after s (history_from base s es)) e ∷ []
unfolding history_from state_after
history_more base s [] e = refl
history_more base s (x ∷ xs) e =
    let y = entry_in base s x in
    ap (λ es. y ∷ es) (history_more base (after s y.worker y.event y.reply) xs e)

-- a history and a lawful entry after it are a history, which leads one step further
abbrev pub GoesOn : Setting → Type 0
GoesOn m = (es : List Entry) (e : Entry) → IsHistory m es → IsLawful m (state_after (fresh m.size) es) e → IsHistory m (es ++ e ∷ []) × (state_after (fresh m.size) (es ++ e ∷ []) ≡ after (state_after (fresh m.size) es) e.worker e.event e.reply)

module _ (run : Run) (journal : List JournalEntry) (machine : State) (old : IsReplayed run journal machine) (size : length machine.slots ≡ length run.block) where
  kept_sound : (w : ℕ) (e : Event) (r : Reply) → IsSoundEvent run e → IsAllowed run.base machine w e r → IsSoundEntry (setting_of run) (kept e r) r
  kept_sound w (Publish i n (Some f)) Published h allowed =
      sound_at run i f (let lt = published_within run.base machine w i n (Some f) allowed in omega (arith, lt, size)) h
  kept_sound w (Publish i n None) Published h allowed = tt
  kept_sound w (Publish i n f) r h allowed = tt
  kept_sound w e r h allowed = tt

  -- after one more event
  one_more : GoesOn (setting_of run) → (machine' : State) (w : ℕ) (e : Event) (r : Reply) → IsSoundEvent run e → IsAllowed run.base machine w e r → machine' ≡ after machine w e r
      → IsReplayed (record run { history = run.history ++ record { worker = w; event = kept e r; reply = r } ∷ [] }) (journal ++ journal_entry_of (record { worker = w; event = kept e r; reply = r }) ∷ []) machine'
  unfolding setting
  one_more goes_on machine' w e r sound allowed is =
      let entry : Entry = record { worker = w; event = kept e r; reply = r } in
      let lawful : IsLawful (setting_of run) machine entry = (kept_allowed run.base machine w e r allowed, kept_sound w e r sound allowed) in
      let next = goes_on run.history entry old.lawful (subst (λ (s : State). IsLawful (setting_of run) s entry) old.state lawful) in
      record {
        dictionary = old.dictionary;
        has_all_terms = old.has_all_terms;
        lawful = next.0;
        kept = map-append journal_entry_of run.history (entry ∷ []) ∙ ap (λ es. es ++ journal_entry_of entry ∷ []) old.kept;
        state = is ∙ sym (kept_after machine w e r) ∙ ap (λ (x : State). after x w (kept e r) r) old.state ∙ sym next.1;
      }

-- the same of the run that a journal stands for
module _ (terms : List Term) (base : View) (block : List (Request Id)) (journal : List JournalEntry) (machine : State) (old : IsReplayed (run_of_journal terms base block journal) journal machine) where
  abbrev run : Run
  run = run_of_journal terms base block journal

  module _ (w : ℕ) (e : Event) (r : Reply) (allowed : IsAllowed base machine w e r) (journal' : List JournalEntry)
      (is : journal' ≡ journal ++ journal_entry_of (record { worker = w; event = kept e r; reply = r }) ∷ []) where
    pub run_more : run_of_journal terms base block journal' ≡ record run { history = run.history ++ record { worker = w; event = kept e r; reply = r } ∷ [] }
    run_more =
        let entry : Entry = record { worker = w; event = kept e r; reply = r } in
        ap (run_of_journal terms base block) is
        ∙ ap (λ (es : List Entry). record run { history = es })
        (history_more base (fresh (length block)) journal (journal_entry_of entry)
        ∙ ap (λ (s : State). run.history ++ entry_in base s (journal_entry_of entry) ∷ []) (sym old.state)
        ∙ ap (λ (x : Entry). run.history ++ x ∷ []) (entry_again base machine w e r allowed))

    pub replayed_more : length machine.slots ≡ length block → GoesOn (setting_of run) → (machine' : State) → IsSoundEvent run e → machine' ≡ after machine w e r
        → IsReplayed (run_of_journal terms base block journal') journal' machine'
    replayed_more size goes_on machine' sound led =
        subst (λ (es : List JournalEntry). IsReplayed (run_of_journal terms base block journal') es machine') (sym is)
        (subst (λ (x : Run). IsReplayed x (journal ++ journal_entry_of (record { worker = w; event = kept e r; reply = r }) ∷ []) machine') (sym run_more)
        (one_more run journal machine old size goes_on machine' w e r sound allowed led))
