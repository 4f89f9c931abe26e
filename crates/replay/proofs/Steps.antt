-- A step of the book follows a line.
use Rattle.std.proofs.Common.{◌≡◌, ℕ, Bool, true, List, [], ◌∷◌, Option, Some, None, Ok, Err, IfOk, ◌⊎◌, inl, inr, refl, sym, ap, ◌∙◌, subst, append-nil}
use Rattle.std.specs.Prelude.{◌≢◌, Result, IfSome, IfNone}
use Rattle.std.proofs.lemmas.Option.{same_Some}
use Rattle.terms.specs.declared.term.Term.{Term}
use Rattle.datasets.specs.declared.read.Read as reading
use Rattle.dict.specs.Dictionary.{term_of, is_known}
use Rattle.reads.specs.Reads.{Read}
use Rattle.delta.specs.declared.finished.Finished.{Finished}
use Rattle.incarnations.specs.declared.state.Event.{Event}
use Rattle.incarnations.specs.declared.state.Event.TheVariants as event
use Rattle.incarnations.specs.declared.state.Reply.{Reply}
use Rattle.incarnations.specs.declared.state.Reply.TheVariants.{Published}
use Rattle.incarnations.specs.declared.state.Entry.{Entry}
use Rattle.block_machine.specs.Machine.{IsAllowed, wanted_reply}
use Rattle.block_machine.specs.Serial.{IsLawful}
use Rattle.book.specs.Run.{Run, setting, setting_of, state_of, kept}
use Rattle.journal.specs.declared.lines.Line.{Line}
use Rattle.journal.specs.declared.lines.Event as told_event
use Rattle.journal.specs.declared.lines.Event.TheVariants.{Take, Read as ReadOf, Publish, Begin, Check, Commit, GiveUp}
use Rattle.journal.specs.declared.lines.Reply.TheVariants as told
use Rattle.replay.specs.Lines.{renamed_read, read_known, line_event, line_reply, event_known, IsEntryOf}
use Rattle.replay.specs.Found.{IsFound}
use Rattle.replay.specs.Noted.{BeginsWith}
use Rattle.replay.specs.Replays.{notes_at, NoneIsLawful, HasOtherNotes, IsOfOtherNotes, IsUnlawful}
use Rattle.replay.specs.Following.{whole_event, tells_pass, with_entry, IsSoundAt, OnlyReply, Follows}
use Rattle.replay.proofs.Replies.{whole_one, read_one, refused_one, published_one, check_one}

pub both_ok : {A E : Type 0} (r : Result A E) (P Q R : A → Type 0) → ((a : A) → P a → Q a → R a) → IfOk r P → IfOk r Q → IfOk r R
both_ok (Ok a) P Q R f p q = f a p q
both_ok (Err e) P Q R f p q = tt

pub all_ok : {A E : Type 0} (r : Result A E) (P Q R S : A → Type 0) → ((a : A) → P a → Q a → R a → S a) → IfOk r P → IfOk r Q → IfOk r R → IfOk r S
all_ok (Ok a) P Q R S f p q h = f a p q h
all_ok (Err e) P Q R S f p q h = tt

-- EVENTS AND THEIR LINES

module _ (terms : List Term) where
  abbrev pub IsFoundRead : reading.Read Term → Option Read → Type 0
  IsFoundRead t o = IsFound (read_known (is_known terms)) (renamed_read (term_of terms)) t o

  whole_line : (t : told_event.Event) (e : Event) → whole_event t ≡ Some e → line_event terms e ≡ t
  whole_line (Take i) e h = ap (line_event terms) (sym (same_Some _ _ h))
  whole_line (ReadOf i n q) e h = absurd (cc)
  whole_line (Publish i n) e h = absurd (cc)
  whole_line (Begin i n) e h = ap (line_event terms) (sym (same_Some _ _ h))
  whole_line (Check i n) e h = absurd (cc)
  whole_line (Commit i) e h = ap (line_event terms) (sym (same_Some _ _ h))
  whole_line (GiveUp i n) e h = ap (line_event terms) (sym (same_Some _ _ h))

  abbrev IsKeptWhole : Event → Type 0
  IsKeptWhole e = (event_known terms e ≡ true) × ((r : Reply) → kept e r ≡ e)

  whole_kept : (t : told_event.Event) (e : Event) → whole_event t ≡ Some e → IsKeptWhole e
  whole_kept (Take i) e h = subst IsKeptWhole (same_Some _ _ h) (refl, λ r. refl)
  whole_kept (ReadOf i n q) e h = absurd (cc)
  whole_kept (Publish i n) e h = absurd (cc)
  whole_kept (Begin i n) e h = subst IsKeptWhole (same_Some _ _ h) (refl, λ r. refl)
  whole_kept (Check i n) e h = absurd (cc)
  whole_kept (Commit i) e h = subst IsKeptWhole (same_Some _ _ h) (refl, λ r. refl)
  whole_kept (GiveUp i n) e h = subst IsKeptWhole (same_Some _ _ h) (refl, λ r. refl)

  whole_back : (e e' : Event) → whole_event (line_event terms e') ≡ Some e → e' ≡ e
  whole_back e (event.Take i) h = same_Some _ _ h
  whole_back e (event.Read i n q) h = absurd (cc)
  whole_back e (event.Publish i n f) h = absurd (cc)
  whole_back e (event.Begin i n) h = same_Some _ _ h
  whole_back e (event.Check i n) h = absurd (cc)
  whole_back e (event.Commit i) h = same_Some _ _ h
  whole_back e (event.GiveUp i n) h = same_Some _ _ h

  module _ (i n : ℕ) (t : reading.Read Term) where
    -- an event of the line of a read
    read_back : (o : Option Read) → IsFoundRead t o → (e : Event) → line_event terms e ≡ ReadOf i n t → event_known terms e ≡ true → (q : Read) × (o ≡ Some q) × (e ≡ event.Read i n q)
    read_back o found (event.Take j) h k = absurd (cc)
    read_back o found (event.Read j m q) h k =
        let is : renamed_read (term_of terms) q ≡ t = (cc) in
        let a : j ≡ i = (cc) in
        let b : m ≡ n = (cc) in
        (q, found.only q k is, λ z. event.Read (a z) (b z) q)
    read_back o found (event.Publish j m f) h k = absurd (cc)
    read_back o found (event.Begin j m) h k = absurd (cc)
    read_back o found (event.Check j m) h k = absurd (cc)
    read_back o found (event.Commit j) h k = absurd (cc)
    read_back o found (event.GiveUp j m) h k = absurd (cc)

    read_of : (q : Read) → IsFoundRead t (Some q) → (e : Event) → line_event terms e ≡ ReadOf i n t → event_known terms e ≡ true → e ≡ event.Read i n q
    read_of q found e h k =
        let back = read_back (Some q) found e h k in
        back.2 ∙ ap (event.Read i n) (sym (same_Some _ _ back.1))

  module _ (i n : ℕ) where
    publish_back : (e : Event) → line_event terms e ≡ Publish i n → (f : Option Finished) × (e ≡ event.Publish i n f)
    publish_back (event.Take j) h = absurd (cc)
    publish_back (event.Read j m q) h = absurd (cc)
    publish_back (event.Publish j m f) h =
        let a : j ≡ i = (cc) in
        let b : m ≡ n = (cc) in
        (f, λ z. event.Publish (a z) (b z) f)
    publish_back (event.Begin j m) h = absurd (cc)
    publish_back (event.Check j m) h = absurd (cc)
    publish_back (event.Commit j) h = absurd (cc)
    publish_back (event.GiveUp j m) h = absurd (cc)

    check_back : (e : Event) → line_event terms e ≡ Check i n → e ≡ event.Check i n
    check_back (event.Take j) h = absurd (cc)
    check_back (event.Read j m q) h = absurd (cc)
    check_back (event.Publish j m f) h = absurd (cc)
    check_back (event.Begin j m) h = absurd (cc)
    check_back (event.Check j m) h =
        let a : j ≡ i = (cc) in
        let b : m ≡ n = (cc) in
        (λ z. event.Check (a z) (b z))
    check_back (event.Commit j) h = absurd (cc)
    check_back (event.GiveUp j m) h = absurd (cc)

-- STEPS

module _ (old new : Run) (line : Line) where
  abbrev entry_with : Event → Reply → Entry
  entry_with e r = record { worker = line.worker; event = e; reply = r }

  -- a lawful entry of the line, as an event of the line's worker
  abbrev Allowed : Event → Reply → Type 0
  Allowed e r = IsAllowed old.base (state_of old) line.worker e r

  allowed_of : (x : Entry) (e : Event) → IsEntryOf old.terms line x → x.event ≡ e → IsLawful (setting_of old) (state_of old) x → Allowed e x.reply
  unfolding setting
  allowed_of x e is same lawful =
      let worker : x.worker ≡ line.worker = ap (λ (l : Line). l.worker) is.printed in
      subst (λ (p : ℕ × Event). IsAllowed old.base (state_of old) p.0 p.1 x.reply) (λ z. (worker z, same z)) lawful.0

  event_of : (x : Entry) → IsEntryOf old.terms line x → line_event old.terms x.event ≡ line.event
  event_of x is = ap (λ (l : Line). l.event) is.printed

  pub follows_whole : (e : Event) (r : Reply) → whole_event line.event ≡ Some e → Allowed e r → new ≡ with_entry old (entry_with (kept e r) r) → Follows old line r new
  follows_whole e r whole allowed is =
      record {
        event = e;
        printed = whole_line old.terms line.event e whole;
        known = (whole_kept old.terms line.event e whole).0;
        entry = is ∙ ap (λ (k : Event). with_entry old (entry_with k r)) ((whole_kept old.terms line.event e whole).1 r);
        only = inl (λ x of lawful.
            whole_one old.base (state_of old) line.worker line.event e whole r x.reply allowed
            (allowed_of x e of (whole_back old.terms e x.event (ap whole_event (event_of x of) ∙ whole)) lawful));
      }

  module _ (i n : ℕ) where
    pub follows_read : (t : reading.Read Term) (q : Read) (r : Reply) → line.event ≡ ReadOf i n t → IsFoundRead old.terms t (Some q) → Allowed (event.Read i n q) r → new ≡ with_entry old (entry_with (event.Read i n q) r) → Follows old line r new
    follows_read t q r told found allowed is =
        record {
          event = event.Read i n q;
          printed = ap (ReadOf i n) found.stands ∙ sym told;
          known = found.is_known;
          entry = is;
          only = inl (λ x of lawful.
              read_one old.base (state_of old) line.worker i q n r x.reply allowed
              (allowed_of x (event.Read i n q) of (read_of old.terms i n t q found x.event (event_of x of ∙ told) of.known) lawful));
        }

    pub read_lacks : (t : reading.Read Term) → line.event ≡ ReadOf i n t → IsFoundRead old.terms t None → NoneIsLawful old line
    read_lacks t told found x of lawful =
        let back = read_back old.terms i n t None found x.event (event_of x of ∙ told) of.known in
        let none : None ≡ Some back.0 = back.1 in
        absurd (cc)

    -- its reply is what the line says
    reply_of : (x : Entry) → IsEntryOf old.terms line x → line_reply x.reply ≡ line.reply
    reply_of x of = ap (λ (l : Line). l.reply) of.printed

    not_published : (r : Reply) → line_reply r ≡ line.reply → line.reply ≢ told.Published → r ≢ Published
    not_published r is other published = other (sym is ∙ ap line_reply published)

    is_published : (r : Reply) → line_reply r ≡ told.Published → r ≡ Published
    is_published Published is = refl
    is_published _ is = absurd (cc)

    kept_publication : (o : Option Finished) (r : Reply) → (line_event old.terms (kept (event.Publish i n o) r) ≡ Publish i n) × (event_known old.terms (kept (event.Publish i n o) r) ≡ true)
    kept_publication o Published = (refl, refl)
    kept_publication o _ = (refl, refl)

    -- the only reply, or notes of another run
    only_published : (r : Reply) (o : Option Finished) → line.event ≡ Publish i n → line.reply ≡ told.Published → IfNone o (HasOtherNotes old i) → IfSome o (IsSoundAt old i)
        → IfSome o (λ f. BeginsWith (notes_at old i) f.transcript) → Allowed (event.Publish i n o) r → OnlyReply old line r ⊎ IsOfOtherNotes old line
    only_published r None told said none sound notes allowed = inr (record { request = i; incarnation = n; event = told; reply = said; notes = none })
    only_published r (Some f) told said none sound ([], are) allowed =
        inl (λ x of lawful.
        let back = publish_back old.terms i n x.event (event_of x of ∙ told) in
        published_one old.base (state_of old) line.worker i n f back.0 r x.reply (sym (append-nil f.transcript) ∙ sym are) (is_published x.reply (reply_of x of ∙ said)) allowed
        (allowed_of x (event.Publish i n back.0) of back.1 lawful))
    only_published r (Some f) told said none sound (m ∷ ms, are) allowed =
        inr (record {
          request = i;
          incarnation = n;
          event = told;
          reply = said;
          notes = λ q at. inr (record { finished = f; sound = sound q at; left = m ∷ ms; some = λ e. absurd (cc); are = are });
        })

    pub follows_published : (r : Reply) (o : Option Finished) → line.event ≡ Publish i n → line.reply ≡ told.Published → IfNone o (HasOtherNotes old i) → IfSome o (IsSoundAt old i)
        → IfSome o (λ f. BeginsWith (notes_at old i) f.transcript) → Allowed (event.Publish i n o) r → new ≡ with_entry old (entry_with (kept (event.Publish i n o) r) r) → Follows old line r new
    follows_published r o told said none sound notes allowed is =
        record {
          event = kept (event.Publish i n o) r;
          printed = (kept_publication o r).0 ∙ sym told;
          known = (kept_publication o r).1;
          entry = is;
          only = only_published r o told said none sound notes allowed;
        }

    pub follows_refused : (r : Reply) → line.event ≡ Publish i n → line.reply ≢ told.Published → Allowed (event.Publish i n None) r → new ≡ with_entry old (entry_with (kept (event.Publish i n None) r) r) → Follows old line r new
    follows_refused r told other allowed is =
        record {
          event = event.Publish i n None;
          printed = sym told;
          known = refl;
          entry = is ∙ ap (λ (k : Event). with_entry old (entry_with k r)) (kept_none r);
          only = inl (λ x of lawful.
              let back = publish_back old.terms i n x.event (event_of x of ∙ told) in
              refused_one old.base (state_of old) line.worker i n back.0 r x.reply
              (not_published x.reply (reply_of x of) other) allowed (allowed_of x (event.Publish i n back.0) of back.1 lawful));
        }
      where
        kept_none : (r : Reply) → kept (event.Publish i n None) r ≡ event.Publish i n None
        kept_none Published = refl
        kept_none _ = refl

    pub follows_check : (passed : Bool) (r : Reply) → line.event ≡ Check i n → passed ≡ tells_pass line.reply → (Allowed (event.Check i n) (wanted_reply passed) → r ≡ wanted_reply passed) → Allowed (event.Check i n) r → new ≡ with_entry old (entry_with (event.Check i n) r) → Follows old line r new
    follows_check passed r told wants wanted allowed is =
        record {
          event = event.Check i n;
          printed = sym told;
          known = refl;
          entry = is;
          only = inl (λ x of lawful.
              check_one old.base (state_of old) line.worker i n passed r x.reply (wants ∙ ap tells_pass (sym (reply_of x of))) wanted allowed
              (allowed_of x (event.Check i n) of (check_back old.terms i n x.event (event_of x of ∙ told)) lawful));
        }

  -- where its reply is another, the line is unlawful
  pub unlawful : (r : Reply) → Follows old line r new → line_reply r ≢ line.reply → IsUnlawful old line
  unlawful r follows other = by follows.only
    where
      by : OnlyReply old line r ⊎ IsOfOtherNotes old line → IsUnlawful old line
      by (inl only) = inl (λ x of lawful. other (ap line_reply (sym (only x of lawful)) ∙ ap (λ (l : Line). l.reply) of.printed))
      by (inr notes) = inr notes
