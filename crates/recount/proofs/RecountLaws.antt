-- A recount goes as its source does.
use Rattle.std.proofs.Common.{◌≡◌, Bool, true, List, [], ◌∷◌, ◌++◌, Option, Some, None, Result, Err, inl, inr, ◌⊎◌, refl, ap, sym, ◌∙◌, subst}
use Rattle.std.specs.List.{AllByRecursion}
use Rattle.dict.specs.Dictionary.{is_known}
use Rattle.terms.specs.declared.term.Term.{Term}
use Rattle.reads.specs.Reads.{View, Read, Answer}
use Rattle.reads.specs.Runs.{Agrees}
use Rattle.reads.specs.Asking.{Asked}
use Rattle.reads.specs.declared.note.Note.{Note}
use Rattle.reads.specs.declared.source.Stop.{Stop}
use Rattle.reads.specs.declared.source.Stop.TheVariants.{Memory}
use Rattle.asking.specs.Goes.{AllAllowed, Ends, Goes}
use Rattle.asking.proofs.Notes.{goes_nowhere, goes_on}
use Rattle.recount.specs.Counted.{counted_notes}
use Rattle.recount.specs.Recounting.{IsNoted, AsksAgain}
use Rattle.recount.specs.declared.again.Recount.{Recount}
use Rattle.recount.proofs.CountedLaws.{counted_before}

-- what is allowed of the read is so of all notes of it
allowed_same : (allowed : Read → Bool) (r : Read) → allowed r ≡ true → (notes : List Note) → AllByRecursion (λ n. n.read ≡ r) notes → AllAllowed allowed notes
allowed_same allowed r h [] same = tt
allowed_same allowed r h (n ∷ notes) same = (ap allowed same.0 ∙ h, allowed_same allowed r h notes same.1)

module _ {S : Type 0} (asks : S → Read → Result Answer Stop → S → Type 0) (allowed : Read → Bool) where
  -- a recount from one state to another, which came to these notes: its source went as far
  pub record IsRecounted (k k' : Recount S) (ns : List Note) (stop : Option Stop) : Type 0 where
    pub dict : k'.dict ≡ k.dict
    pub source : k'.source.ghost_name ≡ k.source.ghost_name
    pub notes : k'.notes.ghost_name ≡ k.notes.ghost_name
    pub goes : Goes asks allowed k.source.now k'.source.now k.notes.now.items k'.notes.now.items stop
    pub told : (d : View) → Agrees (counted_notes (is_known k.dict.now) k'.notes.now.items) d → Agrees ns d

  goes_noted : (s s' : S) (notes notes' : List Note) (r : Read) → allowed r ≡ true → IsNoted asks s notes r s' notes' → Goes asks allowed s s' notes notes' None
  goes_noted s s' notes notes' r near n =
      record { more = n.more; noted = n.noted; near = allowed_same allowed r near n.more n.same; last = s'; asked = n.asked; ends = refl }

  pub recounted : (k k' : Recount S) (notes : List Note) → AllAllowed allowed notes → Asked (AsksAgain asks) k notes k' → IsRecounted k k' notes None
  recounted k k' [] near a =
      subst (λ z. IsRecounted k z [] None) a
      (record { dict = refl; source = refl; notes = refl; goes = goes_nowhere allowed k.source.now k.notes.now.items; told = λ d h. tt })
  recounted k k' (n ∷ notes) near a =
      let one = a.1 in
      let rest = recounted a.0 k' notes near.1 a.2 in
      let noted = goes_noted k.source.now one.recounts.0 k.notes.now.items (a.0).notes.now.items n.read near.0 one.recounts.1 in
      let first : Goes asks allowed k.source.now (a.0).source.now k.notes.now.items (a.0).notes.now.items None =
      subst (λ z. Goes asks allowed k.source.now z k.notes.now.items (a.0).notes.now.items None) one.recounts.2.0 noted in
      record {
        dict = rest.dict ∙ one.dict;
        source = rest.source ∙ one.source;
        notes = rest.notes ∙ one.notes;
        goes = goes_on first rest.goes;
        told = λ d h.
            let known = is_known k.dict.now in
            let before = counted_before known (a.0).notes.now.items rest.goes.more d (subst (λ ns. Agrees (counted_notes known ns) d) rest.goes.noted h) in
            let later = subst (λ (ts : List Term). Agrees (counted_notes (is_known ts) k'.notes.now.items) d) (ap (λ z. z.now) (sym one.dict)) h in
            (one.recounts.2.1 d before, rest.told d later);
      }

  ends_as : (s s' : S) (r : Read) (stop : Stop) → allowed r ≡ true → ((stop ≡ Memory) × (s ≡ s')) ⊎ asks s r (Err stop) s' → Ends asks allowed s (Some stop) s'
  ends_as s s' r stop near (inl e) = inl e
  ends_as s s' r stop near (inr e) = inr (r, near, e)

  goes_short : (s s' : S) (notes notes' : List Note) (stop : Stop) → stop ≡ Memory → Goes asks allowed s s' notes notes' None → Goes asks allowed s s' notes notes' (Some stop)
  goes_short s s' notes notes' stop e g =
      record { more = g.more; noted = g.noted; near = g.near; last = g.last; asked = g.asked; ends = inl (e, g.ends) }

  ended : (k k1 k' : Recount S) (notes : List Note) (stop : Option Stop) → IsRecounted k k1 notes None → Ends (AsksAgain asks) allowed k1 stop k' → IsRecounted k k' notes stop
  ended k k1 k' notes None b e = subst (λ z. IsRecounted k z notes None) e b
  ended k k1 k' notes (Some stop) b (inl e) =
      subst (λ z. IsRecounted k z notes (Some stop)) e.1
      (record { dict = b.dict; source = b.source; notes = b.notes; goes = goes_short _ _ _ _ stop e.0 b.goes; told = b.told })
  ended k k1 k' notes (Some stop) b (inr e) =
      let r = e.0 in
      let again = e.2 in
      let noted = again.recounts.1 in
      record {
        dict = again.dict ∙ b.dict;
        source = again.source ∙ b.source;
        notes = again.notes ∙ b.notes;
        goes = goes_on b.goes (record {
          more = noted.more;
          noted = noted.noted;
          near = allowed_same allowed r e.1 noted.more noted.same;
          last = again.recounts.0;
          asked = noted.asked;
          ends = ends_as again.recounts.0 k'.source.now r stop e.1 again.recounts.2;
        });
        told = λ d h.
            let known = is_known k.dict.now in
            b.told d (counted_before known k1.notes.now.items noted.more d (subst (λ ns. Agrees (counted_notes known ns) d) noted.noted h));
      }

  -- a call that a recount is passed to, with no notes yet
  pub recounted_so : (k k' : Recount S) (notes notes' : List Note) (stop : Option Stop) → notes ≡ [] → Goes (AsksAgain asks) allowed k k' notes notes' stop → IsRecounted k k' notes' stop
  recounted_so k k' notes notes' stop none g =
      let is : notes' ≡ g.more = g.noted ∙ ap (λ ns. ns ++ g.more) none in
      subst (λ ns. IsRecounted k k' ns stop) (sym is) (ended k g.last k' g.more stop (recounted k g.last g.more g.near g.asked) g.ends)
