-- Reads that a source is asked for in turn.
use Rattle.std.proofs.Common.{◌≡◌, List, [], ◌∷◌, ◌++◌, Option, Some, None, Result, Ok, Err, inl, inr, refl, ap, subst, sym, ◌∙◌, append_assoc}
use Rattle.std.proofs.lemmas.List.{append-nil, map-append}
use Rattle.std.specs.Prelude.{map, slice_get}
use Rattle.std.specs.Result.{IsErrAnd}
use Rattle.reads.specs.Reads.{Read, Answer}
use Rattle.reads.specs.Asking.{Asked, AsksAll}
use Rattle.reads.specs.declared.note.Note.{Note}
use Rattle.reads.specs.declared.source.Stop.{Stop}
use Rattle.reads.specs.declared.source.Stop.TheVariants.{Memory}

module _ {S : Type 0} (asks : S → Read → Result Answer Stop → S → Type 0) where
  pub asked_both : (ns ms : List Note) (s1 s2 s3 : S) → Asked asks s1 ns s2 → Asked asks s2 ms s3 → Asked asks s1 (ns ++ ms) s3
  asked_both [] ms s1 s2 s3 a b = subst (λ s. Asked asks s ms s3) (sym a) b
  asked_both (n ∷ ns) ms s1 s2 s3 a b = (a.0, a.1, asked_both ns ms a.0 s2 s3 a.2 b)

  -- of these reads all but those that are left were asked for, and noted with their answers
  pub record Went (before : S) (reads left : List Read) (notes notes' : List Note) (after : S) : Type 0 where
    pub more : List Note
    pub noted : notes' ≡ notes ++ more
    pub in_order : reads ≡ map (λ n. n.read) more ++ left
    pub asked : Asked asks before more after

module _ {S : Type 0} {asks : S → Read → Result Answer Stop → S → Type 0} where
  pub went_nowhere : (s : S) (reads : List Read) (notes notes' : List Note) → notes' ≡ notes → Went asks s reads reads notes notes' s
  went_nowhere s reads notes notes' same = record { more = []; noted = same ∙ sym (append-nil notes); in_order = refl; asked = refl }

  -- one more was asked for
  pub went_on : {s s1 s2 : S} {reads left : List Read} {notes ns1 : List Note} → Went asks s reads left notes ns1 s1
      → (n : Note) (left' : List Read) (ns2 : List Note) → left ≡ n.read ∷ left' → ns2 ≡ ns1 ++ n ∷ [] → asks s1 n.read (Ok n.answer) s2 → Went asks s reads left' notes ns2 s2
  went_on {s} {s1} {s2} {reads} {left} {notes} {ns1} w n left' ns2 is noted a = record {
    more = w.more ++ n ∷ [];
    noted = noted ∙ ap (λ ms. ms ++ n ∷ []) w.noted ∙ append_assoc notes w.more (n ∷ []);
    in_order =
        w.in_order
        ∙ ap (λ rs. map (λ m. m.read) w.more ++ rs) is
        ∙ sym (append_assoc (map (λ m. m.read) w.more) (n.read ∷ []) left')
        ∙ ap (λ rs. rs ++ left') (sym (map-append (λ m. m.read) w.more (n ∷ [])));
    asked = asked_both asks w.more (n ∷ []) s s1 s2 w.asked (s2, a, refl);
  }

  -- none is left
  pub went_through : {A : Type 0} {s s' : S} {reads left : List Read} {notes notes' : List Note} (x : A) → Went asks s reads left notes notes' s' → left ≡ [] → AsksAll asks {A = A} s reads notes notes' (Ok x) s'
  went_through {A} {s} {s'} {reads} {left} x w none =
      record { more = w.more; left = left; noted = w.noted; in_order = w.in_order; last = s'; asked = w.asked; ends = (none, refl) }

  -- the source stopped at the first that was left, and so does the call
  pub went_until : {A : Type 0} {s s1 s2 : S} {reads left : List Read} {notes notes' : List Note} {stop : Stop} (result : Result A Stop) → Went asks s reads left notes notes' s1
      → (r : Read) (left' : List Read) → left ≡ r ∷ left' → asks s1 r (Err stop) s2 → IsErrAnd result (λ it. it ≡ stop) → AsksAll asks s reads notes notes' result s2
  went_until (Ok x) w r left' is a e = absurd e
  went_until {A} {s} {s1} {s2} {reads} {left} {notes} {notes'} {stop} (Err it) w r left' is a e = record {
    more = w.more;
    left = left;
    noted = w.noted;
    in_order = w.in_order;
    last = s1;
    asked = w.asked;
    ends = inr (r, ap (λ rs. slice_get rs 0) is, subst (λ z. asks s1 r (Err z) s2) (sym e) a);
  }

  -- memory ran out
  pub went_short : {A : Type 0} {s s' : S} {reads left : List Read} {notes notes' : List Note} (result : Result A Stop) → Went asks s reads left notes notes' s'
      → IsErrAnd result (λ it. it ≡ Memory) → AsksAll asks s reads notes notes' result s'
  went_short (Ok x) w e = absurd e
  went_short {A} {s} {s'} {reads} {left} (Err it) w e =
      record { more = w.more; left = left; noted = w.noted; in_order = w.in_order; last = s'; asked = w.asked; ends = inl (e, refl) }
