-- The lines of what a journal keeps are those of its history.
use Rattle.std.proofs.Common.{◌≡◌, ℕ, ◌+◌, List, [], ◌∷◌, ◌++◌, map, take, Some, slice_get, refl, sym, ap, ◌∙◌}
use Rattle.std.proofs.lemmas.List.{map_more}
use Rattle.std.proofs.lemmas.Option.{slice_get_within, get_or_from_slice_get}
use Rattle.terms.specs.declared.term.Term.{Term}
use Rattle.incarnations.specs.declared.state.Event.{Event}
use Rattle.incarnations.specs.declared.state.Event.TheVariants.{Read, Publish}
use Rattle.incarnations.specs.declared.state.Reply.{Reply}
use Rattle.incarnations.specs.declared.state.Reply.TheVariants.{Answered, Published}
use Rattle.incarnations.specs.declared.state.Entry.{Entry}
use Rattle.book.specs.JournalEntry.{kept_of, journal_entry_of}
use Rattle.replay.specs.Lines.{line_event, line_reply, line_of}
use Rattle.replay.specs.Kept.{line_of_kept}

module _ (terms : List Term) where
  same : (w : ℕ) (e : Event) (r : Reply) → line_of_kept terms (record { worker = w; kept = kept_of e r }) ≡ record { worker = w; event = line_event terms e; reply = line_reply r }
  same w (Read i n q) (Answered a) = refl
  same w (Publish i n (Some f)) Published = refl
  same w e r = refl

  pub same_lines : (history : List Entry) → map (line_of_kept terms) (map journal_entry_of history) ≡ map (line_of terms) history
  same_lines [] = refl
  same_lines (e ∷ es) = λ t. same e.worker e.event e.reply t ∷ same_lines es t

-- one more of a list in order
pub map_next : {A B : Type 0} (f : A → B) (made : List B) (xs : List A) (i : ℕ) (x : A) → made ≡ map f (take i xs) → slice_get xs i ≡ Some x → made ++ f x ∷ [] ≡ map f (take (i + 1) xs)
map_next f made xs i x is at =
    ap (λ ys. ys ++ f x ∷ []) is
    ∙ ap (λ y. map f (take i xs) ++ f y ∷ []) (sym (get_or_from_slice_get xs i x x at))
    ∙ sym (map_more f xs i x (slice_get_within xs i x at))
