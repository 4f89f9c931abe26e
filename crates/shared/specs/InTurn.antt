-- Many events of a worker in one hold of a shared book.
use Rattle.std.specs.Prelude.{◌≡◌, ℕ, ◌-◌, Bool, true, false, List, [], ◌∷◌, ◌++◌, map, replicate, Some, Result, Ok, Err, ◌⊎◌}
use Rattle.std.specs.List.{range_with_len}
use Rattle.reads.specs.Reads.{View, Read}
use Rattle.reads.specs.Questions.{Question}
use Rattle.delta.specs.declared.finished.Finished.{Finished}
use Rattle.incarnations.specs.declared.state.Event.{Event}
use Rattle.incarnations.specs.declared.state.Event.TheVariants.{Read as ReadOf, Publish, Begin, Check, Commit}
use Rattle.incarnations.specs.declared.state.Reply.{Reply}
use Rattle.incarnations.specs.declared.state.Reply.TheVariants.{Answered, Published, Begun, Passed, Committed}
use Rattle.book.specs.Run.{Run}
use Rattle.blocklock.specs.History.{GoesOn}
use Rattle.blocklock.specs.Passes.{given}
use Rattle.shared.specs.Calls.{Viewed, owner, history_of, Answers, Unmade}

-- whether a worker goes on in the same hold after this reply
abbrev pub lets_go_on : Reply → Bool
lets_go_on (Answered answer) = true
lets_go_on Published = true
lets_go_on Begun = true
lets_go_on Passed = true
lets_go_on Committed = true
lets_go_on reply = false

-- The first of these events were made in turn, each as a call of its own, with these replies. Each
-- reply but the last lets the worker go on; then a growth was refused before the next one was made,
-- or all were made and the last one lets it go on too, or the last one doesn't.
abbrev pub InTurn : {E : Type 0} → Viewed → List Event → List Reply → Result Bool E → Viewed → Type 0
InTurn old [] [] (Ok whole) new = (whole ≡ true) × (new ≡ old)
InTurn old [] [] (Err e) new = ⊥
InTurn old (event ∷ events) [] (Ok whole) new = ⊥
InTurn old (event ∷ events) [] (Err e) new = Unmade old new
InTurn old [] (reply ∷ replies) made new = ⊥
InTurn old (event ∷ events) (reply ∷ replies) made new =
    (next : Viewed) × Answers old next event reply
    × (((lets_go_on reply ≡ true) × InTurn next events replies made new) ⊎ ((lets_go_on reply ≡ false) × (replies ≡ []) × (made ≡ Ok false) × (new ≡ next)))

-- the same, with the replies added to a list
pub record Adds {E : Type 0} (old new : Viewed) (events : List Event) (before after : List Reply) (made : Result Bool E) : Type 0 where
  pub replies : List Reply
  pub added : after ≡ before ++ replies
  pub in_turn : InTurn old events replies made new

-- reads put to a base, one by one
abbrev pub questions : View → List Read → List Question
questions base reads = map (λ r. record { dataset = base; read = r }) reads

-- the reads of an incarnation of a request
abbrev pub reading : ℕ → ℕ → List Read → List Event
reading i n reads = map (λ r. ReadOf i n r) reads

-- a pass of checks of an incarnation with so many notes
abbrev pub checking : ℕ → ℕ → ℕ → List Event
checking i n notes = Begin i n ∷ replicate notes (Check i n)

-- the commits of the requests from one place on and below another
abbrev pub committing : ℕ → ℕ → List Event
committing i until = map (λ j. Commit j) (range_with_len i (until - i))

-- a publication, and then what settles it: a pass of checks of the run, which has so many notes,
-- and commits
abbrev pub publishing : ℕ → ℕ → Finished → ℕ → ℕ → List Event
publishing i n finished notes until = Publish i n (Some finished) ∷ (checking i n notes ++ committing i until)

-- While a pass holds a book it made these events on it. They go on as calls of its own would, and
-- no one else's entries come between.
pub record Went {E : Type 0} (p : Viewed) (book book' : Run) (events : List Event) (before after : List Reply) (made : Result Bool E) : Type 0 where
  pub subject : (history_of book').subject ≡ p.subject
  pub goes_on : GoesOn owner p.worker book.history book'.history
  pub adds : Adds (given p (history_of book)) (given p (history_of book')) events before after made
