-- One request after another, and the histories of the machine that are held to it.
use Rattle.std.specs.Prelude.{◌≡◌, ℕ, zero, suc, Bool, List, [], ◌∷◌, ◌++◌, Some}
use Rattle.datasets.specs.declared.id.Id.{Id}
use Rattle.reads.specs.Reads.{View}
use Rattle.delta.specs.Sound.{IsDatasetOf, IsSoundFor}
use Rattle.meaning.specs.declared.reply.Reply as request
use Rattle.delta.specs.declared.finished.Finished.{Finished}
use Rattle.incarnations.specs.declared.state.Event.{Event}
use Rattle.incarnations.specs.declared.state.Event.TheVariants.{Publish}
use Rattle.incarnations.specs.declared.state.Reply.{Reply}
use Rattle.incarnations.specs.declared.state.Reply.TheVariants.{Published}
use Rattle.incarnations.specs.declared.state.Entry.{Entry}
use Rattle.validate.specs.Below.{view_at}
use Rattle.slots.specs.Slots.{replies_to}
use Rattle.block_machine.specs.Machine.{State, IsAllowed, after, fresh, state_after}

-- What is run: which terms are known, a base, how many requests there are, and what each makes of a
-- dataset and replies.
pub record Setting : Type 0 where
  pub known : Id → Bool
  pub base : View
  pub size : ℕ
  pub answer : ℕ → View → View × request.Reply

-- the base is a dataset of known terms, and each request makes one of one
pub record IsSetting (m : Setting) : Type 0 where
  pub base : IsDatasetOf m.known m.base
  pub answers : (i : ℕ) (d : View) → IsDatasetOf m.known d → IsDatasetOf m.known (m.answer i d).0

-- the dataset after the first n requests, one after another
unfoldable pub dataset_after : Setting → ℕ → View
dataset_after m zero = m.base
dataset_after m (suc n) = (m.answer n (dataset_after m n)).0

-- their replies
unfoldable pub replies_after : Setting → ℕ → List request.Reply
replies_after m zero = []
replies_after m (suc n) = replies_after m n ++ (m.answer n (dataset_after m n)).1 ∷ []

-- a finished run is sound for the request at this place
abbrev pub IsSound : Setting → ℕ → Finished → Type 0
IsSound m i finished = IsSoundFor m.known (m.answer i) finished

-- a published run is sound
abbrev pub IsSoundEntry : Setting → Event → Reply → Type 0
IsSoundEntry m (Publish i n (Some finished)) Published = IsSound m i finished
IsSoundEntry m event reply = Unit {0}

-- a lawful entry in this state
abbrev pub IsLawful : Setting → State → Entry → Type 0
IsLawful m s e = IsAllowed m.base s e.worker e.event e.reply × IsSoundEntry m e.event e.reply

-- each entry is lawful where the entries before it lead
abbrev pub LawfulFrom : Setting → State → List Entry → Type 0
LawfulFrom m s [] = Unit {0}
LawfulFrom m s (e ∷ es) = IsLawful m s e × LawfulFrom m (after s e.worker e.event e.reply) es

unfoldable pub IsHistory : Setting → List Entry → Type 0
IsHistory m history = LawfulFrom m (fresh m.size) history

-- where a history leaves the machine
abbrev pub state_of : Setting → List Entry → State
state_of m history = state_after (fresh m.size) history

-- the front's view and replies are those of that many first requests, one after another
pub record FrontIsSerial (m : Setting) (s : State) : Type 0 where
  pub dataset : view_at m.base s.slots s.front ≡ dataset_after m s.front
  pub replies : replies_to s.slots s.front ≡ replies_after m s.front
