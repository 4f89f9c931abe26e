-- The answer to a request, and the run of a block (SPARQL 1.1 Update, section 3; that a failing
-- operation undoes its whole request is this project's choice where the standard says "should").
use Rattle.std.specs.Prelude.{ℕ, ◌+◌, List, [], ◌∷◌, length, take, Result, Ok, Err}
use Rattle.sets.specs.Sets.{without}
use Rattle.datasets.specs.Dataset.{Dataset, quad_order}
use Rattle.meaning.specs.Vocabulary.{Vocabulary}
use Rattle.meaning.specs.Effect.{effect_of}
use Rattle.algebra.specs.declared.update.Operation.{Operation}
use Rattle.meaning.specs.declared.reply.Cause.{Cause}
use Rattle.meaning.specs.declared.reply.Refusal.{Refusal}
use Rattle.meaning.specs.declared.reply.Reply.{Reply}
use Rattle.meaning.specs.declared.reply.Reply.TheVariants.{Done, Failed, Refused}

-- a request as it was read: its operations, or why it is refused
abbrev pub Request : Type 0 → Type 0
Request K = Result (List (Operation K)) Refusal

-- the failing operation, counted from 1, and why it failed
pub record Failure : Type 0 where
  pub operation : ℕ
  pub cause : Cause

module _ {K : Type 0} (V : Vocabulary K) where
  -- goes on with the next operation, or ends at the failing one, whose place is counted from 0
  abbrev pub then_next : {A : Type 0} → ℕ → Result A Cause → (A → Result A Failure) → Result A Failure
  then_next place (Ok a) next = next a
  then_next place (Err cause) next = Err (record { operation = place + 1; cause = cause })

  -- the operations from this place on take effect in order
  abbrev pub performed : (request place : ℕ) → List (Operation K) → Dataset K → Result (Dataset K) Failure
  performed request place [] d = Ok d
  performed request place (op ∷ ops) d = then_next place (effect_of V request place op d) (performed request (place + 1) ops)

  -- how many quads the second dataset has that the first lacks
  abbrev pub count_new : Dataset K → Dataset K → ℕ
  count_new d e = length (without (quad_order V.order) e.quads d.quads)

  -- the dataset and the reply; a failed request changes nothing
  abbrev pub settled : Dataset K → Result (Dataset K) Failure → Dataset K × Reply
  settled d (Ok e) = (e, Done (count_new d e) (count_new e d))
  settled d (Err failure) = (d, Failed failure.operation failure.cause)

  -- the answer to the request at a place of the block, counted from 0; a refused request changes
  -- nothing
  abbrev pub answer_of : ℕ → Request K → Dataset K → Dataset K × Reply
  answer_of i (Ok operations) d = settled d (performed i 0 operations d)
  answer_of i (Err refusal) d = (d, Refused refusal)

  -- the requests from this place on, one after another: the last dataset and the replies
  abbrev pub run_from : ℕ → List (Request K) → Dataset K → Dataset K × List Reply
  run_from i [] d = (d, [])
  run_from i (r ∷ rs) d =
      let first = answer_of i r d in
      let rest = run_from (i + 1) rs first.0 in
      (rest.0, first.1 ∷ rest.1)

  -- the sequential run of a block
  abbrev pub run : List (Request K) → Dataset K → Dataset K × List Reply
  run requests d = run_from 0 requests d

  -- the sequential run of the block's first n requests
  abbrev pub run_of_first : ℕ → List (Request K) → Dataset K → Dataset K × List Reply
  run_of_first n requests d = run (take n requests) d
