-- A crew may go to another thread, and its passes come back.
use mathlib.Core.List.{List, [], ◌∷◌}
use Prim.Native.Nat.{ℕ}
use mir.Syntax.{Ty}
use denote.Exit.{no}
use denote.Ref.{NamedLft}
use denote.Param.{param, arg}
use denote.Struct.Tuple.{TupleAt}
use denote.RattleType.{RattleType}
use denote.Param.Send.{IsSend, IsSync, sendable, param_send, arg_send}
use Rattle.std.proofs.Crossing.{crosses}
use Rattle.scheduler.proofs.hints.Hints.TheSendSync as hints
use Rattle.shared.proofs.Sent.{requests, dict, indexed_view, shared, passes}
use Rattle.std.specs.contracts.alloc.Global as Global
use Rattle.std.specs.contracts.alloc.AllocError as AllocError
use Rattle.std.proofs.alloc.AllocError.TheSendSync as refused
use Rattle.std.specs.contracts.impls.GlobalAllocator.TheImpl.{ghosts}
use Rattle.std.specs.contracts.result.Result as Result
use Rattle.std.specs.contracts.vec.Vec as Vec
use Rattle.shared.specs.contracts.pass.Pass as Pass
use Rattle.pool.specs.contracts.crew.Crew as Crew
use Rattle.pool.specs.contracts.lengths.Lengths as Lengths
use Rattle.pool.specs.contracts.pace.Pace as Pace
use Rattle.pool.specs.contracts.seat.Seat as Seat
use Rattle.pool.specs.contracts.worker.Workers as Workers

lengths : IsSync Lengths.the_row
lengths = search (sendable, crosses) depth 40

pace : IsSync Pace.the_row
pace = search (sendable, crosses) depth 20

seat : (a : NamedLft) → IsSend (Seat.the_row a)
seat a = let p = passes a in let h = hints.the_field_send in search sendable depth 20

module _ (a lent : NamedLft) (T G : RattleType) (y : IsSync T) (z : IsSync G) where
  workers : IsSend (Workers.the_row lent a T G)
  workers = let s = shared a in let r = requests in let d = dict in let v = indexed_view in let n = lengths in let p = pace in search (sendable, crosses) depth 20

  pub crew : IsSend (Crew.the_row lent a T G)
  crew = let w = workers in let s = seat a in search (sendable, crosses) depth 20

module _ (a : NamedLft) where
  all : IsSend (Vec.the_row (Pass.the_row a) Global.the_row ghosts)
  all = let p = passes a in search (sendable, crosses) depth 20

  pub done : IsSend (Result.the_row (Vec.the_row (Pass.the_row a) Global.the_row ghosts) AllocError.the_row)
  done = let p = all in let r = refused.the_field_send in search sendable depth 20

-- a closure that takes one value with it, and what one answers
module _ (i : ℕ) (τ : Ty) (name : List ℕ) (R : RattleType) where
  pub takes : IsSend R → IsSend (param i (arg τ no (TupleAt name (R ∷ []))))
  takes s = search sendable depth 20

  pub answers : IsSend R → IsSend (param i (arg τ no R))
  answers s = param_send i (arg τ no R) (arg_send τ no R s)
