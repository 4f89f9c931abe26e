-- Requests go to another thread, and come back at numbers.
use denote.Param.Send.{IsSend, IsSync, sendable}
use Rattle.std.proofs.Crossing.{crosses}
use Rattle.std.specs.contracts.alloc.AllocError as AllocError
use Rattle.std.specs.contracts.alloc.Global as Global
use Rattle.std.specs.contracts.impls.GlobalAllocator.TheImpl.{ghosts}
use Rattle.std.specs.contracts.result.Result as Result
use Rattle.std.specs.contracts.vec.Vec as Vec
use Rattle.std.proofs.alloc.AllocError.TheSendSync as refused
use Rattle.sets.specs.contracts.items.Items as Items
use Rattle.algebra.specs.contracts.update.Operation as Operation
use Rattle.meaning.specs.contracts.reply.Refusal as Refusal
use Rattle.datasets.specs.contracts.id.Id as Id
use Rattle.datasets.proofs.id.Id.TheSendSync as id
use Rattle.terms.specs.contracts.term.Term as Term
use Rattle.dict.specs.contracts.dictionary.Dict as Dict
use Rattle.rules.proofs.Sent.{checked, request}

pub requests : IsSend (Vec.the_row (Result.the_row (Items.the_row (Operation.the_row Term.the_row)) Refusal.the_row) Global.the_row ghosts)
requests = let c = checked in search (sendable, crosses) depth 20

numbered : IsSend (Result.the_row (Items.the_row (Operation.the_row Id.the_row)) Refusal.the_row)
numbered = request Id.the_row id.the_send

list : IsSend (Vec.the_row (Result.the_row (Items.the_row (Operation.the_row Id.the_row)) Refusal.the_row) Global.the_row ghosts)
list = let n = numbered in search (sendable, crosses) depth 20

pub answer : IsSend (Result.the_row (Vec.the_row (Result.the_row (Items.the_row (Operation.the_row Id.the_row)) Refusal.the_row) Global.the_row ghosts) AllocError.the_row)
answer = let l = list in let r = refused.the_field_send in search sendable depth 20

pub dict : IsSync Dict.the_row
dict = search (sendable, crosses) depth 40
