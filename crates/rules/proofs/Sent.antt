-- A request may come from another thread.
use mathlib.Core.List.{[], ◌∷◌}
use Prim.Native.Nat.{ℕ}
use mir.Syntax.{Ty}
use denote.Exit.{no}
use denote.Param.{param, arg}
use denote.RattleType.{RattleType}
use denote.Struct.Tuple.{Tuple}
use denote.Param.Send.{IsSend, sendable, param_send, arg_send}
use Rattle.std.proofs.Crossing.{crosses, Box-send, Vec-send}
use Rattle.std.specs.contracts.vec.Vec as Vec
use Rattle.std.specs.contracts.alloc.Global as Global
use Rattle.std.specs.contracts.alloc.AllocError as AllocError
use Rattle.std.proofs.alloc.AllocError.TheSendSync as refused
use Rattle.std.specs.contracts.impls.GlobalAllocator.TheImpl.{ghosts}
use Rattle.std.specs.contracts.result.Result as Result
use Rattle.sets.specs.contracts.items.Items as Items
use Rattle.algebra.specs.contracts.expression.Expression as Expression
use Rattle.algebra.specs.contracts.expression.TwoOperator as TwoOperator
use Rattle.algebra.specs.contracts.pattern.TriplePattern as TriplePattern
use Rattle.algebra.specs.contracts.plan.Link as Link
use Rattle.algebra.specs.contracts.plan.Plan as Plan
use Rattle.algebra.specs.contracts.plan.Pattern as Pattern
use Rattle.algebra.specs.contracts.template.QuadTemplate as QuadTemplate
use Rattle.algebra.specs.contracts.update.Modify as Modify
use Rattle.algebra.specs.contracts.update.Operation as Operation
use Rattle.algebra.proofs.expression.OneOperator.TheSendSync as one
use Rattle.algebra.proofs.expression.TwoOperator.TheSendSync as two
use Rattle.algebra.proofs.expression.Expression.TheLaws.TheKnot.{send-Expression}
use Rattle.algebra.proofs.pattern.Place.TheSendSync as place
use Rattle.algebra.proofs.pattern.TriplePattern.TheSendSync as triple
use Rattle.algebra.proofs.template.QuadTemplate.TheSendSync as template
use Rattle.algebra.proofs.update.GraphOperation.TheSendSync as graphs
use Rattle.algebra.proofs.plan.Plan.TheLaws.TheKnot.{send-Plan}
use Rattle.meaning.specs.contracts.reply.Refusal as Refusal
use Rattle.meaning.proofs.reply.Refusal.TheSendSync as refusal
use Rattle.iris.specs.contracts.iri.Iri as Iri
use Rattle.terms.specs.contracts.literal.Literal as Literal
use Rattle.terms.specs.contracts.literal.Blank as Blank
use Rattle.terms.specs.contracts.term.Term as Term

iri : IsSend (Iri.the_field).row
iri = search (sendable, crosses) depth 30

literal : IsSend (Literal.the_field).row
literal = let i = iri in search (sendable, crosses) depth 30

blank : IsSend (Blank.the_field).row
blank = search (sendable, crosses) depth 30

term : IsSend (Term.the_row)
term = let i = iri in let l = literal in let b = blank in search (sendable, crosses) depth 30

module _ (T : RattleType) (s : IsSend T) where
  step : (h : RattleType) → IsSend h → IsSend (Tuple (TwoOperator.the_row ∷ h ∷ []))
  step h y = let o = two.the_send in search sendable depth 20

  expression : IsSend (Expression.the_field T).row
  expression = send-Expression T (search sendable) (search sendable) one.the_field_send Box-send two.the_field_send (λ h y. Vec-send (Tuple (TwoOperator.the_row ∷ h ∷ [])) (step h y))

  the_expression : IsSend (Expression.the_row T)
  the_expression = let e = expression in search sendable

  expressions : IsSend (Vec.the_field (Expression.the_row T) Global.the_row ghosts).row
  expressions = let e = the_expression in search (sendable, crosses) depth 20

  link : IsSend (Link.the_row T)
  link = let e = expressions in search sendable depth 20

  linked : (h : RattleType) → IsSend h → IsSend (Tuple (Link.the_row T ∷ h ∷ []))
  linked h y = let l = link in search sendable depth 20

  patterns : IsSend (Items.the_field (TriplePattern.the_row T)).row
  patterns = let t = triple.the_send T s in search (sendable, crosses) depth 20

  plan : IsSend (Plan.the_field T).row
  plan = send-Plan T patterns (λ h y. Vec-send (Tuple (Link.the_row T ∷ h ∷ [])) (linked h y)) expressions Vec-send (place.the_field_send T s) Box-send

  pattern : IsSend (Pattern.the_row T)
  pattern = let p = plan in search sendable depth 20

  templates : IsSend (Items.the_field (QuadTemplate.the_row T)).row
  templates = let t = template.the_send T s in search (sendable, crosses) depth 20

  modify : IsSend (Modify.the_field T).row
  modify = let p = pattern in let t = templates in search sendable depth 20

  operation : IsSend (Operation.the_row T)
  operation = let m = modify in let g = graphs.the_field_send T s in search sendable depth 20

  operations : IsSend (Items.the_row (Operation.the_row T))
  operations = let o = operation in search (sendable, crosses) depth 20

  pub request : IsSend (Result.the_row (Items.the_row (Operation.the_row T)) Refusal.the_row)
  request = let o = operations in let r = refusal.the_field_send in search sendable depth 20

pub checked : IsSend (Result.the_row (Items.the_row (Operation.the_row Term.the_row)) Refusal.the_row)
checked = request Term.the_row term

pub tried : IsSend (Result.the_row (Result.the_row (Items.the_row (Operation.the_row Term.the_row)) Refusal.the_row) AllocError.the_row)
tried = let c = checked in let r = refused.the_field_send in search sendable depth 20

pub all : IsSend (Result.the_row (Vec.the_row (Result.the_row (Items.the_row (Operation.the_row Term.the_row)) Refusal.the_row) Global.the_row ghosts) AllocError.the_row)
all = let c = checked in let r = refused.the_field_send in search (sendable, crosses) depth 20

-- what a thread answers
module _ (i : ℕ) (τ : Ty) (R : RattleType) where
  pub answers : IsSend R → IsSend (param i (arg τ no R))
  answers s = param_send i (arg τ no R) (arg_send τ no R s)
