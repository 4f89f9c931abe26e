-- A lock may be shared and its passes may go to other threads, where the book may.
use denote.RattleType.{RattleType}
use denote.Param.Send.{IsSend, IsSync, sendable}
use Rattle.std.proofs.Crossing as crossing
use Rattle.std.specs.contracts.alloc.Global as Global
use Rattle.std.specs.contracts.boxed.Box as Box
use Rattle.std.specs.contracts.impls.GlobalAllocator.TheImpl as heap
use Rattle.std.specs.contracts.option.Option as Option
use Rattle.std.proofs.option.Option.TheSendSync as option
use Rattle.atomic_table.specs.contracts.owned.Table as Table
use Rattle.atomic_table.specs.contracts.shared.Seat as Seat
use Rattle.atomic_table.proofs.shared.Seat.TheSendSync as a_seat
use Rattle.atomic_table.proofs.owned.Table.TheSendSync as a_table
use Rattle.blocklock.specs.declared.journaled.Journaled.{Ghosts}
use Rattle.blocklock.specs.contracts.lock.BlockLock as BlockLock
use Rattle.blocklock.specs.contracts.pass.Pass as Pass
use Rattle.blocklock.specs.contracts.plays.Key as Key
use Rattle.blocklock.specs.contracts.plays.Rule as Rule
use Rattle.blocklock.specs.contracts.plays.RuleTableRuleSlotViewOfKey.TheImpl as rule
use Rattle.blocklock.specs.contracts.view.View as View

module _ (T T' T'' : RattleType) (g : Ghosts T.Denot T'.Denot T''.Denot) (s : IsSend T) where
  slot : IsSend (Option.the_row (Box.the_row T Global.the_row heap.ghosts))
  slot = option.the_send (Box.the_row T Global.the_row heap.ghosts) (crossing.Box-send T s)

  seat : IsSend (Seat.the_row (Option.the_row (Box.the_row T Global.the_row heap.ghosts)) (View.the_row T' T''))
  seat = a_seat.the_send (Option.the_row (Box.the_row T Global.the_row heap.ghosts)) (View.the_row T' T'') slot

  pub pass : IsSend (Pass.the_row T T' T'' g)
  pass = let e = seat in search sendable depth 20

  table : IsSync (Table.the_field (Option.the_row (Box.the_row T Global.the_row heap.ghosts)) (View.the_row T' T'') (Key.the_row T) Rule.the_row Global.the_row (rule.ghosts T T' T'' g rule.no_dict rule.no_dict) heap.ghosts).row
  table = a_table.the_field_sync (Option.the_row (Box.the_row T Global.the_row heap.ghosts)) (View.the_row T' T'') (Key.the_row T) Rule.the_row Global.the_row (rule.ghosts T T' T'' g rule.no_dict rule.no_dict) heap.ghosts slot crossing.send crossing.sync crossing.frees

  pub lock : IsSync (BlockLock.the_row T T' T'' g)
  lock = let t = table in search sendable depth 20
