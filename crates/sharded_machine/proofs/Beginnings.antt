-- A beginning of a history is one.
use Rattle.std.proofs.Common.{List, [], ◌∷◌, ◌++◌}
use Rattle.incarnations.specs.declared.state.Entry.{Entry}
use Rattle.block_machine.specs.Machine.{State, fresh, after}
use Rattle.block_machine.specs.Serial.{Setting, LawfulFrom, IsHistory}
use Rattle.sharded_machine.specs.Histories.{ShardedEntry, LawfulAfter, IsShardedHistory}

lawful_beginning : (m : Setting) (s : State) (beginning more : List Entry) → LawfulFrom m s (beginning ++ more) → LawfulFrom m s beginning
lawful_beginning m s [] more h = tt
lawful_beginning m s (e ∷ es) more h = (h.0, lawful_beginning m (after s e.worker e.event e.reply) es more h.1)

pub beginning_is_history : (m : Setting) (beginning more : List Entry) → IsHistory m (beginning ++ more) → IsHistory m beginning
unfolding IsHistory
beginning_is_history m beginning more h = lawful_beginning m (fresh m.size) beginning more h

sharded_beginning : (m : Setting) (before beginning more : List ShardedEntry) → LawfulAfter m before (beginning ++ more) → LawfulAfter m before beginning
sharded_beginning m before [] more h = tt
sharded_beginning m before (e ∷ es) more h = (h.0, sharded_beginning m (before ++ e ∷ []) es more h.1)

pub sharded_beginning_is_history : (m : Setting) (beginning more : List ShardedEntry) → IsShardedHistory m (beginning ++ more) → IsShardedHistory m beginning
unfolding IsShardedHistory
sharded_beginning_is_history m beginning more h = sharded_beginning m [] beginning more h
