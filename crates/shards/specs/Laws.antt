-- What holds of shards, for every dataset, change and read.
use Rattle.std.specs.Prelude.{◌≡◌, ℕ, true, false, [], ◌∷◌, map}
use Rattle.std.specs.List.{list_any}
use Rattle.datasets.specs.Id.{id_order}
use Rattle.change_laws.specs.Laws.{IsRising}
use Rattle.reads.specs.Reads.{View, Delta, Read, says, applied, covers}
use Rattle.shards.specs.Shards.{shards_of, is_touched, cut, part_of_answer, merged}

-- a part of what a read says after a change depends only on what the change speaks of in that shard
abbrev pub PartOfCut : Type 0
PartOfCut = (k : ℕ) (c : Delta) (d : View) (r : Read) → part_of_answer k (says r (applied c d)) ≡ part_of_answer k (says r (applied (cut k c) d))

-- a part of what a read says after a change depends only on that part before
abbrev pub PartAfter : Type 0
PartAfter =
    (k : ℕ) (c : Delta) (d e : View) (r : Read) → part_of_answer k (says r d) ≡ part_of_answer k (says r e)
    → part_of_answer k (says r (applied c d)) ≡ part_of_answer k (says r (applied c e))

-- in a shard that a read does not touch, a change speaks of nothing that the read asks for
abbrev pub UntouchedCovers : Type 0
UntouchedCovers = (k : ℕ) (c : Delta) (r : Read) → is_touched r k ≡ false → covers (cut k c) r ≡ false

-- a change speaks of something that a read asks for if it does so in some shard that the read
-- touches
abbrev pub CoversInParts : Type 0
CoversInParts = (c : Delta) (r : Read) → covers c r ≡ list_any (λ k. covers (cut k c) r) (shards_of r)

-- what a read says is made of its parts
abbrev pub MergedParts : Type 0
MergedParts = (d : View) (r : Read) → IsRising id_order d → merged r (map (λ k. part_of_answer k (says r d)) (shards_of r)) ≡ says r d

-- each part of an answer that is made of parts is that part, wherever each was found
abbrev pub PartsOfMerged : Type 0
PartsOfMerged =
    (r : Read) (found : ℕ → View) → ((k : ℕ) → IsRising id_order (found k)) → (k : ℕ) → is_touched r k ≡ true
    → part_of_answer k (merged r (map (λ s. part_of_answer s (says r (found s))) (shards_of r))) ≡ part_of_answer k (says r (found k))

-- where a read touches one shard, that part is the whole answer
abbrev pub OnePart : Type 0
OnePart = (k : ℕ) (d : View) (r : Read) → shards_of r ≡ k ∷ [] → part_of_answer k (says r d) ≡ says r d
