-- The sixteen shards: what lies in each, and what a read and a change have to do with them.
use Rattle.std.specs.Prelude.{ℕ, ◌%◌, Bool, true, false, ◌&&◌, ◌||◌, ◌==◌, if◌then◌else◌, List, [], ◌∷◌, Option, Some, None, filter, flat_map}
use Rattle.std.specs.Int.{bit_at}
use Rattle.std.specs.List.{list_any}
use Rattle.sets.specs.Sets.{set_of}
use Rattle.datasets.specs.declared.id.Id.{Id}
use Rattle.datasets.specs.declared.id.Id.TheVariants.{Known, Made}
use Rattle.datasets.specs.declared.quad.Quad.{Quad}
use Rattle.datasets.specs.declared.read.Read.TheVariants.{Scan, GraphIs, Graphs}
use Rattle.datasets.specs.Dataset.{Quads, Is, Names, quad_order}
use Rattle.datasets.specs.Id.{id_order}
use Rattle.reads.specs.Reads.{Read, Answer, Delta}

-- the shard of a predicate: its number modulo sixteen; a made node, which no quad has as its
-- predicate, counts as number 0
abbrev pub shard_of : Id → ℕ
shard_of (Known n) = n % 16
shard_of (Made request op label rank) = 0

-- whether a quad lies in this shard
abbrev pub lies_in : ℕ → Quad Id → Bool
lies_in k q = shard_of q.predicate == k

abbrev pub all_shards : List ℕ
all_shards = 0 ∷ 1 ∷ 2 ∷ 3 ∷ 4 ∷ 5 ∷ 6 ∷ 7 ∷ 8 ∷ 9 ∷ 10 ∷ 11 ∷ 12 ∷ 13 ∷ 14 ∷ 15 ∷ []

-- a scan with a bound predicate touches one shard, and a scan without touches all
abbrev pub shards_for : Option Id → List ℕ
shards_for (Some predicate) = shard_of predicate ∷ []
shards_for None = all_shards

-- the shards that a read touches, rising; graph names are in shard 0
abbrev pub shards_of : Read → List ℕ
shards_of (Scan p) = shards_for p.predicate
shards_of (GraphIs g) = 0 ∷ []
shards_of Graphs = 0 ∷ []

-- whether a read touches this shard
abbrev pub is_touched : Read → ℕ → Bool
is_touched r k = list_any (λ s. k == s) (shards_of r)

-- the graph names that lie in this shard: all of them, or none
abbrev pub names_in : ℕ → List Id → List Id
names_in k names = if k == 0 then names else []

-- what a change speaks of in this shard
abbrev pub cut : ℕ → Delta → Delta
cut k c = record {
  present = filter (lies_in k) c.present;
  absent = filter (lies_in k) c.absent;
  there = names_in k c.there;
  gone = names_in k c.gone;
}

-- whether a change speaks of anything
abbrev pub speaks : Delta → Bool
speaks c = (list_any (λ q. true) c.present || list_any (λ q. true) c.absent) || (list_any (λ g. true) c.there || list_any (λ g. true) c.gone)

-- whether it does so in this shard
abbrev pub speaks_in : ℕ → Delta → Bool
speaks_in k c = speaks (cut k c)

-- whether the bit of this number is 1
abbrev pub is_marked : ℕ → ℕ → Bool
is_marked mask k = bit_at mask k == 1

-- what an answer tells of this shard
unfoldable pub part_of_answer : ℕ → Answer → Answer
part_of_answer k (Quads quads) = Quads (filter (lies_in k) quads)
part_of_answer k (Is so) = Is ((k == 0) && so)
part_of_answer k (Names names) = Names (names_in k names)

-- the quads that an answer tells, whether it says yes, and the names
abbrev pub quads_of : Answer → List (Quad Id)
quads_of (Quads quads) = quads
quads_of (Is so) = []
quads_of (Names names) = []

abbrev pub says_yes : Answer → Bool
says_yes (Is so) = so
says_yes (Quads quads) = false
says_yes (Names names) = false

abbrev pub names_of : Answer → List Id
names_of (Names names) = names
names_of (Quads quads) = []
names_of (Is so) = []

-- the answer to a read that is made of parts
unfoldable pub merged : Read → List Answer → Answer
merged (Scan p) parts = Quads (set_of (quad_order id_order) (flat_map quads_of parts))
merged (GraphIs g) parts = Is (list_any says_yes parts)
merged Graphs parts = Names (set_of id_order (flat_map names_of parts))
