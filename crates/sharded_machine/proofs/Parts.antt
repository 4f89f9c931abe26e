-- What is found in parts, each after a beginning of its own.
use Rattle.std.proofs.Common.{◌≡◌, ℕ, zero, suc, ◌≤◌, Bool, true, false, ◌==◌, if◌then◌else◌, List, [], ◌∷◌, ◌++◌, length, map, take, drop, slice_index_or, refl, sym, ap, ◌∙◌, subst, arith}
use Rattle.std.proofs.lemmas.List.{take-append-drop, map-append}
use Rattle.std.proofs.Math.ListN.{get_or-map}
use Rattle.datasets.specs.declared.id.Id.{Id}
use Rattle.datasets.specs.Id.{id_order}
use Rattle.change_laws.specs.Laws.{IsRising, RisesAfter}
use Rattle.reads.specs.Reads.{View, Delta, Read, Answer, IsDataset, says, applied}
use Rattle.incarnations.specs.declared.state.Entry.{Entry}
use Rattle.incarnations.specs.Slots.{Noted, Slot, fresh_slot}
use Rattle.validate.specs.Below.{slot_at, view_at}
use Rattle.shards.specs.Shards.{shards_of, cut, part_of_answer, merged}
use Rattle.shards.specs.Laws.{PartOfCut, PartAfter, MergedParts}
use Rattle.block_machine.specs.Machine.{fresh}
use Rattle.block_machine.specs.Serial.{Setting, state_of}
use Rattle.sharded_machine.specs.Histories.{ShardedEntry, entries, state_at, RiseWithin, cut_slot, parts_found, SameParts}
use Rattle.block_machine.proofs.Known.{Clear}
use Rattle.block_machine.proofs.Theorem.{DeltasAreOne}
use Rattle.sharded_machine.specs.Later.{Later}
use Rattle.sharded_machine.proofs.Later.{since, same_view}

-- the laws that the theorem rests on
pub record Laws : Type 0 where
  pub deltas : DeltasAreOne
  pub cut : PartOfCut
  pub part : PartAfter
  pub merged : MergedParts
  pub rises : RisesAfter id_order

-- an answer that is made of its own parts
abbrev pub IsWhole : Read → Answer → Type 0
IsWhole r a = merged r (map (λ k. part_of_answer k a) (shards_of r)) ≡ a

-- ---- the slots of a part

no_names : (z : Bool) (ids : List Id) → (if z then ids else ids) ≡ ids
no_names true ids = refl
no_names false ids = refl

pub fresh_cut : (k : ℕ) → cut_slot k fresh_slot ≡ fresh_slot
fresh_cut k = ap (λ (c : Delta). record fresh_slot { delta = c }) (λ t. record { present = []; absent = []; there = no_names (k == 0) [] t; gone = no_names (k == 0) [] t })

pub slot_cut : (k : ℕ) (slots : List Slot) (j : ℕ) → slot_at (map (cut_slot k) slots) j ≡ cut_slot k (slot_at slots j)
slot_cut k slots j = sym (ap (λ (x : Slot). slice_index_or (map (cut_slot k) slots) j x) (fresh_cut k)) ∙ get_or-map (cut_slot k) slots j fresh_slot

-- a part of what a read says in view(i) depends only on what the deltas speak of in that shard
pub part_of_view : Laws → (base : View) (k : ℕ) (slots : List Slot) (r : Read) (i : ℕ) → part_of_answer k (says r (view_at base (map (cut_slot k) slots) i)) ≡ part_of_answer k (says r (view_at base slots i))
unfolding view_at
part_of_view laws base k slots r zero = refl
part_of_view laws base k slots r (suc i) =
    let small = view_at base (map (cut_slot k) slots) i in
    let whole = view_at base slots i in
    let delta = (slot_at slots i).delta in
    ap (λ (x : Slot). part_of_answer k (says r (applied x.delta small))) (slot_cut k slots i)
    ∙ laws.part k (cut k delta) small whole r (part_of_view laws base k slots r i)
    ∙ sym (laws.cut k delta whole r)

pub view_rises : Laws → (base : View) → IsDataset base → (slots : List Slot) (i : ℕ) → IsRising id_order (view_at base slots i)
unfolding view_at applied
view_rises laws base is slots zero = record { quads = is.quads; names = is.names }
view_rises laws base is slots (suc i) = laws.rises (slot_at slots i).delta (view_at base slots i)

-- ---- beginnings

take_of : {A : Type 0} (a b : ℕ) (xs : List A) → a ≤ b → take a (take b xs) ≡ take a xs
take_of zero b xs h = refl
take_of (suc a) zero xs h = absurd (omega arith)
take_of (suc a) (suc b) [] h = refl
take_of (suc a) (suc b) (x ∷ xs) h = ap (λ ys. x ∷ ys) (take_of a b xs (omega arith))

module _ (laws : Laws) (m : Setting) (history : List ShardedEntry) where
  -- the whole history is later than its beginnings
  pub later_whole : (n : ℕ) → Later (state_at m history n) (state_of m (entries history))
  later_whole n =
      subst (λ (es : List Entry). Later (state_at m history n) (state_of m es))
      (sym (map-append (λ (e : ShardedEntry). e.entry) (take n history) (drop n history)) ∙ ap entries (take-append-drop n history))
      (since laws.deltas (fresh m.size) (entries (take n history)) (entries (drop n history)))

  -- and a longer beginning than a shorter one
  pub later_between : (a b : ℕ) → a ≤ b → Later (state_at m history a) (state_at m history b)
  later_between a b le =
      subst (λ (es : List Entry). Later (state_at m history a) (state_of m es))
      (sym (map-append (λ (e : ShardedEntry). e.entry) (take a history) (drop a (take b history)))
      ∙ ap (λ (xs : List ShardedEntry). entries (xs ++ drop a (take b history))) (sym (take_of a b history le))
      ∙ ap entries (take-append-drop a (take b history)))
      (since laws.deltas (fresh m.size) (entries (take a history)) (entries (drop a (take b history))))

  module _ (i moment : ℕ) (clear : Clear (state_of m (entries history)).slots i moment) (r : Read) where
    abbrev now : View
    now = view_at m.base (state_of m (entries history)).slots i

    part_now : (k n : ℕ) → moment ≤ (state_at m history n).clock → part_of_answer k (says r (view_at m.base (map (cut_slot k) (state_at m history n).slots) i)) ≡ part_of_answer k (says r now)
    part_now k n le =
        part_of_view laws m.base k (state_at m history n).slots r i
        ∙ ap (λ (v : View). part_of_answer k (says r v)) (same_view m.base (state_at m history n) (state_of m (entries history)) (later_whole n) i moment le clear)

  -- The key step: a noted answer that is made of its parts is the answer now, where each is the
  -- part found, though each was found after a beginning of its own, and as long as nothing below
  -- has changed since the pass began.
  module _ (i moment : ℕ) (clear : Clear (state_of m (entries history)).slots i moment) (note : Noted) where
    noted_now : (low : ℕ) (ks ns : List ℕ) → moment ≤ (state_at m history low).clock → length ns ≡ length ks → RiseWithin low ns (length history) → SameParts m.base (parts_found m history ks ns) i note
        → map (λ k. part_of_answer k note.answer) ks ≡ map (λ k. part_of_answer k (says note.read (view_at m.base (state_of m (entries history)).slots i))) ks
    unfolding parts_found
    noted_now low [] ns le len rise same = refl
    noted_now low (k ∷ ks) [] le len rise same = absurd (omega (arith, len))
    noted_now low (k ∷ ks) (n ∷ ns) le len rise same =
        let later = later_between low n rise.0 in
        let c = later.clock in
        let le' : moment ≤ (state_at m history n).clock = omega (arith, le, c) in
        let len' : length ns ≡ length ks = omega (arith, len) in
        λ t. (same.0 ∙ part_now i moment clear note.read k n le') t ∷ noted_now n ks ns le' len' rise.1 same.1 t

    pub same_now : IsDataset m.base → IsWhole note.read note.answer → (low : ℕ) (ns : List ℕ) → moment ≤ (state_at m history low).clock → length ns ≡ length (shards_of note.read) → RiseWithin low ns (length history)
        → SameParts m.base (parts_found m history (shards_of note.read) ns) i note → note.answer ≡ says note.read (view_at m.base (state_of m (entries history)).slots i)
    same_now is whole low ns le len rise same =
        sym whole ∙ ap (merged note.read) (noted_now low (shards_of note.read) ns le len rise same)
        ∙ laws.merged (view_at m.base (state_of m (entries history)).slots i) note.read (view_rises laws m.base is (state_of m (entries history)).slots i)
