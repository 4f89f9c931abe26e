use Rattle.std.proofs.Common.{◌≡◌, ◌<◌, ◌≤◌, ◌/◌, ◌∙◌, length, slice_get, get_or, Some, ap, sym, subst, arith}
use Rattle.book.specs.Entries.{Entries}
use Rattle.book.specs.Journal.{entries_of}
use Rattle.book.proofs.Blocks.{item_in_block, place_behind, item_behind}
use Rattle.book.proofs.journal.Journal.entry.Goals as goal

pub index-requires-in-None : goal.index-requires-in-None
index-requires-in-None c =
    let j = c.self.inside in
    let lt : c.args.place < length (entries_of j).entries = subst (λ (e : Entries). c.args.place < length e.entries) (sym c.self.view_is) c.requires in
    let past : length j.full.items ≤ c.args.place / 4096 = omega (arith, ap length c.deref.ensures.value, c.in-None.ensures.lookup.3) in
    let there = (place_behind (λ block. block.items) j.full.items j.last.items c.args.place c.self.invariant.full lt c.self.invariant.last past).1 in
    omega (arith, there, j.last.ok.0)

pub returns-in-Some : goal.returns-in-Some
returns-in-Some c =
    let j = c.self.inside in
    let block = c.in-Some.block.now in
    let lt : c.args.place < length (entries_of j).entries = subst (λ (e : Entries). c.args.place < length e.entries) (sym c.self.view_is) c.requires in
    let within : c.args.place / 4096 < length j.full.items = omega (arith, ap length c.deref.ensures.value, c.in-Some.ensures.lookup.3.0) in
    let is : block ≡ get_or j.full.items (c.args.place / 4096) block = c.in-Some.ensures.lookup.1 ∙ ap (λ blocks. get_or blocks (c.args.place / 4096) block) c.deref.ensures.value in
    subst (λ (e : Entries). slice_get e.entries c.args.place ≡ Some c.index.result.now) c.self.view_is
    (item_in_block (λ block. block.items) j.full.items j.last.items c.args.place c.self.invariant.full lt block c.index.result.now within is c.index.ensures)

pub returns-in-None : goal.returns-in-None
returns-in-None c =
    let j = c.self.inside in
    let lt : c.args.place < length (entries_of j).entries = subst (λ (e : Entries). c.args.place < length e.entries) (sym c.self.view_is) c.requires in
    let past : length j.full.items ≤ c.args.place / 4096 = omega (arith, ap length c.deref.ensures.value, c.in-None.ensures.lookup.3) in
    subst (λ (e : Entries). slice_get e.entries c.args.place ≡ Some c.index-in-None.result.now) c.self.view_is
    (item_behind (λ block. block.items) j.full.items j.last.items c.args.place c.self.invariant.full lt c.self.invariant.last past c.index-in-None.result.now c.index-in-None.ensures)
