-- A journal in blocks.
use Rattle.std.specs.Prelude.{◌≡◌, ◌++◌, ◌-◌, ◌^◌, ◌≤◌, length, vec_capacity, min, All}
use Rattle.std.specs.List.{flat_map}
use Rattle.book.specs.Entries.{Entries}
use Rattle.book.specs.declared.journal.Journal.TheInside.{Inside}

-- the entries of the full blocks and of the last, with room up to the end of that
abbrev pub entries_of : Inside → Entries
entries_of j =
    record {
      entries = flat_map (λ block. block.items) j.full.items ++ j.last.items;
      room = min 4096 (vec_capacity j.last) - length j.last.items;
    }

-- each full block has as many entries as a block has, and the last no more; there are not too many
pub record IsInBlocks (j : Inside) : Type 0 where
  pub full : All (λ block. length block.items ≡ 4096) j.full.items
  pub last : length j.last.items ≤ 4096
  pub few : length j.full.items ≤ 2 ^ 50
