-- What a filter of changes lets through, as more is put.
use Rattle.std.proofs.Common.{◌≡◌, Bool, true, false, List, refl, sym, ◌∙◌}
use Rattle.std.proofs.lemmas.Bool.{false≢true}
use Rattle.datasets.specs.declared.id.Id.{Id}
use Rattle.datasets.specs.declared.read.QuadPattern.{QuadPattern}
use Rattle.datasets.specs.declared.read.Read.TheVariants.{Scan, GraphIs, Graphs}
use Rattle.reads.specs.Reads.{Delta, Read, covers}
use Rattle.version_overlay.specs.declared.change_filter.ChangeFilter.{ChangeFilter}
use Rattle.version_overlay.specs.Seen.{may_match, is_seen}
use Rattle.version_overlay.specs.ChangeFilter.{may_cover}

-- a filter that lets through at least as much stops no more
pub stopped : (a b : Bool) → (a ≡ true → b ≡ true) → b ≡ false → a ≡ false
stopped true b more e = absurd (false≢true (sym e ∙ more refl))
stopped false b more e = refl

pub still_asked : (f g : ChangeFilter) → ((p : QuadPattern Id) → may_match f.quads p ≡ true → may_match g.quads p ≡ true) → ((x : Id) → is_seen f.names x ≡ true → is_seen g.names x ≡ true)
    → (r : Read) → may_cover f r ≡ true → may_cover g r ≡ true
still_asked f g match name (Scan p) e = match p e
still_asked f g match name (GraphIs x) e = name x e
still_asked f g match name Graphs e = refl

-- what a change covers, where both its quads and its names were put
pub all_asked : (f : ChangeFilter) (c : Delta) → ((p : QuadPattern Id) → covers c (Scan p) ≡ true → may_match f.quads p ≡ true) → ((x : Id) → covers c (GraphIs x) ≡ true → is_seen f.names x ≡ true)
    → (r : Read) → covers c r ≡ true → may_cover f r ≡ true
all_asked f c match name (Scan p) e = match p e
all_asked f c match name (GraphIs x) e = name x e
all_asked f c match name Graphs e = refl
