-- What scans a step is given.
use Rattle.std.proofs.Common.{◌≡◌, ℕ, List, [], ◌∷◌, subst}
use Rattle.reads.specs.Reads.{View, Read}
use Rattle.reads.specs.Questions.{Question}
use Rattle.incarnations.specs.declared.state.Event.{Event}
use Rattle.incarnations.specs.declared.state.Event.TheVariants.{Read as ReadOf}
use Rattle.block_machine.specs.Scans.{questions_of, HasScans}

-- a read has its one scan
pub one_scan : (base : View) (e : Event) (i n : ℕ) (r : Read) (scans : List Question) → e ≡ ReadOf i n r → HasScans base e scans → scans ≡ record { dataset = base; read = r } ∷ []
one_scan base e i n r scans is h = subst (λ x. HasScans base x scans) is h

-- what an event asks of the base is enough
pub has_scans : (base : View) (e : Event) (scans : List Question) → scans ≡ questions_of base e → HasScans base e scans
has_scans base (ReadOf i n r) scans h = h
has_scans base e scans h = tt
