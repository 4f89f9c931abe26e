-- What the answers to scans tell is what there is.
use Rattle.std.specs.Prelude.{IfSome, if◌then◌else◌}
use Rattle.std.specs.Option.{option_or}
use Rattle.std.proofs.Common.{◌≡◌, Bool, true, false, ◌&&◌, List, [], ◌∷◌, ◌++◌, Option, Some, None, refl, sym, ap, subst, ◌∙◌}
use Rattle.std.proofs.Math.Bool.{and-true}
use Rattle.sets.specs.Sets.{has}
use Rattle.sets.proofs.SetLaws.{has-filter}
use Rattle.sets.proofs.Every.{all_joined}
use Rattle.datasets.specs.declared.id.Id.{Id}
use Rattle.datasets.specs.declared.quad.Quad.{Quad}
use Rattle.datasets.specs.declared.read.QuadPattern.{QuadPattern}
use Rattle.datasets.specs.declared.read.Read.TheVariants.{Scan}
use Rattle.datasets.specs.Dataset.{Quads, Is, Names, quad_order, matches}
use Rattle.datasets.specs.Id.{id_order, id_total, id_exact, quad_total, quad_exact}
use Rattle.reads.specs.Reads.{View, Answer, told_quads, says}
use Rattle.reads.specs.declared.note.Note.{Note}
use Rattle.reads.proofs.Asked.{or_none}
use Rattle.update.specs.Told.{ToldScan, quads_in, told_by, first_told, IsTold, AreTold}

-- the quads of a scan's answer, where it agrees with the dataset, are told
pub scan_is_told : (p : QuadPattern Id) (a told : Answer) (d : View)
    → ((q : Quad Id) → has (quad_order id_order) (quads_in told) q ≡ has (quad_order id_order) (quads_in a) q)
    → a ≡ says (Scan p) d → IsTold d (record { pattern = p; quads = quads_in told })
unfolding says
scan_is_told p a told d same e q m =
    let D = has (quad_order id_order) d.quads q in
    same q
    ∙ ap (λ z. has (quad_order id_order) (quads_in z) q) e
    ∙ has-filter (quad_total id_total) (quad_exact id_order id_exact) (matches id_order p) q d.quads
    ∙ ap (λ b. D && b) m
    ∙ and-true D

one_is : (s : ToldScan) (q : Quad Id) (d : View) (b : Bool) → matches id_order s.pattern q ≡ b → IsTold d s
    → IfSome (if b then Some (has (quad_order id_order) s.quads q) else None) (λ so. so ≡ has (quad_order id_order) d.quads q)
one_is s q d true e told = told q e
one_is s q d false e told = tt

pub or_is : (P : Bool → Type 0) (a b : Option Bool) → IfSome a P → IfSome b P → IfSome (option_or a b) P
or_is P (Some so) b h k = h
or_is P None b h k = k

pub first_is : (scans : List ToldScan) (q : Quad Id) (d : View) → AreTold d scans → IfSome (first_told scans q) (λ so. so ≡ has (quad_order id_order) d.quads q)
first_is [] q d told = tt
first_is (s ∷ ss) q d told =
    or_is (λ so. so ≡ has (quad_order id_order) d.quads q) (told_by s q) (first_told ss q) (one_is s q d (matches id_order s.pattern q) refl told.0) (first_is ss q d told.1)

-- one more at the end
pub told_more : (d : View) (scans : List ToldScan) (s : ToldScan) → AreTold d scans → IsTold d s → AreTold d (scans ++ s ∷ [])
told_more d scans s h k = all_joined (IsTold d) scans (s ∷ []) h (k, tt)

pub some_told : (n : Note) (o : Option ToldScan) (s : ToldScan) → o ≡ Some s → IfSome o (λ scan. (d : View) → n.answer ≡ says n.read d → IsTold d scan)
    → (d : View) → n.answer ≡ says n.read d → IsTold d s
some_told n o s e h = subst (λ p. IfSome p (λ scan. (d : View) → n.answer ≡ says n.read d → IsTold d scan)) e h

-- the quads that an answer tells, none where it is of another kind
pub quads_are : (a : Answer) (o : Option (List (Quad Id))) → o ≡ told_quads a → quads_in a ≡ or_none o
quads_are (Quads quads) o e = ap or_none (sym e)
quads_are (Is so) o e = ap or_none (sym e)
quads_are (Names names) o e = ap or_none (sym e)
