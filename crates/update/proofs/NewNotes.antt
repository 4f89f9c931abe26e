-- Notes of reads that were not asked for before.
use Rattle.std.specs.Prelude.{Bool, true, false, nat_lt, if◌then◌else◌}
use Rattle.std.specs.Option.{option_map}
use Rattle.std.proofs.Common.{◌≡◌, ◌≤◌, List, [], ◌∷◌, ◌++◌, length, Option, Some, None, Result, refl, sym, ap, subst, ◌∙◌, append_assoc}
use Rattle.std.proofs.lemmas.List.{append-nil, append_cancel_left}
use Rattle.std.proofs.lemmas.Bool.{le-ltb}
use Rattle.datasets.specs.declared.id.Id.{Id}
use Rattle.datasets.specs.Id.{id_order}
use Rattle.meaning.specs.Mapping.{Mapping}
use Rattle.meaning.specs.Solutions.{solutions}
use Rattle.meaning.specs.Vocabulary.{Vocabulary}
use Rattle.algebra.specs.declared.template.Slot.TheVariants as slot
use Rattle.algebra.specs.declared.update.Modify.{Modify}
use Rattle.asking.specs.Near.{is_for_plan}
use Rattle.asking.specs.Goes.{Goes}
use Rattle.reads.specs.Reads.{View, Delta, Read, Answer, applied}
use Rattle.reads.specs.Runs.{Agrees}
use Rattle.reads.specs.declared.note.Note.{Note}
use Rattle.reads.specs.declared.source.Stop.{Stop}
use Rattle.solution.specs.Limits.{up_to}
use Rattle.update.specs.Once.{is_noted, AreNew, AddsNew, is_many, AsksOnce}

pub adds_nothing : (notes : List Note) → AddsNew notes notes
adds_nothing notes = ([], sym (append-nil notes), tt)

-- one note of a read that was not noted
pub adds_one : (notes notes' : List Note) (n : Note) (b : Bool) → notes' ≡ notes ++ n ∷ [] → b ≡ is_noted notes n.read → b ≡ false → AddsNew notes notes'
adds_one notes notes' n b e is off = (n ∷ [], e, (sym is ∙ off, tt))

new_both : (notes more others : List Note) → AreNew notes more → AreNew (notes ++ more) others → AreNew notes (more ++ others)
new_both notes [] others h k = subst (λ ns. AreNew ns others) (append-nil notes) k
new_both notes (n ∷ more) others h k =
    (h.0, new_both (notes ++ n ∷ []) more others h.1 (subst (λ ns. AreNew ns others) (sym (append_assoc notes (n ∷ []) more)) k))

pub adds_on : (notes between after : List Note) → AddsNew notes between → AddsNew between after → AddsNew notes after
adds_on notes between after a b =
    (a.0 ++ b.0, b.1 ∙ ap (λ ns. ns ++ b.0) a.1 ∙ append_assoc notes a.0 b.0, new_both notes a.0 b.0 a.2 (subst (λ ns. AreNew ns b.0) a.1 b.2))

-- nothing comes behind notes that stay
none_more : (notes more : List Note) → notes ≡ notes ++ more → more ≡ []
none_more notes more e = append_cancel_left notes more [] (sym e ∙ sym (append-nil notes))

-- few solutions are not many
not_many : (ms : List (Mapping Id)) (b : Bool) → length ms ≤ 100000 → is_many (if b then None else Some ms) ≡ false
not_many ms true few = refl
not_many ms false few = le-ltb 100000 (length ms) few

module _ {S : Type 0} {asks : S → Read → Result Answer Stop → S → Type 0} where
  -- the pattern first, and then what is new
  pub asks_once : (V : Vocabulary Id) (m : Modify Id) (c : Delta) (found : Option (List (Mapping Id))) (many : Bool) {s s' : S} {notes between after : List Note}
      → Goes asks (is_for_plan id_order (option_map slot.Term m.active) m.pattern) s s' notes between None
      → many ≡ is_many found
      → ((d : View) → Agrees after d → found ≡ up_to 1000000 (solutions id_order V.passes m.width m.pattern (applied c d) m.active))
      → AddsNew between after → (many ≡ false → after ≡ between) → AsksOnce V m c notes after
  asks_once V m c found many {s} {s'} {notes} {between} {after} goes is solved adds same = record {
    pattern = goes.more;
    others = adds.0;
    noted = adds.1 ∙ ap (λ ns. ns ++ adds.0) goes.noted;
    near = goes.near;
    new = subst (λ ns. AreNew ns adds.0) goes.noted adds.2;
    few = λ few.
        let ms = solutions id_order V.passes m.width m.pattern (applied c few.0) m.active in
        let off : many ≡ false = is ∙ ap is_many (solved few.0 few.1) ∙ not_many ms (nat_lt 1000000 (length ms)) few.2 in
        none_more between adds.0 (sym (same off) ∙ adds.1);
  }
