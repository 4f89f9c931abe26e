-- A read asks only for what matches of a dataset.
use Rattle.std.specs.Prelude.{Bool, filter, ◌||◌, if◌then◌else◌}
use Rattle.std.proofs.Common.{◌≡◌, true, false, cond, List, [], ◌∷◌, Option, Some, None, refl, sym, ap, ◌∙◌}
use Rattle.std.specs.Cmp.{tied_itself}
use Rattle.std.specs.Ordering.{is_eq}
use Rattle.sets.specs.Sets.{has}
use Rattle.datasets.specs.declared.id.Id.{Id}
use Rattle.datasets.specs.declared.quad.Quad.{Quad}
use Rattle.datasets.specs.declared.read.QuadPattern.{QuadPattern}
use Rattle.datasets.specs.declared.read.Read.TheVariants.{Scan, GraphIs, Graphs}
use Rattle.datasets.specs.Dataset.{Quads, Is, Names, matches}
use Rattle.datasets.specs.Id.{id_order, id_total}
use Rattle.reads.specs.Reads.{View, Read, Answer, says, told_quads, told_is, told_names}

filter_kept : {A : Type 0} (p : A → Bool) (b : Bool) (x : A) (xs : List A) → p x ≡ b → filter p xs ≡ xs → filter p (cond b (x ∷ xs) xs) ≡ cond b (x ∷ xs) xs
filter_kept p true x xs e h = ap (λ t. cond t (x ∷ filter p xs) (filter p xs)) e ∙ ap (λ ys. x ∷ ys) h
filter_kept p false x xs e h = h

pub filter-filter : {A : Type 0} (p : A → Bool) (xs : List A) → filter p (filter p xs) ≡ filter p xs
filter-filter p [] = refl
filter-filter p (x ∷ xs) = filter_kept p (p x) x (filter p xs) refl (filter-filter p xs)

pub says-matching : (p : QuadPattern Id) (d : View) → says (Scan p) (record { quads = filter (matches id_order p) d.quads; names = [] }) ≡ says (Scan p) d
unfolding says
says-matching p d = ap Quads (filter-filter (matches id_order p) d.quads)

has_one : (g : Id) (b : Bool) → has id_order (if b then g ∷ [] else []) g ≡ b
has_one g true = ap (λ r. is_eq r || false) (tied_itself id_total g)
has_one g false = refl

pub says-name : (g : Id) (d : View) → says (GraphIs g) (record { quads = []; names = if has id_order d.names g then g ∷ [] else [] }) ≡ says (GraphIs g) d
unfolding says
says-name g d = ap Is (has_one g (has id_order d.names g))

pub says-names : (d : View) → says Graphs (record { quads = []; names = d.names }) ≡ says Graphs d
unfolding says
says-names d = refl

-- ---- datasets with the same names

pub says-one_name : (r : Read) (g : Id) (a b : View) → a.names ≡ b.names → r ≡ GraphIs g → says r a ≡ says r b
unfolding says
says-one_name r g a b e is = ap (λ z. says z a) is ∙ ap (λ (ns : List Id). Is (has id_order ns g)) e ∙ ap (λ z. says z b) (sym is)

pub says-each_name : (r : Read) (a b : View) → a.names ≡ b.names → r ≡ Graphs → says r a ≡ says r b
unfolding says
says-each_name r a b e is = ap (λ z. says z a) is ∙ ap Names e ∙ ap (λ z. says z b) (sym is)

pub says-quads : (r : Read) (p : QuadPattern Id) (quads : List (Quad Id)) (d : View) → quads ≡ filter (matches id_order p) d.quads → r ≡ Scan p → Quads quads ≡ says r d
unfolding says
says-quads r p quads d e is = ap Quads e ∙ ap (λ z. says z d) (sym is)

pub says-has : (r : Read) (g : Id) (b : Bool) (names : List Id) (d : View) → b ≡ has id_order names g → names ≡ d.names → r ≡ GraphIs g → Is b ≡ says r d
unfolding says
says-has r g b names d e f is = ap Is (e ∙ ap (λ (ns : List Id). has id_order ns g) f) ∙ ap (λ z. says z d) (sym is)

-- ---- what is told of a dataset

pub told-scan : (o : Option (List (Quad Id))) (a : Answer) (r : Read) (d : View) (p : QuadPattern Id) → o ≡ told_quads a → a ≡ says r d → r ≡ Scan p → o ≡ Some (filter (matches id_order p) d.quads)
unfolding says
told-scan o a r d p e f g = e ∙ ap told_quads (f ∙ ap (λ z. says z d) g)

pub told-names : (o : Option (List Id)) (a : Answer) (r : Read) (d : View) → o ≡ told_names a → a ≡ says r d → r ≡ Graphs → o ≡ Some d.names
unfolding says
told-names o a r d e f g = e ∙ ap told_names (f ∙ ap (λ z. says z d) g)

pub told-one : (o : Option Bool) (a : Answer) (r : Read) (d : View) (g : Id) → o ≡ told_is a → a ≡ says r d → r ≡ GraphIs g → o ≡ Some (has id_order d.names g)
unfolding says
told-one o a r d g e f is = e ∙ ap told_is (f ∙ ap (λ z. says z d) is)

-- nothing stands for the empty list
abbrev pub or_none : {A : Type 0} → Option (List A) → List A
or_none None = []
or_none (Some xs) = xs

abbrev pub or_false : Option Bool → Bool
or_false None = false
or_false (Some b) = b
