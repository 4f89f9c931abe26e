-- What changes make of a dataset, and of the part of it that a read asks for.
use Rattle.std.proofs.Common.{◌≡◌, ℕ, zero, suc, set, arith, ◌<◌, ◌+◌, ◌==◌, false, List, [], ◌∷◌, ◌++◌, length, take, drop, get_or, refl, ap, sym, ◌∙◌}
use Rattle.std.proofs.lemmas.Bool.{false≢true}
use Rattle.std.proofs.lemmas.List.{take_more, take-append-drop}
use Rattle.datasets.specs.Id.{id_order}
use Rattle.change_laws.specs.Laws.{IsRising}
use Rattle.reads.specs.Reads.{View, Delta, Read, says, applied}
use Rattle.reads.proofs.Changes.{depends, rises}
use Rattle.version_overlay.specs.Settled.{changed_by}

-- CHANGES ONE AFTER ANOTHER

pub changed_by-append : (cs ds : List Delta) (v : View) → changed_by (cs ++ ds) v ≡ changed_by ds (changed_by cs v)
unfolding changed_by
changed_by-append [] ds v = refl
changed_by-append (c ∷ cs) ds v = changed_by-append cs ds (applied c v)

pub changed_by-one : (c : Delta) (v : View) → changed_by (c ∷ []) v ≡ applied c v
unfolding changed_by
changed_by-one c v = refl

pub changed_by_more : (cs : List Delta) (i : ℕ) (c : Delta) → i < length cs → c ≡ get_or cs i c → (v : View) → changed_by (take (i + 1) cs) v ≡ applied c (changed_by (take i cs) v)
changed_by_more cs i c lt is v =
    ap (λ xs. changed_by xs v) (take_more cs i c lt) ∙ changed_by-append (take i cs) (get_or cs i c ∷ []) v ∙ changed_by-one (get_or cs i c) (changed_by (take i cs) v)
    ∙ ap (λ x. applied x (changed_by (take i cs) v)) (sym is)

pub changed_by-rises : (cs : List Delta) (v : View) → IsRising id_order v → IsRising id_order (changed_by cs v)
unfolding changed_by
changed_by-rises [] v rising = rising
changed_by-rises (c ∷ cs) v rising = changed_by-rises cs (applied c v) (rises c v)

-- the part of a change that a read asks for, laid over what is asked for of a dataset; the read may
-- have another name
pub covered_as : (c : Delta) (r r' : Read) → r' ≡ r → (asked : Delta) → ((d : View) → says r' (applied asked d) ≡ says r' (applied c d)) → (part d : View) → says r part ≡ says r d
    → (next : View) → next ≡ applied asked part → says r next ≡ says r (applied c d)
covered_as c r r' same_read asked same part d alike next e =
    ap (λ v. says r v) e ∙ ap (λ z. says z (applied asked part)) (sym same_read) ∙ same part ∙ ap (λ z. says z (applied c part)) same_read ∙ depends c part d r alike

pub changed-rises : (cs : List Delta) → (cs ≡ [] → ⊥) → (v : View) → IsRising id_order (changed_by cs v)
unfolding changed_by
changed-rises [] some v = absurd (some refl)
changed-rises (c ∷ cs) some v = changed_by-rises cs (applied c v) (rises c v)

-- CHANGES AS ONE

pub one_is : (cs : List Delta) (c : Delta) → length cs ≡ 1 → c ≡ get_or cs 0 c → (v : View) → applied c v ≡ changed_by cs v
unfolding changed_by
one_is [] c n is v = absurd (omega (arith, n))
one_is (x ∷ []) c n is v = ap (λ y. applied y v) is
one_is (x ∷ y ∷ cs) c n is v = absurd (omega (arith, n))

-- the first changes as one, and then the others as one
pub halves_are : (n : ℕ) (cs first rest : List Delta) → first ≡ take n cs → rest ≡ drop n cs → (earlier later both : Delta) → ((v : View) → applied earlier v ≡ changed_by first v)
    → ((v : View) → applied later v ≡ changed_by rest v) → ((v : View) → applied both v ≡ applied later (applied earlier v)) → (v : View) → applied both v ≡ changed_by cs v
halves_are n cs first rest front back earlier later both a b c v =
    c v ∙ b (applied earlier v) ∙ ap (changed_by rest) (a v) ∙ sym (changed_by-append first rest v)
    ∙ (λ i. changed_by (front i ++ back i) v) ∙ ap (λ xs. changed_by xs v) (take-append-drop n cs)

pub changed_by-nothing : (v : View) → changed_by [] v ≡ v
unfolding changed_by
changed_by-nothing v = refl

pub pushed_is : (cs new : List Delta) (x c : Delta) → new ≡ cs ++ x ∷ [] → x ≡ c → (v : View) → changed_by new v ≡ applied c (changed_by cs v)
pushed_is cs new x c is same v =
    ap (λ xs. changed_by xs v) is ∙ changed_by-append cs (x ∷ []) v ∙ changed_by-one x (changed_by cs v) ∙ ap (λ y. applied y (changed_by cs v)) same

-- LISTS WITH NOTHING IN THEM

pub some_are : {X : Type 0} (xs : List X) (n : ℕ) → n ≡ length xs → (n == 0) ≡ false → xs ≡ [] → ⊥
some_are xs n e h none = false≢true (sym h ∙ ap (λ k. k == 0) (e ∙ ap length none))

pub below_one : {X : Type 0} (xs : List X) → length xs < 1 → xs ≡ []
below_one [] lt = refl
below_one (x ∷ xs) lt = absurd (omega (arith, lt))
