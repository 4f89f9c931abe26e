-- Reading a text in two pieces, of which the first ends with an LF.
use Rattle.std.specs.Prelude.{Bool, ◌||◌}
use Rattle.std.specs.declared.cmp.Ordering.{Ordering}
use Rattle.std.specs.declared.cmp.Ordering.TheVariants.{Equal}
use Rattle.std.specs.Cmp.{IsTotalOrder}
use Rattle.sets.specs.Sets.{has, union}
use Rattle.sets.proofs.SetLaws.{same_set, sorted-set_of, has-union}
use Rattle.datasets.specs.Id.{quad_total, quad_exact}
use Rattle.terms.specs.Term.{term_order}
use Rattle.terms.specs.TermLaws.{term_total, term_exact}
use Rattle.std.proofs.Common.{◌≡◌, ℕ, true, false, cond, eqb, List, [], ◌∷◌, ◌++◌, Some, refl, sym, ap, ◌∙◌, subst, append_assoc}
use Rattle.std.proofs.lemmas.List.{append-nil}
use Rattle.std.specs.List.{onto_first}
use Rattle.std.specs.Option.{option_to_list}
use Rattle.datasets.specs.Dataset.{Dataset}
use Rattle.terms.specs.declared.term.Term.{Term}
use Rattle.terms.specs.DataSet.{dataset_of, united, ListsUnite}
use Rattle.nquads_lines.specs.declared.stop.Line.{Line}
use Rattle.nquads_lines.specs.declared.stop.Line.TheVariants.{Nothing, Graph, Statement}
use Rattle.nquads_lines.specs.Lines.{lines, lines_after}
use Rattle.nquads_lines.specs.Line.{IsLine, nothing, at_end}
use Rattle.nquads_lines.specs.Reading.{LinesAreRead}
use Rattle.nquads.specs.Spelled.{AreLines, none, more, stated, declared, Spells}
use Rattle.nquads.specs.Pieces.{ArePieces}

-- ---- the lines of two pieces

-- the lines before what follows an LF, or a CR, and that there is one where no CR came before
abbrev pub Before : (end cr : Bool) → ((List ℕ) → List (List ℕ)) → Type 0
Before end cr all = (before : List (List ℕ)) × ((ys : List ℕ) → all ys ≡ before ++ lines_after end ys) × (cr ≡ false → (first : List ℕ) × (others : List (List ℕ)) × (before ≡ first ∷ others))

-- one byte more in front, by whether it is an LF or a CR
one_byte : (end n m cr : Bool) (b : ℕ) (after inner : List ℕ → List (List ℕ)) → Before end true after → Before end false inner
    → Before end cr (λ ys. cond n (cond cr (inner ys) ([] ∷ inner ys)) (cond m ([] ∷ after ys) (onto_first b (inner ys))))
one_byte end true m true b after inner x y = (y.0, y.1, λ e. absurd cc)
one_byte end true m false b after inner x y = ([] ∷ y.0, λ ys. ap (λ ls. [] ∷ ls) (y.1 ys), λ e. ([], y.0, refl))
one_byte end false true cr b after inner x y = ([] ∷ x.0, λ ys. ap (λ ls. [] ∷ ls) (x.1 ys), λ e. ([], x.0, refl))
one_byte end false false cr b after inner x y =
    let some = y.2 refl in
    ((b ∷ some.0) ∷ some.1, λ ys. ap (onto_first b) (y.1 ys ∙ ap (λ ls. ls ++ lines_after end ys) some.2), λ e. (b ∷ some.0, some.1, refl))

pub lines_before : (front : List ℕ) (cr : Bool) → Before false cr (λ ys. lines_after cr (front ++ 10 ∷ ys))
lines_before [] true = ([], λ ys. refl, λ e. absurd cc)
lines_before [] false = ([] ∷ [], λ ys. refl, λ e. ([], [], refl))
lines_before (b ∷ bs) cr =
    one_byte false (eqb b 10) (eqb b 13) cr b (λ ys. lines_after true (bs ++ 10 ∷ ys)) (λ ys. lines_after false (bs ++ 10 ∷ ys)) (lines_before bs true) (lines_before bs false)

pub lines_before_cr : (front : List ℕ) (cr : Bool) → Before true cr (λ ys. lines_after cr (front ++ 13 ∷ ys))
lines_before_cr [] cr = ([] ∷ [], λ ys. refl, λ e. ([], [], refl))
lines_before_cr (b ∷ bs) cr =
    one_byte true (eqb b 10) (eqb b 13) cr b (λ ys. lines_after true (bs ++ 13 ∷ ys)) (λ ys. lines_after false (bs ++ 13 ∷ ys)) (lines_before_cr bs true) (lines_before_cr bs false)

-- ---- two datasets, in either order

either : (a b : Bool) → (a || b) ≡ (b || a)
either true true = refl
either true false = refl
either false true = refl
either false false = refl

union_turned : {A : Type 0} {R : A → A → Ordering} → IsTotalOrder R → ((x y : A) → R x y ≡ Equal → x ≡ y) → (xs ys : List A) → union R xs ys ≡ union R ys xs
union_turned {A} {R} o exact xs ys =
    same_set o exact (union R xs ys) (union R ys xs) (sorted-set_of o (xs ++ ys)) (sorted-set_of o (ys ++ xs))
    (λ q. has-union o q xs ys ∙ either (has R xs q) (has R ys q) ∙ sym (has-union o q ys xs))

pub united_turned : (d e : Dataset Term) → united d e ≡ united e d
united_turned d e = λ i. record { quads = union_turned (quad_total term_total) (quad_exact term_order term_exact) d.quads e.quads i; names = union_turned term_total term_exact d.names e.names i }

-- ---- what they say

module _ where
  pub are_both : {xs ys : List (List ℕ)} {s t : List Line} → AreLines xs s → AreLines ys t → AreLines (xs ++ ys) (s ++ t)
  are_both none h = h
  are_both (more is later) h = more is (are_both later h)

  -- lines in two parts
  pub in_parts : (xs ys : List (List ℕ)) (said : List Line) → AreLines (xs ++ ys) said → (s : List Line) × (t : List Line) × AreLines xs s × AreLines ys t × (said ≡ s ++ t)
  in_parts [] ys said h = ([], said, none, h, refl)
  in_parts (x ∷ xs) ys [] h = elim h [ ]
  in_parts (x ∷ xs) ys (l ∷ said) (more is later) =
      let r = in_parts xs ys said later in (l ∷ r.0, r.1, more is r.2, r.3, ap (λ ls. l ∷ ls) r.4)

  stated_both : (s t : List Line) → stated (s ++ t) ≡ stated s ++ stated t
  stated_both [] t = refl
  stated_both (Nothing ∷ s) t = stated_both s t
  stated_both (Graph g ∷ s) t = stated_both s t
  stated_both (Statement q ∷ s) t = ap (λ qs. q ∷ qs) (stated_both s t)

  declared_both : (s t : List Line) → declared (s ++ t) ≡ declared s ++ declared t
  declared_both [] t = refl
  declared_both (Nothing ∷ s) t = declared_both s t
  declared_both (Graph g ∷ s) t = ap (λ ns. g ∷ ns) (declared_both s t)
  declared_both (Statement q ∷ s) t =
      ap (λ ns. option_to_list q.graph ++ ns) (declared_both s t) ∙ sym (append_assoc (option_to_list q.graph) (declared s) (declared t))

module _ (read : LinesAreRead) where
  -- an empty line says nothing
  empty_line : (said : Line) → IsLine [] said → said ≡ Nothing
  empty_line said is =
      let empty : IsLine [] Nothing = record { utf8 = is.utf8; says = nothing (at_end (record { blanks = []; cut = refl; each = refl })) refl } in
      let e : Some Nothing ≡ Some said = sym ((read [] Nothing).1 empty) ∙ (read [] said).1 is in
      cc

  pub last_says : (t : List Line) → AreLines ([] ∷ []) t → t ≡ Nothing ∷ []
  last_says [] h = elim h [ ]
  last_says (l ∷ []) (more is later) = ap (λ x. x ∷ []) (empty_line l is)
  last_says (l ∷ k ∷ t) (more is later) = elim later [ ]

  -- ---- and the dataset

  module _ (unite : ListsUnite) where
    -- a text whose lines are those of its first part, but for the empty one behind it, and of the rest
    pub cut_spelled : (before : List (List ℕ)) (text first rest : List ℕ) (d e : Dataset Term) → lines first ≡ before ++ [] ∷ [] → lines text ≡ before ++ lines rest
        → Spells first d → Spells rest e → Spells text (united d e)
    cut_spelled before text first rest d e front whole a b =
        let parts = in_parts before ([] ∷ []) a.said (subst (λ ls. AreLines ls a.said) front a.each) in
        let said : a.said ≡ parts.0 ++ Nothing ∷ [] = parts.4 ∙ ap (λ t. parts.0 ++ t) (last_says parts.1 parts.3) in
        let quads : stated a.said ≡ stated parts.0 = ap stated said ∙ stated_both parts.0 (Nothing ∷ []) ∙ append-nil (stated parts.0) in
        let names : declared a.said ≡ declared parts.0 = ap declared said ∙ declared_both parts.0 (Nothing ∷ []) ∙ append-nil (declared parts.0) in
        let both : united d e ≡ dataset_of (stated (parts.0 ++ b.said)) (declared (parts.0 ++ b.said)) =
        (λ i. united (record { quads = a.quads i; names = a.names i }) (record { quads = b.quads i; names = b.names i }))
        ∙ (λ i. united (dataset_of (quads i) (names i)) (dataset_of (stated b.said) (declared b.said)))
        ∙ sym (unite (stated parts.0) (stated b.said) (declared parts.0) (declared b.said))
        ∙ sym (let e : dataset_of (stated (parts.0 ++ b.said)) (declared (parts.0 ++ b.said)) ≡ dataset_of (stated parts.0 ++ stated b.said) (declared parts.0 ++ declared b.said) =
        λ i. dataset_of (stated_both parts.0 b.said i) (declared_both parts.0 b.said i) in
        e) in
        record {
          said = parts.0 ++ b.said;
          each = subst (λ ls. AreLines ls (parts.0 ++ b.said)) (sym whole) (are_both parts.2 b.each);
          quads = ap (λ (x : Dataset Term). x.quads) both;
          names = ap (λ (x : Dataset Term). x.names) both;
        }

    pub united_spelled : (text first rest : List ℕ) (d e : Dataset Term) → ArePieces text first rest → Spells first d → Spells rest e → Spells text (united d e)
    united_spelled text first rest d e pieces a b =
        let before = lines_before pieces.0 false in
        let front : lines first ≡ before.0 ++ [] ∷ [] = ap lines pieces.1 ∙ before.1 [] in
        let whole : lines text ≡ before.0 ++ lines rest = ap lines (pieces.2 ∙ ap (λ t. t ++ rest) pieces.1 ∙ append_assoc pieces.0 (10 ∷ []) rest) ∙ before.1 rest in
        cut_spelled before.0 text first rest d e front whole a b
