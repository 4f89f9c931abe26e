-- Reading the lines gives the dataset that they spell, or the first bad one.
use Rattle.std.proofs.Common.{◌≡◌, ℕ, ◌+◌, List, [], ◌∷◌, ◌++◌, length, Some, None, Result, Ok, Err, refl, sym, ap, ◌∙◌, subst, arith, append_assoc}
use Rattle.std.proofs.lemmas.List.{append-nil}
use Rattle.std.specs.Prelude.{IfOk, IsErrOf}
use Rattle.std.specs.Option.{option_map_or}
use Rattle.std.specs.Option.{option_to_list}
use Rattle.datasets.specs.declared.quad.Quad.{Quad}
use Rattle.sets.specs.Sets.{set_of}
use Rattle.datasets.specs.Dataset.{Dataset, quad_order}
use Rattle.terms.specs.declared.term.Term.{Term}
use Rattle.terms.specs.Term.{term_order}
use Rattle.terms.specs.DataSet.{dataset_of, ListsGrowAsDatasets}
use Rattle.nquads_lines.specs.declared.stop.Line.{Line}
use Rattle.nquads_lines.specs.declared.stop.Line.TheVariants.{Nothing, Graph, Statement}
use Rattle.nquads.specs.declared.fault.BaseFault.{BaseFault}
use Rattle.nquads.specs.declared.fault.BaseFault.TheVariants as fault
use Rattle.nquads_lines.specs.Lines.{lines}
use Rattle.nquads_lines.specs.Line.{IsLine}
use Rattle.nquads_lines.specs.Reading.{line_of, LinesAreRead}
use Rattle.nquads.specs.Spelled.{AreLines, none, more, stated, declared, Spells, IsBad, IsFirstBad}
use Rattle.nquads.specs.Whole.{keep, read_from, no_quads, Faults, Reads}

-- what the lines say, read after some quads and names
abbrev Found : List (List ℕ) → List (Quad Term) → List Term → Dataset Term → Type 0
Found ls front names d = (said : List Line) × AreLines ls said × (d ≡ dataset_of (front ++ stated said) (names ++ declared said))

done : Dataset Term → Result (Dataset Term) ℕ
done d = Ok d

failed : ℕ → Result (Dataset Term) ℕ
failed n = Err n

ok_is : (x y : Dataset Term) → done x ≡ done y → x ≡ y
unfolding done
ok_is x y e = cc

err_is : (x y : ℕ) → failed x ≡ failed y → x ≡ y
unfolding failed
err_is x y e = cc

-- the line after which n lines come
record BadAfter (ls : List (List ℕ)) (m n : ℕ) : Type 0 where
  before : List Line
  bad : List ℕ
  after : List (List ℕ)
  front : List (List ℕ)
  cut : ls ≡ front ++ bad ∷ after
  good : AreLines front before
  here : IsBad bad
  number : n ≡ m + length front + 1

-- a line that is read isn't bad
pub no_bad_in : (front : List (List ℕ)) (bad : List ℕ) (after : List (List ℕ)) (said : List Line) → IsBad bad → AreLines (front ++ bad ∷ after) said → ⊥
no_bad_in [] bad after [] here all = elim all [ ]
no_bad_in (l ∷ front) bad after [] here all = elim all [ ]
no_bad_in [] bad after (s ∷ said) here (more is others) = here s is
no_bad_in (l ∷ front) bad after (s ∷ said) here (more is others) = no_bad_in front bad after said here others

pub bad_line_spells_none : (text : List ℕ) (n : ℕ) (d : Dataset Term) → IsFirstBad text n → Spells text d → ⊥
bad_line_spells_none text n d b is = no_bad_in b.front b.bad b.after is.said b.here (subst (λ ls. AreLines ls is.said) b.cut is.each)

-- the line that reading stopped at
pub stopped : (e : BaseFault) (line : List ℕ) (later : List (List ℕ)) (d : Dataset Term) (n : ℕ) → Faults e (n + 1) (line_of line) → Reads (Err e) (read_from d n (line ∷ later))
stopped fault.OutOfMemory line later d n h = tt
stopped (fault.BadLine m) line later d n h = rw (h.1, h.0) refl
stopped fault.TooLong line later d n h = h
stopped fault.Device line later d n h = h

-- ---- by the law of lines

module _ (read : LinesAreRead) where
  -- the first bad line
  pub bad_line : (l : List ℕ) → line_of l ≡ None → IsBad l
  bad_line l e said is = absurd (let f : None ≡ Some said = sym e ∙ (read l said).1 is in cc)

  lines_bad : (ls : List (List ℕ)) (d : Dataset Term) (m n : ℕ) → read_from d m ls ≡ Err n → BadAfter ls m n
  unfolding failed
  lines_bad [] d m n e = absurd cc
  lines_bad (l ∷ ls) d m n e =
      elim (line_of l) as (λ o. line_of l ≡ o → option_map_or (λ said. read_from (keep d said) (m + 1) ls) o (Err (m + 1)) ≡ Err n → BadAfter (l ∷ ls) m n) [
        | None ↦ λ o h. let number : m + 1 ≡ n = err_is (m + 1) n h in record { before = []; bad = l; after = ls; front = []; cut = refl; good = none; here = bad_line l o; number = omega arith }
        | Some said ↦ λ o h. let b = lines_bad ls (keep d said) (m + 1) n h in
            let number : n ≡ m + 1 + length b.front + 1 = b.number in
            let longer : length (l ∷ b.front) ≡ length b.front + 1 = omega arith in
            record { before = said ∷ b.before; bad = b.bad; after = b.after; front = l ∷ b.front; cut = ap (λ (t : List (List ℕ)). l ∷ t) b.cut; good = more ((read l said).0 o) b.good; here = b.here; number = omega arith }
      ] refl e

  pub whole_bad : (text : List ℕ) (n : ℕ) → read_from no_quads 0 (lines text) ≡ Err n → IsFirstBad text n
  whole_bad text n e =
      let b = lines_bad (lines text) no_quads 0 n e in
      let number : n ≡ 0 + length b.front + 1 = b.number in
      record { before = b.before; bad = b.bad; after = b.after; front = b.front; cut = b.cut; good = b.good; here = b.here; number = omega arith }

  pub is_first_bad : (text : List ℕ) (r : Result (Dataset Term) BaseFault) → Reads r (read_from no_quads 0 (lines text)) → (n : ℕ) → IsErrOf r (fault.BadLine n) → IsFirstBad text n
  is_first_bad text r h n e = whole_bad text n (subst (λ r. Reads r (read_from no_quads 0 (lines text))) e h)

  -- ---- and by that of adding

  module _ (grows : ListsGrowAsDatasets) where
    kept : (front : List (Quad Term)) (names : List Term) (q : Quad Term) → keep (dataset_of front names) (Statement q) ≡ dataset_of (front ++ q ∷ []) (names ++ option_to_list q.graph)
    kept front names q = sym (grows front names q)

    -- a name is put in as that of a quad's graph is
    pub declared_too : (front : List (Quad Term)) (names : List Term) (g : Term) → keep (dataset_of front names) (Graph g) ≡ dataset_of front (names ++ g ∷ [])
    declared_too front names g =
        let more : Dataset Term → Dataset Term = λ d. record { quads = set_of (quad_order term_order) front; names = d.names } in
        sym (ap more (grows front names (record { subject = g; predicate = g; object = g; graph = Some g })))

    line_then : (l : List ℕ) (ls : List (List ℕ)) (front : List (Quad Term)) (names : List Term) (n : ℕ) (d : Dataset Term) (said : Line)
        → ((front : List (Quad Term)) (names : List Term) → read_from (dataset_of front names) (n + 1) ls ≡ Ok d → Found ls front names d)
        → IsLine l said → read_from (keep (dataset_of front names) said) (n + 1) ls ≡ Ok d → Found (l ∷ ls) front names d
    line_then l ls front names n d Nothing later is h = let r = later front names h in (Nothing ∷ r.0, more is r.1, r.2)
    line_then l ls front names n d (Graph g) later is h =
        let r = later front (names ++ g ∷ []) (ap (λ x. read_from x (n + 1) ls) (sym (declared_too front names g)) ∙ h) in
        (Graph g ∷ r.0, more is r.1, r.2 ∙ ap (dataset_of (front ++ stated r.0)) (append_assoc names (g ∷ []) (declared r.0)))
    line_then l ls front names n d (Statement q) later is h =
        let r = later (front ++ q ∷ []) (names ++ option_to_list q.graph) (ap (λ x. read_from x (n + 1) ls) (sym (kept front names q)) ∙ h) in
        (Statement q ∷ r.0, more is r.1, r.2 ∙ (λ i. dataset_of (append_assoc front (q ∷ []) (stated r.0) i) (append_assoc names (option_to_list q.graph) (declared r.0) i)))

    lines_found : (ls : List (List ℕ)) (front : List (Quad Term)) (names : List Term) (n : ℕ) (d : Dataset Term) → read_from (dataset_of front names) n ls ≡ Ok d → Found ls front names d
    unfolding done
    lines_found [] front names n d e = ([], none, sym (ok_is (dataset_of front names) d e) ∙ (λ i. dataset_of (sym (append-nil front) i) (sym (append-nil names) i)))
    lines_found (l ∷ ls) front names n d e =
        elim (line_of l) as (λ o. line_of l ≡ o → option_map_or (λ said. read_from (keep (dataset_of front names) said) (n + 1) ls) o (Err (n + 1)) ≡ Ok d → Found (l ∷ ls) front names d) [
          | None ↦ λ o h. absurd cc
          | Some said ↦ λ o h. line_then l ls front names n d said (λ front names e. lines_found ls front names (n + 1) d e) ((read l said).0 o) h
        ] refl e

    pub whole_found : (text : List ℕ) (d : Dataset Term) → read_from no_quads 0 (lines text) ≡ Ok d → Spells text d
    whole_found text d e =
        let r = lines_found (lines text) [] [] 0 d e in
        record { said = r.0; each = r.1; quads = ap (λ (x : Dataset Term). x.quads) r.2; names = ap (λ (x : Dataset Term). x.names) r.2 }

    abbrev Done : List (Quad Term) → List Term → Result (Dataset Term) ℕ
    Done qs ns = Ok (dataset_of qs ns)

    lines_again : {ls : List (List ℕ)} {said : List Line} (front : List (Quad Term)) (names : List Term) (n : ℕ) → AreLines ls said
        → read_from (dataset_of front names) n ls ≡ Ok (dataset_of (front ++ stated said) (names ++ declared said))
    lines_again front names n none = λ i. Done (sym (append-nil front) i) (sym (append-nil names) i)
    lines_again front names n (more {line = l} {said = Nothing} {later = ls} is others) = rw ((read l Nothing).1 is) (lines_again front names (n + 1) others)
    lines_again front names n (more {line = l} {said = Graph g} {later = ls} {rest = rest} is others) =
        rw ((read l (Graph g)).1 is)
        (ap (λ x. read_from x (n + 1) ls) (declared_too front names g) ∙ lines_again front (names ++ g ∷ []) (n + 1) others ∙ ap (Done (front ++ stated rest)) (append_assoc names (g ∷ []) (declared rest)))
    lines_again front names n (more {line = l} {said = Statement q} {later = ls} {rest = rest} is others) =
        rw ((read l (Statement q)).1 is)
        (ap (λ x. read_from x (n + 1) ls) (kept front names q) ∙ lines_again (front ++ q ∷ []) (names ++ option_to_list q.graph) (n + 1) others
        ∙ (λ i. Done (append_assoc front (q ∷ []) (stated rest) i) (append_assoc names (option_to_list q.graph) (declared rest) i)))

    whole_again : (text : List ℕ) (d : Dataset Term) → Spells text d → read_from no_quads 0 (lines text) ≡ Ok d
    whole_again text d is =
        let same : dataset_of (stated is.said) (declared is.said) ≡ d = λ i. record { quads = sym is.quads i; names = sym is.names i } in
        lines_again [] [] 0 is.each ∙ ap (λ (x : Dataset Term). let r : Result (Dataset Term) ℕ = Ok x in r) same

    pub one_dataset : (text : List ℕ) (d e : Dataset Term) → Spells text d → Spells text e → d ≡ e
    unfolding done
    one_dataset text d e p q = ok_is d e (sym (whole_again text d p) ∙ whole_again text e q)

    pub is_spelled : (text : List ℕ) (r : Result (Dataset Term) BaseFault) → Reads r (read_from no_quads 0 (lines text)) → IfOk r (λ d. Spells text d)
    is_spelled text (Ok d) h = whole_found text d h
    is_spelled text (Err e) h = tt

    pub is_only : (text : List ℕ) (r : Result (Dataset Term) BaseFault) → Reads r (read_from no_quads 0 (lines text)) → (d : Dataset Term) → Spells text d → Reads r (Ok d)
    is_only text (Ok d) h e is = sym (whole_again text e is) ∙ h
    is_only text (Err fault.OutOfMemory) h e is = tt
    is_only text (Err (fault.BadLine n)) h e is = sym (whole_again text e is) ∙ h
    is_only text (Err fault.TooLong) h e is = h
    is_only text (Err fault.Device) h e is = h
