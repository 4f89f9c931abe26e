-- What is read of a line is what it says, and what it says is read.
use Rattle.std.proofs.Common.{◌≡◌, ℕ, true, false, cond, eqb, List, [], ◌∷◌, ◌++◌, Option, Some, None, refl, sym, ap, ◌∙◌, subst, drop, length}
use Rattle.std.specs.Prelude.{nat_eq}
use Rattle.std.specs.Str.{is_utf8}
use Rattle.std.specs.List.{list_all, starts_with}
use Rattle.std.proofs.lemmas.Bool.{eqb-true, and_parts}
use Rattle.std.proofs.lemmas.Option.{cond_some, same_Some}
use Rattle.std.proofs.lemmas.Str.{IsUtf8-from_is_utf8, is_utf8-from_IsUtf8}
use Rattle.iris.specs.Runs.{run_of, rest_of, Stops, IsRun, RunsAreLongest}
use Rattle.iris.specs.Bracketed.{◌>>=◌}
use Rattle.iris.proofs.Options.{bind_some, chosen}
use Rattle.terms.specs.declared.term.Term.{Term}
use Rattle.terms.specs.declared.term.Term.TheVariants as term
use Rattle.nquads_lines.specs.declared.stop.Line.{Line}
use Rattle.nquads_lines.specs.declared.stop.Line.TheVariants.{Nothing, Graph, Statement}
use Rattle.nquads_lines.specs.Escapes.{IriAt, iri}
use Rattle.nquads_lines.specs.Forms.{SubjectAt, iri, ObjectAt, BlankAt, blank, LiteralAt, simple, typed, tagged, subject, value}
use Rattle.nquads_lines.specs.Line.{is_blank, Gap, Ends, at_end, at_comment, graph_mark, GraphAt, default_graph, named, Says, nothing, declares, states, IsLine}
use Rattle.nquads_lines.specs.Undone.{ascii_at, after, iri_at}
use Rattle.nquads_lines.specs.ReadTerms.{begins_with, subject_at, object_at}
use Rattle.nquads_lines.specs.Reading.{skip_blanks, begins_comment, ends, graph_at, statement_at, is_empty, declared_at, line_of, LinesAreRead}
use Rattle.nquads_lines.proofs.CutLaws.{marked}
use Rattle.nquads_lines.proofs.QuotedLaws.{after_found}
use Rattle.nquads_lines.proofs.TermLaws.{iri_found, iri_again, begins_iri, subject_found, subject_again, object_found, object_again}

-- ---- no term begins with a blank or a `#`

-- the byte at the front is `<`, `_` or `"`
abbrev Begins : List ℕ → Type 0
Begins text = (b : ℕ) × (t : List ℕ) × (text ≡ b ∷ t) × (is_blank b ≡ false) × (eqb b 35 ≡ false)

iri_begins : {text i rest : List ℕ} → IriAt text i rest → Begins text
iri_begins (iri {text} at is) = (60, text, refl, refl, refl)

blank_begins : {text b rest : List ℕ} → BlankAt text b rest → Begins text
blank_begins (blank {label} {rest} is stops) = (95, 58 ∷ (label ++ rest), refl, refl, refl)

subject_begins : {text rest : List ℕ} {x : Term} → SubjectAt text x rest → Begins text
subject_begins (iri at) = iri_begins at
subject_begins (blank at) = blank_begins at

literal_begins : {text rest : List ℕ} {x : Term} → LiteralAt text x rest → Begins text
literal_begins (simple {text} string stops) = (34, text, refl, refl, refl)
literal_begins (typed {text} string at not_lang) = (34, text, refl, refl, refl)
literal_begins (tagged tag {text} string is stops) = (34, text, refl, refl, refl)

object_begins : {text rest : List ℕ} {x : Term} → ObjectAt text x rest → Begins text
object_begins (subject at) = subject_begins at
object_begins (value at) = literal_begins at

begins_stops : (text : List ℕ) → Begins text → Stops is_blank text
begins_stops text b = subst (Stops is_blank) (sym b.2) b.3

no_mark_byte : (x : ℕ) → is_blank x ≡ true → eqb 35 x ≡ false
no_mark_byte x h = elim (eqb 35 x) as (λ t. eqb 35 x ≡ t → t ≡ false) [ true ↦ λ e. absurd (let f : is_blank 35 ≡ true = subst (λ y. is_blank y ≡ true) (sym (eqb-true 35 x e)) h in cc) | false ↦ λ e. refl ] refl

turned : (x : ℕ) → eqb x 35 ≡ false → eqb 35 x ≡ false
turned x h = elim (eqb 35 x) as (λ t. eqb 35 x ≡ t → t ≡ false) [ true ↦ λ e. absurd (let f : eqb 35 35 ≡ false = subst (λ y. eqb y 35 ≡ false) (sym (eqb-true 35 x e)) h in cc) | false ↦ λ e. refl ] refl

no_mark_cut : (blanks : List ℕ) (b : ℕ) (rest : List ℕ) → eqb b 35 ≡ false → list_all is_blank blanks ≡ true → starts_with nat_eq (blanks ++ b ∷ rest) graph_mark ≡ false
no_mark_cut [] b rest other each = rw (turned b other) refl
no_mark_cut (x ∷ xs) b rest other each = rw (no_mark_byte x (and_parts (is_blank x) (list_all is_blank xs) each).0) refl

no_mark : (a b : List ℕ) → Gap a b → Begins b → starts_with nat_eq a graph_mark ≡ false
no_mark a b gap begins =
    ap (λ (t : List ℕ). starts_with nat_eq t graph_mark) (gap.cut ∙ ap (λ (r : List ℕ). gap.blanks ++ r) begins.2) ∙ no_mark_cut gap.blanks begins.0 begins.1 begins.4 gap.each

-- ---- blanks

module _ (runs : RunsAreLongest) where
  gap_found : (text : List ℕ) → Gap text (rest_of is_blank text)
  gap_found text =
      let is : IsRun is_blank text (run_of is_blank text) (rest_of is_blank text) = (runs is_blank text (run_of is_blank text) (rest_of is_blank text)).0 (refl, refl) in
      record { blanks = run_of is_blank text; cut = is.cut; each = is.all }

  gap_is : (text rest : List ℕ) → Gap text rest → Stops is_blank rest → rest_of is_blank text ≡ rest
  gap_is text rest g stop = ((runs is_blank text g.blanks rest).1 (record { cut = g.cut; all = g.each; stops = stop })).1

  -- ---- ends

  ends_found : (text : List ℕ) → ends text ≡ true → Ends text
  unfolding ends
  ends_found text e =
      elim (rest_of is_blank text) as (λ r. rest_of is_blank text ≡ r → begins_comment r ≡ true → Ends text) [
        | [] ↦ λ q h. at_end (subst (λ r. Gap text r) q (gap_found text))
        | c ∷ r ↦ λ q h. at_comment (subst (λ r. Gap text r) (q ∙ ap (λ (x : ℕ). x ∷ r) (eqb-true c 35 h)) (gap_found text))
      ] refl e

  ends_again : (text : List ℕ) → Ends text → ends text ≡ true
  unfolding ends
  ends_again text (at_end g) = rw (gap_is text [] g tt) refl
  ends_again text (at_comment {comment = c} g) = rw (gap_is text (35 ∷ c) g refl) refl

  -- a line that goes on with a term is no empty line
  goes_on : (a b : List ℕ) → Gap a b → Begins b → ends a ≡ false
  unfolding ends
  goes_on a b gap begins = ap begins_comment (gap_is a b gap (begins_stops b begins) ∙ begins.2) ∙ begins.4

  -- ---- graphs

  -- what follows the graph of a statement and its blanks, behind the object
  graph_found : (text : List ℕ) (x : Option Term × List ℕ) → graph_at (skip_blanks text) ≡ Some x → (h : List ℕ) × Gap text h × GraphAt h x.0 x.1
  unfolding graph_at
  graph_found text x e =
      let sk : List ℕ = rest_of is_blank text in
      elim (begins_with 60 sk) as (λ b. cond b (iri_at sk >>= λ g. Some (Some (term.Iri g.0), skip_blanks g.1)) (Some (None, sk)) ≡ Some x → (h : List ℕ) × Gap text h × GraphAt h x.0 x.1) [
        | true ↦ λ h. let g = bind_some (iri_at sk) (λ g. Some (Some (term.Iri g.0), skip_blanks g.1)) x h in
            (sk, gap_found text, subst (λ (y : Option Term × List ℕ). GraphAt sk y.0 y.1) (same_Some (Some (term.Iri g.0.0), skip_blanks g.0.1) x g.2) (named (iri_found sk g.0 g.1) (gap_found g.0.1)))
        | false ↦ λ h. (sk, gap_found text, subst (λ (y : Option Term × List ℕ). GraphAt sk y.0 y.1) (same_Some (None, sk) x h) default_graph)
      ] e

  graph_again : {text h i : List ℕ} {n : Option Term} → Gap text h → GraphAt h n (46 ∷ i) → graph_at (skip_blanks text) ≡ Some (n, 46 ∷ i)
  unfolding graph_at
  graph_again {text} {h} {i} gap default_graph = rw (gap_is text (46 ∷ i) gap refl) refl
  graph_again {text} {h} {i} gap (named {after = after_iri} {g = g} at then_gap) =
      rw (gap_is text h gap (begins_stops h (iri_begins at)), begins_iri at, iri_again at, gap_is after_iri (46 ∷ i) then_gap refl) refl

  empty_is : (text : List ℕ) → is_empty text ≡ true → text ≡ []
  empty_is [] e = refl
  empty_is (b ∷ bs) e = absurd cc

  declared_found : (text : List ℕ) (said : Line) → declared_at text ≡ Some said → (line : List ℕ) → line ≡ graph_mark ++ text → Says line said
  unfolding declared_at
  declared_found text said e line cut =
      let g = bind_some (iri_at text) (λ g. cond (is_empty (skip_blanks g.1)) (Some (Graph (term.Iri g.0))) None) said e in
      let c = cond_some (is_empty (skip_blanks g.0.1)) (Graph (term.Iri g.0.0)) said g.2 in
      subst (λ (s : Line). Says line s) c.1
      (declares cut (iri_found text g.0 g.1) (subst (λ (r : List ℕ). Gap g.0.1 r) (empty_is (skip_blanks g.0.1) c.0) (gap_found g.0.1)))

  declared_again : {text g tail : List ℕ} → IriAt text g tail → Gap tail [] → declared_at text ≡ Some (Graph (term.Iri g))
  unfolding declared_at
  declared_again {text} {g} {tail} at gap = rw (iri_again at, gap_is tail [] gap tt) refl

  -- ---- the whole line

  abbrev stated : Term → List ℕ → Term → Option Term → Line
  stated s p o n = Statement (record { subject = s; predicate = term.Iri p; object = o; graph = n })

  statement_found : (line : List ℕ) (said : Line) → statement_at line ≡ Some said → Says line said
  unfolding statement_at
  statement_found line said e =
      let sk : List ℕ → List ℕ = rest_of is_blank in
      let s = bind_some (subject_at (sk line)) (λ s. iri_at (sk s.1) >>= λ p. object_at (sk p.1) >>= λ o. graph_at (sk o.1) >>= λ g. after 46 g.1 >>= λ rest. cond (ends rest) (Some (stated s.0 p.0 o.0 g.0)) None) said e in
      let p = bind_some (iri_at (sk s.0.1)) (λ p. object_at (sk p.1) >>= λ o. graph_at (sk o.1) >>= λ g. after 46 g.1 >>= λ rest. cond (ends rest) (Some (stated s.0.0 p.0 o.0 g.0)) None) said s.2 in
      let o = bind_some (object_at (sk p.0.1)) (λ o. graph_at (sk o.1) >>= λ g. after 46 g.1 >>= λ rest. cond (ends rest) (Some (stated s.0.0 p.0.0 o.0 g.0)) None) said p.2 in
      let g = bind_some (graph_at (sk o.0.1)) (λ g. after 46 g.1 >>= λ rest. cond (ends rest) (Some (stated s.0.0 p.0.0 o.0.0 g.0)) None) said o.2 in
      let z = bind_some (after 46 g.0.1) (λ rest. cond (ends rest) (Some (stated s.0.0 p.0.0 o.0.0 g.0.0)) None) said g.2 in
      let c = cond_some (ends z.0) (stated s.0.0 p.0.0 o.0.0 g.0.0) said z.2 in
      let h = graph_found o.0.1 g.0 g.1 in
      subst (λ (said : Line). Says line said) c.1
      (states (gap_found line) (subject_found runs (sk line) s.0 s.1) (gap_found s.0.1) (iri_found (sk s.0.1) p.0 p.1)
      (gap_found p.0.1) (object_found runs (sk p.0.1) o.0 o.1) h.1 (subst (λ (r : List ℕ). GraphAt h.0 g.0.0 r) (after_found 46 g.0.1 z.0 z.1) h.2) (ends_found z.0 c.0))

  -- a part behind blanks is read
  subject_next : (a b c : List ℕ) (s : Term) → Gap a b → SubjectAt b s c → subject_at (rest_of is_blank a) ≡ Some (s, c)
  subject_next a b c s gap at = ap subject_at (gap_is a b gap (begins_stops b (subject_begins at))) ∙ subject_again runs at

  iri_next : (a b i c : List ℕ) → Gap a b → IriAt b i c → iri_at (rest_of is_blank a) ≡ Some (i, c)
  iri_next a b i c gap at = ap iri_at (gap_is a b gap (begins_stops b (iri_begins at))) ∙ iri_again at

  object_next : (a b c : List ℕ) (o : Term) → Gap a b → ObjectAt b o c → object_at (rest_of is_blank a) ≡ Some (o, c)
  object_next a b c o gap at = ap object_at (gap_is a b gap (begins_stops b (object_begins at))) ∙ object_again runs at

  after_stop : (i : List ℕ) → after 46 (46 ∷ i) ≡ Some i
  unfolding ascii_at
  after_stop i = refl

  statement_again : {a b c d e f g h i p : List ℕ} {s o : Term} {n : Option Term}
      → Gap a b → SubjectAt b s c → Gap c d → IriAt d p e → Gap e f → ObjectAt f o g → Gap g h → GraphAt h n (46 ∷ i) → Ends i → statement_at a ≡ Some (stated s p o n)
  unfolding statement_at
  statement_again {a} {b} {c} {d} {e} {f} {g} {h} {i} {p} {s} {o} {n} g0 s0 g1 p0 g2 o0 g3 n0 end =
      rw (subject_next a b c s g0 s0, iri_next c d p e g1 p0, object_next e f g o g2 o0, graph_again g3 n0, after_stop i, ends_again i end) refl

  line_found : (line : List ℕ) (said : Line) → line_of line ≡ Some said → IsLine line said
  unfolding line_of
  line_found line said e =
      let u = chosen (is_utf8 line) (cond (starts_with nat_eq line graph_mark) (declared_at (drop (length graph_mark) line)) (cond (ends line) (Some Nothing) (statement_at line))) said e in
      record {
        utf8 = IsUtf8-from_is_utf8 line u.0;
        says = elim (starts_with nat_eq line graph_mark) as (λ m. starts_with nat_eq line graph_mark ≡ m → cond m (declared_at (drop (length graph_mark) line)) (cond (ends line) (Some Nothing) (statement_at line)) ≡ Some said → Says line said) [
          | true ↦ λ m h. declared_found (drop (length graph_mark) line) said h line (marked line m)
          | false ↦ λ m. elim (ends line) as (λ t. ends line ≡ t → cond t (Some Nothing) (statement_at line) ≡ Some said → Says line said) [
            | true ↦ λ t h. subst (λ (s : Line). Says line s) (same_Some Nothing said h) (nothing (ends_found line t) m)
            | false ↦ λ t h. statement_found line said h
          ] refl
        ] refl u.1;
      }

  mark_again : (rest : List ℕ) → (starts_with nat_eq (graph_mark ++ rest) graph_mark ≡ true) × (drop (length graph_mark) (graph_mark ++ rest) ≡ rest)
  mark_again rest = (refl, refl)

  declares_again : (line text g tail : List ℕ) → is_utf8 line ≡ true → line ≡ graph_mark ++ text → IriAt text g tail → Gap tail [] → line_of line ≡ Some (Graph (term.Iri g))
  unfolding line_of
  declares_again line text g tail u cut at gap =
      let m : starts_with nat_eq line graph_mark ≡ true = ap (λ (t : List ℕ). starts_with nat_eq t graph_mark) cut ∙ (mark_again text).0 in
      let d : drop (length graph_mark) line ≡ text = ap (drop (length graph_mark)) cut ∙ (mark_again text).1 in
      rw (u, m) (ap declared_at d ∙ declared_again at gap)

  says_again : (line : List ℕ) (said : Line) → is_utf8 line ≡ true → Says line said → line_of line ≡ Some said
  unfolding line_of
  says_again line said u (nothing end mark) = rw (u, mark, ends_again line end) refl
  says_again line said u (declares {after = text} {g = g} {tail = tail} cut at gap) = declares_again line text g tail u cut at gap
  says_again line said u (states {a} {b} {c} {d} {e} {f} {g} {h} {i} {p} {s} {o} {n} g0 s0 g1 p0 g2 o0 g3 n0 end) =
      rw (u, no_mark a b g0 (subject_begins s0), goes_on a b g0 (subject_begins s0)) (statement_again g0 s0 g1 p0 g2 o0 g3 n0 end)

  line_again : (line : List ℕ) (said : Line) → IsLine line said → line_of line ≡ Some said
  line_again line said is = says_again line said (is_utf8-from_IsUtf8 line is.utf8) is.says

  pub lines_are_read : LinesAreRead
  lines_are_read line said = (line_found line said, line_again line said)
