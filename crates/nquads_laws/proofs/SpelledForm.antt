-- What a text spells is well-formed, and has no made node.
use Rattle.std.specs.Prelude.{ℕ, ◌≢◌, IsSome}
use Rattle.std.proofs.Common.{◌≡◌, true, List, [], ◌∷◌, ◌++◌, Option, None, length, map, refl, sym, ap, ◌∙◌, subst, IsUtf8, arith}
use Rattle.std.specs.List.{list_all, flat_map, AllByRecursion}
use Rattle.std.specs.Option.{ForSome, option_to_list}
use Rattle.std.specs.Char.{to_ascii_lowercase}
use Rattle.std.specs.Cmp.Lexicographic.{pointwise}
use Rattle.std.specs.Prelude.{nat_eq, nat_lt}
use Rattle.std.proofs.lemmas.Bool.{and_parts, false≢true}
use Rattle.std.proofs.lemmas.List.Elements.{All-from_recursion}
use Rattle.sets.specs.Sets.{set_of, has}
use Rattle.sets.proofs.SetLaws.{has-set_of, sorted-set_of}
use Rattle.sets.proofs.Every.{all_weaker, all_joined, all_flat_map, all_of_flat_map, all_set_of}
use Rattle.sets.proofs.Filters.{each_weaker}
use Rattle.iris.specs.Iri.{IsIri}
use Rattle.iris.specs.Forms.{is_tag, is_label_byte, is_label}
use Rattle.datasets.specs.declared.quad.Quad.{Quad}
use Rattle.datasets.specs.Dataset.{Dataset, IsDataset, quad_order, names_of}
use Rattle.terms.specs.Vocabulary.{xsd_string, lang_string}
use Rattle.terms.specs.declared.term.Term.{Term}
use Rattle.terms.specs.declared.term.Term.TheVariants.{Iri, Literal, Blank, Made}
use Rattle.terms.specs.Term.{term_order}
use Rattle.terms.specs.TermLaws.{term_total, term_exact}
use Rattle.nquads_lines.specs.declared.stop.Line.{Line}
use Rattle.nquads_lines.specs.declared.stop.Line.TheVariants.{Nothing, Graph, Statement}
use Rattle.nquads_lines.specs.Escapes.{IriAt}
use Rattle.nquads_lines.specs.Forms.{BlankAt, LiteralAt, SubjectAt, ObjectAt}
use Rattle.nquads_lines.specs.Line.{GraphAt, Says}
use Rattle.nquads.specs.Spelled.{AreLines, stated, declared, Spells}
use Rattle.nquads_laws.specs.WellFormed.{IsTerm, IsSubject, IsIriTerm, IsQuad, IsWellFormed, terms_in, terms_of, is_written}
use Rattle.nquads_laws.proofs.Bytes.{is_ascii, inner_label, ascii_of_inner}
use Rattle.nquads_laws.proofs.Pieces.{utf8_ascii}
use Rattle.nquads_laws.proofs.Utf8Parts.{past, past_all, past_gap, past_iri, string_parts}
use Rattle.nquads_laws.proofs.Members.{all_members, among}
use Rattle.nquads_laws.proofs.LineTexts.{subject_is_term}
use Rattle.nquads_laws.proofs.SpelledAgain.{quads_total, quads_said, names_said, stated-is, declared-is, names_of-is}

-- ---- terms

iri_is : {text i rest : List ℕ} → IriAt text i rest → IsIri i
iri_is (IriAt.iri at is) = is

label_ascii : (b : ℕ) → is_label_byte b ≡ true → is_ascii b ≡ true
label_ascii b e = ascii_of_inner b (inner_label b e)

blank_is : {text label rest : List ℕ} → BlankAt text label rest → IsUtf8 text → (is_label label ≡ true) × IsUtf8 rest
blank_is (BlankAt.blank {label} {rest} e stops) u =
    let bytes = (and_parts (nat_lt 0 (length label)) (list_all is_label_byte label) e).1 in
    (e, past_all label rest (each_weaker is_label_byte is_ascii label_ascii label bytes) (past 58 (label ++ rest) (omega arith) (past 95 (58 ∷ (label ++ rest)) (omega arith) u)))

record IsWrittenSubject (t : Term) (rest : List ℕ) : Type 0 where
  subject : IsSubject t
  written : is_written t ≡ true
  behind : IsUtf8 rest

subject_is : {text rest : List ℕ} {t : Term} → SubjectAt text t rest → IsUtf8 text → IsWrittenSubject t rest
subject_is (SubjectAt.iri at) u = record { subject = iri_is at; written = refl; behind = past_iri at u }
subject_is (SubjectAt.blank at) u = let h = blank_is at u in record { subject = h.0; written = refl; behind = h.1 }

string_iri : IsIri xsd_string
string_iri = record { utf8 = utf8_ascii xsd_string refl; form = refl }

lang_iri : IsIri lang_string
lang_iri = record { utf8 = utf8_ascii lang_string refl; form = refl }

string_no_lang : xsd_string ≢ lang_string
string_no_lang e = false≢true (ap (λ (d : List ℕ). pointwise nat_eq d xsd_string) (sym e))

no_tag : {A : Type 0} → IsSome {T = List ℕ} None → A
no_tag e = absurd (false≢true e)

literal_is : {text rest : List ℕ} {t : Term} → LiteralAt text t rest → IsUtf8 text → IsTerm t × (is_written t ≡ true)
literal_is (LiteralAt.simple {text} at stops) u =
    let h = string_parts [] at (past 34 text (omega arith) u) in
    (record { lexical = h.0; datatype = string_iri; tag = λ t e. absurd cc; tagged = (λ e. no_tag e, λ e. absurd (string_no_lang e)) }, refl)
literal_is (LiteralAt.typed {text} at datatype other) u =
    let h = string_parts [] at (past 34 text (omega arith) u) in
    (record { lexical = h.0; datatype = iri_is datatype; tag = λ t e. absurd cc; tagged = (λ e. no_tag e, λ e. absurd (other e)) }, refl)
literal_is (LiteralAt.tagged tag {text} at e stops) u =
    let h = string_parts [] at (past 34 text (omega arith) u) in
    let low : List ℕ = map to_ascii_lowercase tag in (
      record {
        lexical = h.0;
        datatype = lang_iri;
        tag = λ t same. subst (λ (t : List ℕ). is_tag t ≡ true) (let so : low ≡ t = cc in so) e;
        tagged = (λ _. refl, λ _. refl);
      },
      refl,
    )

object_is : {text rest : List ℕ} {t : Term} → ObjectAt text t rest → IsUtf8 text → IsTerm t × (is_written t ≡ true)
object_is (ObjectAt.subject {x = t} at) u = let h = subject_is at u in (subject_is_term t h.subject, h.written)
object_is (ObjectAt.value at) u = literal_is at u

record IsWrittenGraph (n : Option Term) : Type 0 where
  iris : ForSome n IsIriTerm
  each : AllByRecursion IsIriTerm (option_to_list n)
  written : AllByRecursion (λ t. is_written t ≡ true) (option_to_list n)

graph_is : {text rest : List ℕ} {n : Option Term} → GraphAt text n rest → IsWrittenGraph n
graph_is GraphAt.default_graph = record { iris = λ t e. absurd cc; each = tt; written = tt }
graph_is (GraphAt.named {g} at gap) = record {
  iris = λ t e. subst IsIriTerm (let same : Iri g ≡ t = cc in same) (iri_is at);
  each = (iri_is at, tt);
  written = (refl, tt);
}

-- ---- lines

record IsWrittenQuad (q : Quad Term) : Type 0 where
  quad : IsQuad q
  names : AllByRecursion IsIriTerm (option_to_list q.graph)
  written : AllByRecursion (λ t. is_written t ≡ true) (terms_in q)

record Forms (said : Line) : Type 0 where
  quads : AllByRecursion IsWrittenQuad (quads_said said)
  names : AllByRecursion IsIriTerm (names_said said)

line_forms : (line : List ℕ) (said : Line) → IsUtf8 line → Says line said → Forms said
line_forms line said u (Says.nothing end mark) = record { quads = tt; names = tt }
line_forms line said u (Says.declares same at gap) = record { quads = tt; names = (iri_is at, tt) }
line_forms line said u (Says.states {a} {b} {c} {d} {e} {f} {g} {h} {i} {p} {s} {o} {n} g0 subject g1 predicate g2 object g3 graph end) =
    let first = subject_is subject (past_gap a b g0 u) in
    let second : IsUtf8 e = past_iri predicate (past_gap c d g1 first.behind) in
    let third = object_is object (past_gap e f g2 second) in
    let last = graph_is graph in
    record {
      quads = (
        record {
          quad = record { subject = first.subject; predicate = iri_is predicate; object = third.0; graph = last.iris };
          names = last.each;
          written = (first.written, (refl, (third.1, last.written)));
        },
        tt,
      );
      names = last.each;
    }

lines_forms : {ls : List (List ℕ)} {said : List Line} → AreLines ls said → AllByRecursion Forms said
lines_forms AreLines.none = tt
lines_forms (AreLines.more {line} {said} is others) = (line_forms line said is.utf8 is.says, lines_forms others)

-- ---- datasets

stated_forms : (said : List Line) → AllByRecursion Forms said → AllByRecursion IsWrittenQuad (stated said)
stated_forms said each =
    subst (AllByRecursion IsWrittenQuad) (sym (stated-is said))
    (all_flat_map IsWrittenQuad quads_said said (all_weaker Forms (λ l. AllByRecursion IsWrittenQuad (quads_said l)) (λ l f. f.quads) said each))

declared_forms : (said : List Line) → AllByRecursion Forms said → AllByRecursion IsIriTerm (declared said)
declared_forms said each =
    subst (AllByRecursion IsIriTerm) (sym (declared-is said))
    (all_flat_map IsIriTerm names_said said (all_weaker Forms (λ l. AllByRecursion IsIriTerm (names_said l)) (λ l f. f.names) said each))

-- a line declares the names of its quads' graphs
line_declares : (P : Term → Type 0) (said : Line) → AllByRecursion P (names_said said) → AllByRecursion (λ q. AllByRecursion P (option_to_list q.graph)) (quads_said said)
line_declares P Nothing each = tt
line_declares P (Graph g) each = tt
line_declares P (Statement q) each = (each, tt)

stated_declare : (P : Term → Type 0) (said : List Line) → AllByRecursion P (declared said) → AllByRecursion (λ q. AllByRecursion P (option_to_list q.graph)) (stated said)
stated_declare P said each =
    subst (AllByRecursion (λ q. AllByRecursion P (option_to_list q.graph))) (sym (stated-is said))
    (all_flat_map (λ q. AllByRecursion P (option_to_list q.graph)) quads_said said
    (all_weaker (λ l. AllByRecursion P (names_said l)) (λ l. AllByRecursion (λ q. AllByRecursion P (option_to_list q.graph)) (quads_said l)) (line_declares P) said
    (all_of_flat_map P names_said said (subst (AllByRecursion P) (declared-is said) each))))

-- the names of a set's quads
set_names : (P : Term → Type 0) (quads : List (Quad Term)) → AllByRecursion (λ q. AllByRecursion P (option_to_list q.graph)) quads → AllByRecursion P (names_of (set_of (quad_order term_order) quads))
set_names P quads each =
    subst (AllByRecursion P) (sym (names_of-is (set_of (quad_order term_order) quads)))
    (all_flat_map P (λ q. option_to_list q.graph) (set_of (quad_order term_order) quads)
    (all_set_of (λ q. AllByRecursion P (option_to_list q.graph)) (quad_order term_order) quads each))

said_dataset : (said : List Line) → IsDataset term_order (record { quads = set_of (quad_order term_order) (stated said); names = set_of term_order (declared said) })
said_dataset said = record {
  quads = sorted-set_of quads_total (stated said);
  names = sorted-set_of term_total (declared said);
  named = λ g e. has-set_of term_total g (declared said)
      ∙ among term_total (declared said) (names_of (set_of (quad_order term_order) (stated said))) g
      (set_names (λ t. has term_order (declared said) t ≡ true) (stated said)
      (stated_declare (λ t. has term_order (declared said) t ≡ true) said (all_members term_total term_exact (declared said)))) e;
}

dataset_is : (text : List ℕ) (d : Dataset Term) (is : Spells text d) → record { quads = set_of (quad_order term_order) (stated is.said); names = set_of term_order (declared is.said) } ≡ d
dataset_is text d is = λ i. record { quads = sym is.quads i; names = sym is.names i }

set_quads : (text : List ℕ) (d : Dataset Term) → Spells text d → AllByRecursion IsWrittenQuad d.quads
set_quads text d is =
    subst (AllByRecursion IsWrittenQuad) (sym is.quads) (all_set_of IsWrittenQuad (quad_order term_order) (stated is.said) (stated_forms is.said (lines_forms is.each)))

set_graphs : (text : List ℕ) (d : Dataset Term) → Spells text d → AllByRecursion IsIriTerm d.names
set_graphs text d is = subst (AllByRecursion IsIriTerm) (sym is.names) (all_set_of IsIriTerm term_order (declared is.said) (declared_forms is.said (lines_forms is.each)))

pub spelled_is_well_formed : (text : List ℕ) (d : Dataset Term) → Spells text d → IsWellFormed d
spelled_is_well_formed text d is = record {
  quads = All-from_recursion IsQuad d.quads (all_weaker IsWrittenQuad IsQuad (λ q w. w.quad) d.quads (set_quads text d is));
  names = All-from_recursion IsIriTerm d.names (set_graphs text d is);
  dataset = subst (IsDataset term_order) (dataset_is text d is) (said_dataset is.said);
}

iri_written : (t : Term) → IsIriTerm t → is_written t ≡ true
iri_written (Iri i) is = refl
iri_written (Literal l) is = absurd is
iri_written (Blank b) is = absurd is
iri_written (Made r o l s) is = absurd is

pub spelled_is_written : (text : List ℕ) (d : Dataset Term) → Spells text d → AllByRecursion (λ t. is_written t ≡ true) (terms_of d)
spelled_is_written text d is =
    all_joined (λ t. is_written t ≡ true) (flat_map terms_in d.quads) d.names
    (all_flat_map (λ t. is_written t ≡ true) terms_in d.quads
    (all_weaker IsWrittenQuad (λ q. AllByRecursion (λ t. is_written t ≡ true) (terms_in q)) (λ q w. w.written) d.quads (set_quads text d is)))
    (all_weaker IsIriTerm (λ t. is_written t ≡ true) iri_written d.names (set_graphs text d is))
