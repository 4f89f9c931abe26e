-- What was read is written again; one text is of one dataset.
use Rattle.std.specs.Prelude.{ℕ, map}
use Rattle.std.proofs.Common.{◌≡◌, true, List, [], ◌∷◌, ◌++◌, Option, Some, None, refl, ap, ◌∙◌, subst}
use Rattle.std.specs.List.{list_all, flat_map, AllByRecursion}
use Rattle.std.specs.Option.{option_map, option_to_list}
use Rattle.sets.specs.Sets.{set_of}
use Rattle.sets.proofs.SetLaws.{set_of-set}
use Rattle.sets.proofs.Every.{all_front, all_back, all_of_flat_map}
use Rattle.datasets.specs.declared.quad.Quad.{Quad}
use Rattle.datasets.specs.Dataset.{Dataset, quad_order}
use Rattle.terms.specs.declared.term.Term.{Term}
use Rattle.terms.specs.declared.term.Term.TheVariants.{Iri, Literal, Blank, Made}
use Rattle.terms.specs.Term.{term_order}
use Rattle.terms.specs.TermLaws.{term_total, term_exact}
use Rattle.nquads_lines.specs.Lines.{lines, is_inner}
use Rattle.nquads.specs.Spelled.{Spells}
use Rattle.canonical_nquads.specs.Canonical.{canonical}
use Rattle.nquads_laws.specs.WellFormed.{IsWellFormed, terms_in, terms_of, is_written}
use Rattle.nquads_laws.specs.Named.{named_term, named_quad, named}
use Rattle.nquads_laws.proofs.SpelledAgain.{quads_total, quads_exact, spelled_again}
use Rattle.nquads_laws.proofs.SpelledForm.{spelled_is_well_formed, spelled_is_written}

-- ---- what is written has its own names

abbrev IsWritten : Term → Type 0
IsWritten t = is_written t ≡ true

written_same : (tag : ℕ) (t : Term) → IsWritten t → named_term tag t ≡ t
written_same tag (Iri i) e = refl
written_same tag (Literal l) e = refl
written_same tag (Blank b) e = refl
written_same tag (Made r o l s) e = absurd cc

graph_same : (tag : ℕ) (g : Option Term) → AllByRecursion IsWritten (option_to_list g) → option_map (named_term tag) g ≡ g
graph_same tag None each = refl
graph_same tag (Some t) each = ap (λ (t : Term). Some t) (written_same tag t each.0)

quad_same : (tag : ℕ) (q : Quad Term) → AllByRecursion IsWritten (terms_in q) → named_quad tag q ≡ q
quad_same tag q each =
    let s = written_same tag q.subject each.0 in
    let p = written_same tag q.predicate each.1.0 in
    let o = written_same tag q.object each.1.1.0 in
    let g = graph_same tag q.graph each.1.1.1 in
    λ i. record { subject = s i; predicate = p i; object = o i; graph = g i }

same_map : {A : Type 0} (f : A → A) (P : A → Type 0) → ((x : A) → P x → f x ≡ x) → (xs : List A) → AllByRecursion P xs → map f xs ≡ xs
same_map f P same [] each = refl
same_map f P same (x ∷ xs) each = let first = same x each.0 in let rest = same_map f P same xs each.1 in λ i. first i ∷ rest i

written_named : (d : Dataset Term) (tag : ℕ) → IsWellFormed d → AllByRecursion IsWritten (terms_of d) → named d tag ≡ d
written_named d tag is each =
    let quads = all_of_flat_map IsWritten terms_in d.quads (all_front IsWritten (flat_map terms_in d.quads) d.names each) in
    let names = all_back IsWritten (flat_map terms_in d.quads) d.names each in
    let rising = is.dataset in
    let p : set_of (quad_order term_order) (map (named_quad tag) d.quads) ≡ d.quads =
    ap (set_of (quad_order term_order)) (same_map (named_quad tag) (λ q. AllByRecursion IsWritten (terms_in q)) (quad_same tag) d.quads quads) ∙ set_of-set quads_total quads_exact d.quads rising.quads in
    let n : set_of term_order (map (named_term tag) d.names) ≡ d.names =
    ap (set_of term_order) (same_map (named_term tag) IsWritten (written_same tag) d.names names) ∙ set_of-set term_total term_exact d.names rising.names in
    λ i. record { quads = p i; names = n i }

-- ---- by the laws of lines and of one dataset

module _
    (ended_first : (line rest : List ℕ) → list_all is_inner line ≡ true → lines (line ++ 10 ∷ rest) ≡ line ∷ lines rest)
    (one_dataset : (text : List ℕ) (d e : Dataset Term) → Spells text d → Spells text e → d ≡ e) where
  pub again : (text : List ℕ) (d : Dataset Term) (tag : ℕ) → Spells text d → Spells (canonical d tag) d
  again text d tag is =
      let formed = spelled_is_well_formed text d is in
      subst (Spells (canonical d tag)) (written_named d tag formed (spelled_is_written text d is)) (spelled_again ended_first one_dataset d tag formed)

  pub differ : (d e : Dataset Term) (tag other : ℕ) → IsWellFormed d → IsWellFormed e → canonical d tag ≡ canonical e other → named d tag ≡ named e other
  differ d e tag other p q same =
      one_dataset (canonical e other) (named d tag) (named e other)
      (subst (λ (text : List ℕ). Spells text (named d tag)) same (spelled_again ended_first one_dataset d tag p)) (spelled_again ended_first one_dataset e other q)
