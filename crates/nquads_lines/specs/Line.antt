-- What one line says (RDF 1.1 N-Quads, productions 1 and 2; that a comment `#@graph <iri>` declares
-- a graph is this project's).
use Rattle.std.specs.Prelude.{ℕ, ◌≡◌, ◌==◌, ◌||◌, Bool, true, List, [], ◌∷◌, ◌++◌, Option, Some, None, IsUtf8, codes, false, nat_eq}
use Rattle.std.specs.List.{list_all, starts_with}
use Rattle.terms.specs.declared.term.Term.{Term}
use Rattle.terms.specs.declared.term.Term.TheVariants as term
use Rattle.nquads_lines.specs.Escapes.{IriAt}
use Rattle.nquads_lines.specs.Forms.{SubjectAt, ObjectAt}
use Rattle.nquads_lines.specs.declared.stop.Line.{Line}
use Rattle.nquads_lines.specs.declared.stop.Line.TheVariants.{Nothing, Graph, Statement}

abbrev pub is_blank : ℕ → Bool
is_blank b = (b == 32) || (b == 9)

-- spaces and tabs, maybe none
pub record Gap (text rest : List ℕ) : Type 0 where
  pub blanks : List ℕ
  pub cut : text ≡ blanks ++ rest
  pub each : list_all is_blank blanks ≡ true

-- nothing more but blanks and a comment
pub data Ends : List ℕ → Type 0 where
  at_end : {text : List ℕ} → Gap text [] → Ends text
  at_comment : {text comment : List ℕ} → Gap text (35 ∷ comment) → Ends text

-- the beginning of a line that declares a graph
abbrev pub graph_mark : List ℕ
graph_mark = codes "#@graph "

-- the graph of a statement, if it names one
pub data GraphAt : List ℕ → Option Term → List ℕ → Type 0 where
  default_graph : {text : List ℕ} → GraphAt text None text
  named : {text after g rest : List ℕ} → IriAt text g after → Gap after rest → GraphAt text (Some (term.Iri g)) rest

pub data Says : List ℕ → Line → Type 0 where
  nothing : {line : List ℕ} → Ends line → starts_with nat_eq line graph_mark ≡ false → Says line Nothing
  declares : {line after g tail : List ℕ} → line ≡ graph_mark ++ after → IriAt after g tail → Gap tail [] → Says line (Graph (term.Iri g))
  states : {a b c d e f g h i p : List ℕ} {s o : Term} {n : Option Term}
      → Gap a b → SubjectAt b s c → Gap c d → IriAt d p e → Gap e f → ObjectAt f o g → Gap g h → GraphAt h n (46 ∷ i) → Ends i
      → Says a (Statement (record { subject = s; predicate = term.Iri p; object = o; graph = n }))

-- a line is text, and says this
pub record IsLine (line : List ℕ) (said : Line) : Type 0 where
  pub utf8 : IsUtf8 line
  pub says : Says line said
