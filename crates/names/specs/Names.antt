-- What names and literals mean (SPARQL 1.1 Query, 4.1.1: a prefixed name is the IRI of its prefix
-- and its local part, one after the other; 4.1.2: literals; 4.2.4: `a` is rdf:type).
use Rattle.std.specs.Prelude.{ℕ, Bool, true, false, List, ◌++◌, Option, Some, None, bytes_eq, codes, unwrap_or, if◌then◌else◌}
use Rattle.std.specs.Option.{option_map}
use Rattle.std.specs.BTreeMap.{insert_entry, is_at}
use Rattle.std.specs.Map.{lookup}
use Rattle.terms.specs.Literal.{LiteralValue}
use Rattle.terms.specs.Vocabulary.{rdf_type, xsd_string, xsd_integer, xsd_boolean, lang_string}
use Rattle.terms.specs.Term.{text_cmp}
use Rattle.terms.specs.declared.term.Term.{Term}
use Rattle.terms.specs.declared.term.Term.TheVariants as term
use Rattle.syntax_trees.specs.declared.tree.Name.{Name}
use Rattle.syntax_trees.specs.declared.tree.Name.TheVariants as name
use Rattle.syntax_trees.specs.declared.tree.Literal.{Literal}
use Rattle.syntax_trees.specs.declared.tree.Literal.TheVariants as literal
use Rattle.syntax_trees.specs.declared.tree.Node.{Node}
use Rattle.syntax_trees.specs.declared.tree.Node.TheVariants as node

-- the declared prefixes in the order of their bytes, each with its IRI
abbrev pub Prefixes : Type 0
Prefixes = List (List ℕ × List ℕ)

-- a later declaration of a prefix takes the place of an earlier one
abbrev pub declare : List ℕ → List ℕ → Prefixes → Prefixes
declare prefix iri ds = insert_entry text_cmp ds prefix iri

-- the IRI of a prefix, if it is declared
abbrev pub namespace_of : Prefixes → List ℕ → Option (List ℕ)
namespace_of ds prefix = lookup (is_at (text_cmp prefix)) ds

-- the IRI of a name, if its prefix is declared
abbrev pub iri_of : Prefixes → Name → Option (List ℕ)
iri_of ds (name.Iri i) = Some i
iri_of ds (name.Prefixed p l) = option_map (λ namespace. namespace ++ l) (namespace_of ds p)

-- the IRI is rdf:langString; a name whose prefix isn't declared has none
abbrev pub is_lang_iri : Option (List ℕ) → Bool
is_lang_iri None = false
is_lang_iri (Some iri) = bytes_eq iri lang_string

-- the literal of these parts: a tag and the datatype rdf:langString stand together
abbrev pub literal_from : List ℕ → List ℕ → Option (List ℕ) → Option LiteralValue
literal_from text datatype None = if bytes_eq datatype lang_string then None else Some (record { lexical = text; datatype = datatype; tag = None })
literal_from text datatype (Some tag) = if bytes_eq datatype lang_string then Some (record { lexical = text; datatype = datatype; tag = Some tag }) else None

abbrev pub typed_literal : List ℕ → Option (List ℕ) → Option LiteralValue
typed_literal text None = None
typed_literal text (Some datatype) = literal_from text datatype None

abbrev pub truth : Bool → List ℕ
truth true = codes "true"
truth false = codes "false"

-- the literal that is written so: a string alone is an xsd:string, digits are an xsd:integer, a
-- boolean an xsd:boolean
abbrev pub literal_of : Prefixes → Literal → Option LiteralValue
literal_of ds (literal.Plain text) = literal_from text xsd_string None
literal_of ds (literal.Tagged text tag) = literal_from text lang_string (Some tag)
literal_of ds (literal.Typed text n) = typed_literal text (iri_of ds n)
literal_of ds (literal.Integer digits) = literal_from digits xsd_integer None
literal_of ds (literal.Boolean b) = literal_from (truth b) xsd_boolean None

-- stands where there is no term; a request that has such a place is refused
abbrev pub no_term : Term
no_term = term.Made 0 0 0 0

-- the term that a name is, and the term that a node is
abbrev pub name_term : Prefixes → Name → Term
name_term ds n = unwrap_or (option_map term.Iri (iri_of ds n)) no_term

abbrev pub term_of : Prefixes → Node → Term
term_of ds (node.Name n) = name_term ds n
term_of ds node.Type = term.Iri rdf_type
term_of ds (node.Variable v) = no_term
term_of ds (node.Blank l) = no_term
term_of ds (node.Literal l) = unwrap_or (option_map term.Literal (literal_of ds l)) no_term
