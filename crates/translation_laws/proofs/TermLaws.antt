-- The terms that names and literals are, where these have the parts of tokens: they are in their
-- forms.
use Rattle.std.proofs.Common.{◌≡◌, ℕ, ◌<◌, Bool, true, false, cond, List, [], ◌∷◌, ◌++◌, Option, Some, None, unwrap_or, refl, sym, ap, ◌∙◌, subst}
use Rattle.std.specs.Prelude.{IfSome, All, IsUtf8, bytes_eq, is_none, nat_lt}
use Rattle.std.specs.Option.{option_map}
use Rattle.std.specs.List.{AllByRecursion, list_all}
use Rattle.std.specs.BTreeMap.{is_at}
use Rattle.std.specs.Map.{values_of}
use Rattle.std.proofs.lemmas.Bool.{false≢true, and_parts, ltb-true}
use Rattle.std.proofs.lemmas.Str.{IsUtf8-from_ascii}
use Rattle.std.proofs.lemmas.Str.Ascii.{IsAscii-from_all}
use Rattle.std.proofs.lemmas.List.Elements.{All-from_recursion}
use Rattle.std.proofs.lemmas.Map.Views.{All-values-insert_entry, IfSome-lookup_from_All}
use Rattle.iris.specs.Iri.{is_digit, IsIri}
use Rattle.iris.specs.Forms.{is_tag}
use Rattle.iris.proofs.ByteLaws.{digit_small}
use Rattle.lexer.specs.Names.{AreDigits}
use Rattle.lexer.proofs.IriLaws.{iri_with_local}
use Rattle.terms.specs.Literal.{LiteralValue, IsLiteral}
use Rattle.terms.specs.Vocabulary.{xsd_string, lang_string, rdf_type, xsd_integer, xsd_boolean}
use Rattle.terms.specs.Term.{text_cmp}
use Rattle.terms.specs.declared.term.Term.{Term}
use Rattle.terms.specs.declared.term.Term.TheVariants as term
use Rattle.syntax_trees.specs.declared.tree.Name.{Name}
use Rattle.syntax_trees.specs.declared.tree.Name.TheVariants as name
use Rattle.syntax_trees.specs.declared.tree.Literal.{Literal}
use Rattle.syntax_trees.specs.declared.tree.Literal.TheVariants as literal
use Rattle.syntax_trees.specs.declared.tree.Node.{Node}
use Rattle.syntax_trees.specs.declared.tree.Node.TheVariants as node
use Rattle.names.specs.Names.{Prefixes, declare, namespace_of, iri_of, literal_of, truth, name_term, no_term, is_lang_iri, typed_literal}
use Rattle.faults.specs.Faults.{is_lang_literal, is_lang_node, is_undeclared, is_undeclared_literal, is_undeclared_node}
use Rattle.nquads_laws.specs.WellFormed.{IsTerm, IsIriTerm}
use Rattle.translation_laws.specs.Written.{is_name_or_literal}
use Rattle.translation_laws.proofs.PartLaws.{NameParts, LiteralParts, NodeParts}

-- an IRI or a literal, in its form
abbrev pub IsWritten : Term → Type 0
IsWritten t = (is_name_or_literal t ≡ true) × IsTerm t

abbrev pub IsAny : ℕ → Type 0
IsAny v = Unit {0}

pub iri_written : (t : Term) → IsIriTerm t → IsWritten t
iri_written (term.Iri i) h = (refl, h)
iri_written (term.Literal l) h = absurd h
iri_written (term.Blank b) h = absurd h
iri_written (term.Made r o l s) h = absurd h

small : (bs : List ℕ) → list_all (λ b. nat_lt b 128) bs ≡ true → AllByRecursion (λ b. b < 128) bs
small [] e = tt
small (b ∷ bs) e = let h = and_parts (nat_lt b 128) (list_all (λ b. nat_lt b 128) bs) e in (ltb-true b 128 h.0, small bs h.1)

small_utf8 : (bs : List ℕ) → AllByRecursion (λ b. b < 128) bs → IsUtf8 bs
small_utf8 bs h = IsUtf8-from_ascii bs (IsAscii-from_all bs (All-from_recursion (λ b. b < 128) bs h))

ascii_utf8 : (bs : List ℕ) → list_all (λ b. nat_lt b 128) bs ≡ true → IsUtf8 bs
ascii_utf8 bs e = small_utf8 bs (small bs e)

pub type_written : IsWritten (term.Iri rdf_type)
type_written = (refl, record { utf8 = ascii_utf8 rdf_type refl; form = refl })

-- ---- names

-- what the prefixes are declared as
abbrev pub AreIris : Prefixes → Type 0
AreIris ds = All IsIri (values_of ds)

pub no_iris : AreIris []
no_iris = All-from_recursion IsIri [] tt

pub declared_iris : (p i : List ℕ) (ds : Prefixes) → AreIris ds → IsIri i → AreIris (declare p i ds)
declared_iris p i ds iris h = All-values-insert_entry text_cmp p i IsIri ds iris h

iri_formed : (ds : Prefixes) (n : Name) → AreIris ds → NameParts n → IfSome (iri_of ds n) IsIri
iri_formed ds (name.Iri i) iris h = h
iri_formed ds (name.Prefixed p l) iris h = at (namespace_of ds p) (IfSome-lookup_from_All IsIri (is_at (text_cmp p)) ds iris)
  where
    at : (o : Option (List ℕ)) → IfSome o IsIri → IfSome (option_map (λ namespace. namespace ++ l) o) IsIri
    at None k = tt
    at (Some namespace) k = iri_with_local namespace l k h

name_formed : (ds : Prefixes) (n : Name) → AreIris ds → NameParts n → is_undeclared ds n ≡ false → IsIriTerm (name_term ds n)
name_formed ds n iris h e = at (iri_of ds n) (iri_formed ds n iris h) e
  where
    at : (o : Option (List ℕ)) → IfSome o IsIri → is_none o ≡ false → IsIriTerm (unwrap_or (option_map term.Iri o) no_term)
    at None k e = absurd (false≢true (sym e))
    at (Some i) k e = k

-- ---- literals

untagged : (text datatype : List ℕ) → IsUtf8 text → IsIri datatype → bytes_eq datatype lang_string ≡ false → IsLiteral (record { lexical = text; datatype = datatype; tag = None })
untagged text datatype utf8 iri e = record {
  lexical = utf8;
  datatype = iri;
  tag = λ t none. absurd cc;
  tagged = (λ none. absurd (false≢true none), λ same. absurd (false≢true (sym e ∙ ap (λ d. bytes_eq d lang_string) same)));
}

tagged : (text tag : List ℕ) → IsUtf8 text → is_tag tag ≡ true → IsLiteral (record { lexical = text; datatype = lang_string; tag = Some tag })
tagged text tag utf8 h = record {
  lexical = utf8;
  datatype = record { utf8 = ascii_utf8 lang_string refl; form = refl };
  tag = λ t same. subst (λ u. is_tag u ≡ true) (ap (λ o. unwrap_or o tag) same) h;
  tagged = (λ some. refl, λ same. refl);
}

string_iri : IsIri xsd_string
string_iri = record { utf8 = ascii_utf8 xsd_string refl; form = refl }

integer_iri : IsIri xsd_integer
integer_iri = record { utf8 = ascii_utf8 xsd_integer refl; form = refl }

boolean_iri : IsIri xsd_boolean
boolean_iri = record { utf8 = ascii_utf8 xsd_boolean refl; form = refl }

digits_small : (n : List ℕ) → list_all is_digit n ≡ true → AllByRecursion (λ b. b < 128) n
digits_small [] e = tt
digits_small (b ∷ bs) e = let h = and_parts (is_digit b) (list_all is_digit bs) e in (digit_small b h.0, digits_small bs h.1)

digits_utf8 : (n : List ℕ) → AreDigits n → IsUtf8 n
digits_utf8 [] h = absurd h
digits_utf8 (b ∷ bs) h = small_utf8 (b ∷ bs) (digits_small (b ∷ bs) h)

truth_utf8 : (b : Bool) → IsUtf8 (truth b)
truth_utf8 true = ascii_utf8 (truth true) refl
truth_utf8 false = ascii_utf8 (truth false) refl

abbrev literal_term : Option LiteralValue → Term
literal_term o = unwrap_or (option_map term.Literal o) no_term

typed_written : (text : List ℕ) (o : Option (List ℕ)) → IsUtf8 text → IfSome o IsIri → is_lang_iri o ≡ false → is_none o ≡ false → IsWritten (literal_term (typed_literal text o))
typed_written text None utf8 iri l u = absurd (false≢true (sym u))
typed_written text (Some datatype) utf8 iri l u = at (bytes_eq datatype lang_string) refl l
  where
    at : (b : Bool) → bytes_eq datatype lang_string ≡ b → b ≡ false → IsWritten (literal_term (cond b None (Some (record { lexical = text; datatype = datatype; tag = None }))))
    at true is e = absurd (false≢true (sym e))
    at false is e = (refl, untagged text datatype utf8 iri is)

literal_written : (ds : Prefixes) (l : Literal) → AreIris ds → LiteralParts l → is_lang_literal ds l ≡ false → is_undeclared_literal ds l ≡ false → IsWritten (literal_term (literal_of ds l))
literal_written ds (literal.Plain text) iris h e u = (refl, untagged text xsd_string h string_iri refl)
literal_written ds (literal.Tagged text tag) iris h e u = (refl, tagged text tag h.0 h.1)
literal_written ds (literal.Typed text n) iris h e u = typed_written text (iri_of ds n) h.0 (iri_formed ds n iris h.1) e u
literal_written ds (literal.Integer digits) iris h e u = (refl, untagged digits xsd_integer (digits_utf8 digits h) integer_iri refl)
literal_written ds (literal.Boolean b) iris h e u = (refl, untagged (truth b) xsd_boolean (truth_utf8 b) boolean_iri refl)

-- ---- nodes

-- the term of a node is what its kind may be
abbrev pub IsFine : Prefixes → Node → Type 0
IsFine ds (node.Name n) = IsIriTerm (name_term ds n)
IsFine ds node.Type = Unit {0}
IsFine ds (node.Variable v) = Unit {0}
IsFine ds (node.Blank l) = Unit {0}
IsFine ds (node.Literal l) = IsWritten (literal_term (literal_of ds l))

node_fine : (ds : Prefixes) (n : Node) → AreIris ds → NodeParts n → is_lang_node ds n ≡ false → is_undeclared_node ds n ≡ false → IsFine ds n
node_fine ds (node.Name n) iris h l u = name_formed ds n iris h u
node_fine ds node.Type iris h l u = tt
node_fine ds (node.Variable v) iris h l u = tt
node_fine ds (node.Blank b) iris h l u = tt
node_fine ds (node.Literal x) iris h l u = literal_written ds x iris h l u

pub nodes_fine : (ds : Prefixes) → AreIris ds → (ns : List Node) → AllByRecursion NodeParts ns → AllByRecursion (λ n. is_lang_node ds n ≡ false) ns
    → AllByRecursion (λ n. is_undeclared_node ds n ≡ false) ns → AllByRecursion (IsFine ds) ns
nodes_fine ds iris [] h l u = tt
nodes_fine ds iris (n ∷ ns) h l u = (node_fine ds n iris h.0 l.0 u.0, nodes_fine ds iris ns h.1 l.1 u.1)
