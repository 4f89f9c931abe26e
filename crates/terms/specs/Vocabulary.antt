-- IRIs of RDF's and XML Schema's vocabularies (RDF 1.1 Concepts, sections 1.4 and 5).
use Rattle.std.specs.Prelude.{ℕ, List, codes}

-- the predicate that the keyword `a` stands for
abbrev pub rdf_type : List ℕ
rdf_type = codes "http://www.w3.org/1999/02/22-rdf-syntax-ns#type"

-- the datatype of literals with a language tag
abbrev pub lang_string : List ℕ
lang_string = codes "http://www.w3.org/1999/02/22-rdf-syntax-ns#langString"

-- the datatypes of literals that say none, of integers and of truth values
abbrev pub xsd_string : List ℕ
xsd_string = codes "http://www.w3.org/2001/XMLSchema#string"

abbrev pub xsd_integer : List ℕ
xsd_integer = codes "http://www.w3.org/2001/XMLSchema#integer"

abbrev pub xsd_boolean : List ℕ
xsd_boolean = codes "http://www.w3.org/2001/XMLSchema#boolean"
