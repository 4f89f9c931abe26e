-- Labels and declarations in the order of a text.
use Rattle.std.specs.Prelude.{ℕ, ◌≡◌, List, [], ◌∷◌, ◌++◌, filter_map, slice_get, Option, Some, None}
use Rattle.std.specs.List.{Contains}
use Rattle.lexer.specs.declared.token.Token.{Token}
use Rattle.lexer.specs.declared.token.Token.TheVariants as token
use Rattle.syntax_trees.specs.declared.tree.Operation.{Operation}
use Rattle.syntax_trees.specs.declared.tree.Step.{Step}
use Rattle.syntax_trees.specs.declared.tree.Step.TheVariants as step
use Rattle.names.specs.Names.{Prefixes, namespace_of}
use Rattle.names.specs.Numbers.{Labels, variables_of, label_number}
use Rattle.names.specs.Appearance.{distinct, last_iri}
use Rattle.nodes.specs.Nodes.{nodes_of_where}
use Rattle.translation.specs.Translation.{operation_with, operation_of, translated_after, translated}

abbrev pub token_label : Token → Option (List ℕ)
token_label (token.Blank l) = Some l
token_label t = None

-- the blank node labels among tokens, as often as they stand there
abbrev pub labels_in : List Token → List (List ℕ)
labels_in ts = filter_map token_label ts

-- whatever prefixes are declared, the operation is translated with a number for each label of its
-- tokens: the label's place among them, where each is taken once, at its first appearance
abbrev pub IsNumberedAsRead : List Token → Operation → Type 0
IsNumberedAsRead tokens op = (ds : Prefixes) → (ls : Labels)
    × (operation_of ds op ≡ operation_with ds (variables_of (nodes_of_where op)) ls op)
    × ((l : List ℕ) → Contains (labels_in tokens) l → slice_get (distinct (labels_in tokens)) (label_number ls l) ≡ Some l)

-- the prefixes with their IRIs that steps declare, in order
abbrev pub declarations : List Step → List (List ℕ × List ℕ)
declarations [] = []
declarations (step.Declare prefix iri ∷ steps) = (prefix, iri) ∷ declarations steps
declarations (step.Do op ∷ steps) = declarations steps

-- the operation between these steps is translated with prefixes of which each has the IRI of its
-- last declaration before it
abbrev pub HasLastDeclarations : List Step → Operation → List Step → Type 0
HasLastDeclarations before op later = (ds : Prefixes)
    × (translated (before ++ step.Do op ∷ later) ≡ translated before ++ operation_of ds op ∷ translated_after ds later)
    × ((prefix : List ℕ) → namespace_of ds prefix ≡ last_iri (declarations before) prefix)
