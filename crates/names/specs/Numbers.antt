-- The numbers of variables and of blank node labels.
use Rattle.std.specs.Prelude.{ℕ, suc, Bool, List, [], ◌∷◌, length, Option, Some, None, is_some, unwrap_or, filter_map, if◌then◌else◌}
use Rattle.std.specs.BTreeMap.{insert_entry, is_at}
use Rattle.std.specs.Map.{lookup}
use Rattle.sets.specs.Sets.{set_of}
use Rattle.terms.specs.Term.{text_cmp}
use Rattle.syntax_trees.specs.declared.tree.Node.{Node}
use Rattle.syntax_trees.specs.declared.tree.Node.TheVariants as node

-- ---- variables

abbrev pub variable_of : Node → Option (List ℕ)
variable_of (node.Name n) = None
variable_of node.Type = None
variable_of (node.Variable v) = Some v
variable_of (node.Blank l) = None
variable_of (node.Literal l) = None

-- the variables among nodes, each once and in the order of their bytes
abbrev pub variables_of : List Node → List (List ℕ)
variables_of ns = set_of text_cmp (filter_map variable_of ns)

-- the number of a variable: its place among the variables of WHERE; one that isn't there has the
-- number after these, and is never bound
abbrev pub number_of : List (List ℕ) → List ℕ → ℕ
number_of [] v = 0
number_of (w ∷ ws) v = if is_at (text_cmp v) w then 0 else suc (number_of ws v)

-- ---- labels

abbrev pub label_of : Node → Option (List ℕ)
label_of (node.Name n) = None
label_of node.Type = None
label_of (node.Variable v) = None
label_of (node.Blank l) = Some l
label_of (node.Literal l) = None

-- the labels among nodes, as often as they stand there
abbrev pub labels_of : List Node → List (List ℕ)
labels_of ns = filter_map label_of ns

-- labels in the order of their bytes, each with its number
abbrev pub Labels : Type 0
Labels = List (List ℕ × ℕ)

abbrev pub is_label_in : Labels → List ℕ → Bool
is_label_in known l = is_some (lookup (is_at (text_cmp l)) known)

-- a label that has no number yet gets the next
abbrev pub with_label : List ℕ → Labels → Labels
with_label l known = if is_label_in known l then known else insert_entry text_cmp known l (length known)

-- so do these, in their order
abbrev pub with_labels : List (List ℕ) → Labels → Labels
with_labels [] known = known
with_labels (l ∷ ls) known = with_labels ls (with_label l known)

abbrev pub label_number : Labels → List ℕ → ℕ
label_number known l = unwrap_or (lookup (is_at (text_cmp l)) known) 0
