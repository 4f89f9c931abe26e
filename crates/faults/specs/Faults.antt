-- What requests are refused for (SPARQL 1.1 Update, 19.8, notes 8 to 12, and the limits of this
-- program).
use Rattle.std.specs.Prelude.{ℕ, ◌+◌, ◌^◌, ◌||◌, Bool, true, false, List, [], ◌∷◌, nat_lt, is_none}
use Rattle.std.specs.List.{list_any}
use Rattle.meaning.specs.declared.reply.Refusal.{Refusal}
use Rattle.meaning.specs.declared.reply.Refusal.TheVariants as refusal
use Rattle.syntax_trees.specs.declared.tree.Name.{Name}
use Rattle.syntax_trees.specs.declared.tree.Literal.{Literal}
use Rattle.syntax_trees.specs.declared.tree.Literal.TheVariants as literal
use Rattle.syntax_trees.specs.declared.tree.Node.{Node}
use Rattle.syntax_trees.specs.declared.tree.Node.TheVariants as node
use Rattle.syntax_trees.specs.declared.tree.Block.{Block}
use Rattle.syntax_trees.specs.declared.tree.Operation.{Operation}
use Rattle.syntax_trees.specs.declared.tree.Operation.TheVariants as operation
use Rattle.syntax_trees.specs.declared.tree.Step.{Step}
use Rattle.syntax_trees.specs.declared.tree.Step.TheVariants as step
use Rattle.syntax_trees.specs.declared.tree.Syntax.{Syntax}
use Rattle.names.specs.Names.{Prefixes, declare, iri_of, is_lang_iri}
use Rattle.nodes.specs.Nodes.{nodes_of_operation, nodes_of_blocks, deleted_of}
use Rattle.names.specs.Numbers.{Labels, labels_of, is_label_in, with_labels}

-- ---- names

abbrev pub is_lang_literal : Prefixes → Literal → Bool
is_lang_literal ds (literal.Plain text) = false
is_lang_literal ds (literal.Tagged text tag) = false
is_lang_literal ds (literal.Typed text n) = is_lang_iri (iri_of ds n)
is_lang_literal ds (literal.Integer digits) = false
is_lang_literal ds (literal.Boolean b) = false

-- a literal with rdf:langString as its written datatype
abbrev pub is_lang_node : Prefixes → Node → Bool
is_lang_node ds (node.Name n) = false
is_lang_node ds node.Type = false
is_lang_node ds (node.Variable v) = false
is_lang_node ds (node.Blank l) = false
is_lang_node ds (node.Literal l) = is_lang_literal ds l

abbrev pub is_undeclared : Prefixes → Name → Bool
is_undeclared ds n = is_none (iri_of ds n)

abbrev pub is_undeclared_literal : Prefixes → Literal → Bool
is_undeclared_literal ds (literal.Plain text) = false
is_undeclared_literal ds (literal.Tagged text tag) = false
is_undeclared_literal ds (literal.Typed text n) = is_undeclared ds n
is_undeclared_literal ds (literal.Integer digits) = false
is_undeclared_literal ds (literal.Boolean b) = false

-- a name, or a literal's datatype, whose prefix isn't declared before it
abbrev pub is_undeclared_node : Prefixes → Node → Bool
is_undeclared_node ds (node.Name n) = is_undeclared ds n
is_undeclared_node ds node.Type = false
is_undeclared_node ds (node.Variable v) = false
is_undeclared_node ds (node.Blank l) = false
is_undeclared_node ds (node.Literal l) = is_undeclared_literal ds l

-- ---- variables in data, blank nodes in deletions

abbrev pub is_variable : Node → Bool
is_variable (node.Name n) = false
is_variable node.Type = false
is_variable (node.Variable v) = true
is_variable (node.Blank l) = false
is_variable (node.Literal l) = false

abbrev pub is_blank : Node → Bool
is_blank (node.Name n) = false
is_blank node.Type = false
is_blank (node.Variable v) = false
is_blank (node.Blank l) = true
is_blank (node.Literal l) = false

-- the quads of INSERT DATA and DELETE DATA
abbrev pub data_of : Operation → List Block
data_of (operation.Create silent n) = []
data_of (operation.Drop silent t) = []
data_of (operation.Clear silent t) = []
data_of (operation.Transfer how silent from to) = []
data_of (operation.InsertData qs) = qs
data_of (operation.DeleteData qs) = qs
data_of (operation.DeleteWhere qs) = []
data_of (operation.Modify n xs ys g) = []

-- what an operation is refused for, with the prefixes that are declared before it
abbrev pub is_refused : Refusal → Prefixes → Operation → Bool
is_refused refusal.Syntax ds op = list_any (is_lang_node ds) (nodes_of_operation op)
is_refused refusal.Prefix ds op = list_any (is_undeclared_node ds) (nodes_of_operation op)
is_refused refusal.VariableInData ds op = list_any is_variable (nodes_of_blocks (data_of op))
is_refused refusal.BlankInDelete ds op = list_any is_blank (nodes_of_blocks (deleted_of op))
is_refused refusal.LabelReused ds op = false
is_refused refusal.Limit ds op = false

-- one of the operations that follow these declarations is
abbrev pub any_refused : Refusal → Prefixes → List Step → Bool
any_refused k ds [] = false
any_refused k ds (step.Declare prefix iri ∷ steps) = any_refused k (declare prefix iri ds) steps
any_refused k ds (step.Do op ∷ steps) = is_refused k ds op || any_refused k ds steps

-- ---- labels of several INSERT DATA

abbrev pub inserted_of : Operation → List Block
inserted_of (operation.Create silent n) = []
inserted_of (operation.Drop silent t) = []
inserted_of (operation.Clear silent t) = []
inserted_of (operation.Transfer how silent from to) = []
inserted_of (operation.InsertData qs) = qs
inserted_of (operation.DeleteData qs) = []
inserted_of (operation.DeleteWhere qs) = []
inserted_of (operation.Modify n xs ys g) = []

abbrev pub inserted_labels : Operation → List (List ℕ)
inserted_labels op = labels_of (nodes_of_blocks (inserted_of op))

-- an INSERT DATA has a label of an earlier one, where those of the earlier ones are `seen`
abbrev pub is_reused_after : Labels → List Step → Bool
is_reused_after seen [] = false
is_reused_after seen (step.Declare prefix iri ∷ steps) = is_reused_after seen steps
is_reused_after seen (step.Do op ∷ steps) = list_any (is_label_in seen) (inserted_labels op) || is_reused_after (with_labels (inserted_labels op) seen) steps

-- ---- limits: 2^20 bytes and 256 operations

abbrev pub operation_count : List Step → ℕ
operation_count [] = 0
operation_count (step.Declare prefix iri ∷ steps) = operation_count steps
operation_count (step.Do op ∷ steps) = operation_count steps + 1

-- ---- what a reading is refused for

abbrev pub has_fault : Refusal → Syntax → Bool
has_fault refusal.Syntax s = any_refused refusal.Syntax [] s.steps
has_fault refusal.Prefix s = any_refused refusal.Prefix [] s.steps
has_fault refusal.VariableInData s = any_refused refusal.VariableInData [] s.steps
has_fault refusal.BlankInDelete s = any_refused refusal.BlankInDelete [] s.steps
has_fault refusal.LabelReused s = is_reused_after [] s.steps
has_fault refusal.Limit s = nat_lt (2 ^ 20) s.length || nat_lt 256 (operation_count s.steps)
