-- The kinds of fault that are in a request, or in an operation of one.
use Rattle.std.specs.Prelude.{◌≡◌, Bool, false}
use Rattle.std.specs.List.{list_any}
use Rattle.meaning.specs.declared.reply.Refusal.{Refusal}
use Rattle.meaning.specs.declared.reply.Refusal.TheVariants as refusal
use Rattle.syntax_trees.specs.declared.tree.Operation.{Operation}
use Rattle.syntax_trees.specs.declared.tree.Syntax.{Syntax}
use Rattle.names.specs.Names.{Prefixes}
use Rattle.names.specs.Numbers.{Labels, is_label_in}
use Rattle.faults.specs.declared.kinds.Kinds.{Kinds}
use Rattle.faults.specs.Faults.{is_refused, inserted_labels, has_fault}

-- one of the kinds is among them
abbrev pub is_among : Kinds → Refusal → Bool
is_among kinds refusal.Syntax = kinds.syntax
is_among kinds refusal.Prefix = kinds.prefix
is_among kinds refusal.VariableInData = kinds.variable_in_data
is_among kinds refusal.BlankInDelete = kinds.blank_in_delete
is_among kinds refusal.LabelReused = kinds.label_reused
is_among kinds refusal.Limit = kinds.limit

-- what an operation is refused for after these declarations and labels, but for limits, which are
-- of a whole request
pub record AreKindsAt (ds : Prefixes) (seen : Labels) (op : Operation) (kinds : Kinds) : Type 0 where
  pub syntax : kinds.syntax ≡ is_refused refusal.Syntax ds op
  pub prefix : kinds.prefix ≡ is_refused refusal.Prefix ds op
  pub variable_in_data : kinds.variable_in_data ≡ is_refused refusal.VariableInData ds op
  pub blank_in_delete : kinds.blank_in_delete ≡ is_refused refusal.BlankInDelete ds op
  pub label_reused : kinds.label_reused ≡ list_any (is_label_in seen) (inserted_labels op)
  pub limit : kinds.limit ≡ false

-- what a request is refused for
pub record AreKindsIn (s : Syntax) (kinds : Kinds) : Type 0 where
  pub syntax : kinds.syntax ≡ has_fault refusal.Syntax s
  pub prefix : kinds.prefix ≡ has_fault refusal.Prefix s
  pub variable_in_data : kinds.variable_in_data ≡ has_fault refusal.VariableInData s
  pub blank_in_delete : kinds.blank_in_delete ≡ has_fault refusal.BlankInDelete s
  pub label_reused : kinds.label_reused ≡ has_fault refusal.LabelReused s
  pub limit : kinds.limit ≡ has_fault refusal.Limit s
