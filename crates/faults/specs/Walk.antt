-- A walk over the steps of a request.
use Rattle.std.specs.Prelude.{◌||◌, List}
use Rattle.meaning.specs.declared.reply.Refusal.TheVariants as refusal
use Rattle.syntax_trees.specs.declared.tree.Step.{Step}
use Rattle.faults.specs.declared.kinds.Kinds.{Kinds}
use Rattle.faults.specs.declared.walk.Walk.{Walk}
use Rattle.faults.specs.Faults.{any_refused, is_reused_after}

-- the kinds that were found, or are in these steps where they are the next ones
abbrev pub kinds_with : Walk → List Step → Kinds
kinds_with w steps = record {
  syntax = w.kinds.syntax || any_refused refusal.Syntax w.prefixes steps;
  prefix = w.kinds.prefix || any_refused refusal.Prefix w.prefixes steps;
  variable_in_data = w.kinds.variable_in_data || any_refused refusal.VariableInData w.prefixes steps;
  blank_in_delete = w.kinds.blank_in_delete || any_refused refusal.BlankInDelete w.prefixes steps;
  label_reused = w.kinds.label_reused || is_reused_after w.seen steps;
  limit = w.kinds.limit;
}
