use Rattle.std.proofs.Common.{◌≡◌, true, List, ℕ, sym, subst}
use Rattle.std.specs.List.{list_all}
use Rattle.iris.specs.Forms.{is_label_byte}
use Rattle.nquads_lines.proofs.QuotedLaws.{run_all}
use Rattle.nquads_lines.proofs.forms.blank_at.Goals as goal

pub label_of-requires : goal.label_of-requires
label_of-requires c =
    subst (λ (bytes : List ℕ). list_all is_label_byte bytes ≡ true) (sym c.label_run.ensures.front) (run_all c.runs_are_longest.ensures is_label_byte c.in-Some-after.text.now)
