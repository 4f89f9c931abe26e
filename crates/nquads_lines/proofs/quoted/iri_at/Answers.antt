use Rattle.std.proofs.Common.{◌≡◌, true, List, ℕ, sym, subst}
use Rattle.std.specs.List.{list_all}
use Rattle.iris.specs.Iri.{is_iri_byte}
use Rattle.nquads_lines.proofs.QuotedLaws.{run_all}
use Rattle.nquads_lines.proofs.quoted.iri_at.Goals as goal

pub iri_of-requires : goal.iri_of-requires
iri_of-requires c =
    subst (λ (bytes : List ℕ). list_all is_iri_byte bytes ≡ true) (sym c.open_run.ensures.front) (run_all c.runs_are_longest.ensures is_iri_byte c.in-Some.text.now)
