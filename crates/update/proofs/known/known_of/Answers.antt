use Rattle.std.proofs.Common.{ap, ◌∙◌}
use Rattle.sets.specs.Sets.{has}
use Rattle.sets.proofs.SetLaws.{has-set_of}
use Rattle.datasets.specs.Id.{id_order, id_total}
use Rattle.update.proofs.KnownQuads.{rising_set, agrees_part}
use Rattle.std.proofs.lemmas.List.{take_rest}
use Rattle.update.specs.Known.{has_free_scan}
use Rattle.update.proofs.FreeScans.{knows_all}
use Rattle.update.proofs.known.known_of.Goals as goal

pub invariant_of-result : goal.invariant_of-result
invariant_of-result c = rising_set _ c.in_ok-has_graphs.graphs.items c.set_of.ensures

pub returns-clause-knows : goal.returns-clause-knows
returns-clause-knows c d a = record {
  scans = c.in_ok-scans.ensures.told d a;
  whole = c.in_ok-whole.ensures.knows d (agrees_part _ c.in_ok-scans.place c.args.notes.now d a);
  graphs = λ so g.
      ap (λ ns. has id_order ns g) c.set_of.ensures ∙ has-set_of id_total g c.in_ok-has_graphs.graphs.items ∙ ap (λ ns. has id_order ns g) (c.in_ok-has_graphs.ensures.told d a so);
}

pub returns-clause-all : goal.returns-clause-all
returns-clause-all c =
    knows_all _ c.in_ok-scans.place c.args.notes.now c.in_ok-scans.ensures.free
    (λ e. c.in_ok-whole.ensures.all (ap has_free_scan (take_rest c.args.notes.now c.in_ok-scans.place) ∙ e))
    c.in_ok-has_graphs.ensures.all
