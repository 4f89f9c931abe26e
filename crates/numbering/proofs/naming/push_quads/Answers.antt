use Rattle.std.proofs.Common.{◌≡◌, ◌++◌, List, map, OnOk, ap, sym, subst, ◌∙◌}
use Rattle.std.proofs.lemmas.Result.{on_ok_weaker}
use Rattle.std.specs.List.{list_all}
use Rattle.datasets.specs.declared.id.Id.{Id}
use Rattle.datasets.specs.declared.quad.Quad.{Quad}
use Rattle.quad_lists.specs.Known.{quad_of}
use Rattle.quad_lists.specs.Part.{quads_of_part}
use Rattle.dict.specs.Dictionary.{is_known}
use Rattle.meaning_laws.specs.Renaming.{quad_known}
use Rattle.numbering.specs.Tables.{StandFor, StandsForMore}
use Rattle.numbering.proofs.Places.{known_more}
use Rattle.numbering.proofs.naming.push_quads.Goals as goal

pub returns-in-Narrow-clause-stands : goal.returns-in-Narrow-clause-stands
returns-in-Narrow-clause-stands c =
    let table = c.args.table.now in
    let quads : quads_of_part c.args.quads ≡ map quad_of c.in-Narrow.known.now = ap quads_of_part c.in-Narrow.is in
    on_ok_weaker c.push_known.result
    (λ made terms done on known s. subst (λ (qs : List (Quad Id)). StandFor terms table c.push_known.new.list.items (done ++ qs)) (sym quads)
    (known_more c.terms_keep_places.ensures terms table on c.args.list.now.items c.push_known.new.list.items done c.in-Narrow.known.now made
    (ap (list_all (quad_known (is_known terms))) (sym quads) ∙ known) s))
    c.push_known.ensures

pub returns-in-Wide-clause-stands : goal.returns-in-Wide-clause-stands
returns-in-Wide-clause-stands c =
    subst (λ (qs : List (Quad Id)). OnOk c.push_each.result (StandsForMore c.args.table.now c.args.list.now.items c.push_each.new.table c.push_each.new.list.items qs))
    (sym (ap quads_of_part c.in-Wide.is)) c.push_each.ensures.stands
