use Rattle.std.proofs.Common.{◌≡◌, true, List, ◌++◌, take}
use Rattle.std.specs.List.{list_all}
use Rattle.datasets.specs.declared.id.Id.{Id}
use Rattle.datasets.specs.declared.quad.Quad.{Quad}
use Rattle.terms.specs.declared.term.Term.{Term}
use Rattle.terms.specs.Placed.{GoesOn}
use Rattle.dict.specs.Dictionary.{is_known}
use Rattle.meaning_laws.specs.Renaming.{quad_known}
use Rattle.numbering.specs.Tables.{StandFor}
use Rattle.numbering.proofs.naming.push_each.Given as goal

abbrev pub invariant-loop-quad : goal.invariant-loop-quad
invariant-loop-quad l = record {
  kept : GoesOn l.fn.table l.table;
  stands : (terms : List Term) (done : List (Quad Id)) → GoesOn terms l.fn.table → list_all (quad_known (is_known terms)) l.quads ≡ true
      → StandFor terms l.fn.table l.fn.list.items done → StandFor terms l.table l.list.items (done ++ take l.quad-index l.quads);
}
