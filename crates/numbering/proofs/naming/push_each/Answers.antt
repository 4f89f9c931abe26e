use Rattle.std.proofs.Common.{◌++◌, ◌∷◌, [], take, slice_index_or, subst, append_assoc}
use Rattle.std.proofs.lemmas.List.{take_all}
use Rattle.std.proofs.lemmas.List.Sums.{AllPass-from_list_all}
use Rattle.dict.specs.Dictionary.{is_known}
use Rattle.meaning_laws.specs.Renaming.{quad_known}
use Rattle.numbering.specs.Tables.{StandFor}
use Rattle.numbering.proofs.Places.{loop_next, further, known_quad_kept, no_quad}
use Rattle.numbering.proofs.naming.push_each.Goals as goal

pub push_quad-requires : goal.push_quad-requires
push_quad-requires c =
    let here = AllPass-from_list_all (quad_known (is_known c.args.table.now)) c.args.quads.now c.requires c.loop-quad.quad-index no_quad c.loop-quad-test.true in
    (known_quad_kept c.terms_keep_places.ensures c.args.table.now c.loop-quad.table c.loop-quad.invariant.kept
    (slice_index_or c.args.quads.now c.loop-quad.quad-index no_quad) here).1

pub loop-quad-preserved : goal.loop-quad-preserved
loop-quad-preserved c =
    let quads = c.args.quads.now in
    let i = c.loop-quad.quad-index in record {
      kept = further c.args.table.now c.loop-quad.table c.push_quad.new.table c.loop-quad.invariant.kept c.in_ok-push_quad.ensures.kept;
      stands = λ terms done on known s.
          let here = AllPass-from_list_all (quad_known (is_known terms)) quads known i no_quad c.loop-quad-test.true in
          let more = c.in_ok-push_quad.ensures.stands terms (done ++ take i quads) (further terms c.args.table.now c.loop-quad.table on c.loop-quad.invariant.kept) here (c.loop-quad.invariant.stands terms done on known s) in
          loop_next (λ qs. StandFor terms c.push_quad.new.table c.push_quad.new.list.items (done ++ qs)) quads i no_quad c.loop-quad-test.true
          (subst (StandFor terms c.push_quad.new.table c.push_quad.new.list.items) (append_assoc done (take i quads) (slice_index_or quads i no_quad ∷ [])) more);
    }

pub returns-clause-stands : goal.returns-clause-stands
returns-clause-stands c = λ terms done on known s.
    subst (λ qs. StandFor terms c.loop-quad.table c.loop-quad.list.items (done ++ qs)) (take_all c.loop-quad.quad-index c.args.quads.now c.loop-quad-test.false) (c.loop-quad.invariant.stands terms done on known s)
