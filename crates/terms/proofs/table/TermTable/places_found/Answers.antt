use Rattle.std.specs.Prelude.{slice_index_or}
use Rattle.std.proofs.Common.{None, ◌∙◌, ◌+◌, ap, sym, subst, length}
use Rattle.std.proofs.lemmas.List.{length-append}
use Rattle.terms.specs.Placed.{IsFoundAt}
use Rattle.terms.proofs.PlacedLaws.{further}
use Rattle.terms.proofs.TableLaws.{found_at, placed_more}
use Rattle.terms.proofs.table.TermTable.places_found.Goals as goal

pub place_found-requires : goal.place_found-requires
place_found-requires c =
    subst (λ known. IsFoundAt c.loop-term.self c.term-item.result known)
    (sym (c.known_at.ensures ∙ ap (λ n. slice_index_or c.args.found.now n None) (c.len.ensures ∙ c.loop-term.places.ok.0 ∙ c.loop-term.invariant.long)))
    (found_at c.args.self.now c.loop-term.self c.loop-term.invariant.on c.args.terms.now c.args.found.now c.requires c.loop-term.term-index c.term-item.result
    c.loop-term-test.true c.term-item.is)

pub loop-term-preserved : goal.loop-term-preserved
loop-term-preserved c =
    let more = placed_more c.args.self.now c.loop-term.self c.place_found.new.self c.loop-term.invariant.on c.in_ok-place.ensures.kept c.args.terms.now
    c.loop-term.places.items c.push.new.self.items c.loop-term.term-index c.in_ok-place.place c.term-item.result c.loop-term-test.true c.term-item.is
    c.in_ok-push.ensures.items c.in_ok-place.ensures.term c.in_ok-place.ensures.within c.loop-term.invariant.at in
    record {
      on = more.0;
      at = more.1;
      long = ap length c.in_ok-push.ensures.items ∙ length-append c.loop-term.places.items _ ∙ ap (λ n. n + 1) c.loop-term.invariant.long;
    }

pub returns-in_err-push-clause-kept : goal.returns-in_err-push-clause-kept
returns-in_err-push-clause-kept c = further c.args.self.now c.loop-term.self c.place_found.new.self c.loop-term.invariant.on c.in_ok-place.ensures.kept
