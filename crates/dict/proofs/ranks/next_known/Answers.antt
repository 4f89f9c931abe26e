use Rattle.std.proofs.Common.{List, Vec, Global, true, false, sym, ap, subst, ◌∙◌}
use Rattle.terms.specs.declared.term.Term.{Term}
use Rattle.datasets.specs.declared.id.Id.TheVariants.{Known}
use Rattle.dict.specs.Ranks.{ends_with, IsNumberOf}
use Rattle.dict.proofs.Numbering.{next_is, number_of_last, number_of_pushed}
use Rattle.dict.proofs.ranks.next_known.Goals as goal
use Rattle.dict.proofs.ranks.next_known.Goals.{then-not-is_same+in_ok-push, else-not-is_same}

pub returns : goal.returns
returns c =
    let found = c.args.found.now.items in
    let t = c.args.term in
    elim c.if-not-is_same.branch [
      | then-not-is_same+in_ok-push w ↦
          let made = ap (λ (v : Vec Term Global). v.items) w.found-is ∙ w.in_ok-push.ensures.items in
          record {
            found = made ∙ next_is found t false c.requires.written (sym c.requires.same ∙ w.if-not-is_same.true);
            number = subst (λ n. IsNumberOf c.if-not-is_same.found.items t (Known n)) (sym c.in_ok-narrowed.ensures)
                (number_of_pushed found c.if-not-is_same.found.items t c.len.result made (c.len.ensures ∙ c.if-not-is_same.found.ok.0));
          }
      | else-not-is_same w ↦
          let made = ap (λ (v : Vec Term Global). v.items) w.found-is in
          let ends = sym c.requires.same ∙ w.if-not-is_same.false in
          record {
            found = made ∙ next_is found t true c.requires.written ends;
            number = subst (λ n. IsNumberOf c.if-not-is_same.found.items t (Known n)) (sym c.in_ok-narrowed.ensures)
                (number_of_last c.if-not-is_same.found.items t c.len.result (c.len.ensures ∙ c.if-not-is_same.found.ok.0) (ap (λ (ts : List Term). ends_with ts t) made ∙ ends));
          }
    ]
