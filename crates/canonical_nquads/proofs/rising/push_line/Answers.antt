use Rattle.std.proofs.Common.{◌++◌, ◌∷◌, [], ℕ, Vec, Global, sym, ap, ◌∙◌}
use Rattle.std.specs.Ordering.{is_lt}
use Rattle.terms.specs.Term.{text_cmp}
use Rattle.canonical_nquads.proofs.RisingLaws.{less_is, rising_more}
use Rattle.canonical_nquads.proofs.rising.push_line.Goals as goal

pub returns : goal.returns
returns c e lines h =
    let line = c.args.line.now.items in
    rising_more lines c.args.made.now _ line
    (less_is _ ((λ i. is_lt (text_cmp (sym c.as_slice.ensures.value i) (sym c.as_slice-2.ensures.value i))) ∙ sym c.is_above.ensures ∙ c.if-not-is_above.false))
    (c.in_ok-extend_from_slice-2.ensures.items ∙ ap (λ t. t ++ 10 ∷ []) (c.in_ok-extend_from_slice.ensures.items ∙ ap (λ t. c.args.made.now.text.items ++ t) c.as_slice-3.ensures.value))
    (ap (λ (v : Vec ℕ Global). v.items) c.swap.ensures.x_after) h
