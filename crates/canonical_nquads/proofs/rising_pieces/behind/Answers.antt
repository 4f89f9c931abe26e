use Rattle.std.proofs.Common.{refl, sym, ap, ◌∙◌}
use Rattle.std.specs.Ordering.{is_lt}
use Rattle.terms.specs.Term.{text_cmp}
use Rattle.canonical_nquads.proofs.RisingLaws.{less_is, pieces_both}
use Rattle.canonical_nquads.proofs.rising_pieces.behind.Goals as goal

pub returns : goal.returns
returns c lines others h k =
    let line = c.args.line.now in
    pieces_both lines others line c.args.low c.args.high _
    (less_is _ (ap (λ t. is_lt (text_cmp t line)) (sym c.as_slice.ensures.value) ∙ sym c.is_above.ensures ∙ c.if-not-is_above.false))
    c.in_ok-append.ensures.items refl h k
