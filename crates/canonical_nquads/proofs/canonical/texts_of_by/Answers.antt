use Rattle.std.proofs.Common.{ap, ◌∙◌}
use Rattle.rayon.proofs.ToStd.{slice-AllZip}
use Rattle.canonical_nquads.specs.Placed.{IsTextOf}
use Rattle.canonical_nquads.proofs.TextLaws.{texts_are}
use Rattle.canonical_nquads.proofs.canonical.texts_of_by.Goals as goal

pub returns : goal.returns
returns g c =
    let slice = ap (λ it. it.slice.now) c.map.ensures.base ∙ c.par_iter.ensures in
    let h = c.in_ok-texts.ensures in
    let chain = rw c.map.ensures.f at h.1 in
    texts_are (λ texts. texts.items) _ c.args.tag c.args.terms.now h.0 c.in_ok-texts.texts
    (slice-AllZip chain.0 c.args.terms.now (chain.1 ∙ slice) (IsTextOf c.args.tag) h.0 chain.2) h.2
