use Rattle.std.proofs.Common.{List, ap, subst, sym, ◌∙◌}
use Rattle.std.proofs.lemmas.Result.{IfOk-at_ok}
use Rattle.rayon.proofs.ToStd.{slice-AllZip}
use Rattle.std.specs.Borrow.{Bor}
use Rattle.std.specs.Prelude.{ℕ, IfOk}
use Rattle.rules.specs.Refusal.{IsChecked}
use Rattle.rules.specs.Requests.{AreChecked, texts_of, whole_lines}
use Rattle.rules.proofs.SideLaws.{answered_by}
use Rattle.rules.proofs.Sent.{tried, all, answers}
use Rattle.rules.proofs.splitting.checked_texts_by.Goals as goal

pub map-requires-send-U : goal.map-requires-send-U
map-requires-send-U g c κs within = answers 2 _ _ tried

pub collect-requires-send-Self-Item : goal.collect-requires-send-Self-Item
collect-requires-send-Self-Item g c κs within = answers 1 _ _ tried

pub collect-requires-send-C : goal.collect-requires-send-C
collect-requires-send-C g c κs within = answers 2 _ _ all

pub returns : goal.returns
returns g c =
    let slice = ap (λ it. it.base.slice.now) c.map.ensures.base ∙ ap (λ it. it.slice.now) c.with_min_len.ensures.base ∙ c.par_iter.ensures ∙ c.as_slice.ensures.value in
    let h = c.in_ok-found.ensures in
    let chain = h.1 in
    let texts = texts_of (whole_lines c.args.text.now) in
    let cuts = c.in_ok-texts.texts.items in
    subst (λ requests. AreChecked texts requests) (sym c.from_vec.ensures)
    (IfOk-at_ok (λ v. AreChecked texts v.items) c.in_ok-found-2.was
    (answered_by IsChecked (λ v. v.items) _ texts cuts h.0 c.in_ok-found.found c.in_ok-texts.ensures
    (slice-AllZip chain.0 cuts (chain.1 ∙ slice) (λ (cut : Bor (List ℕ)) r. IfOk r (IsChecked cut.now)) h.0 chain.2) h.2))
