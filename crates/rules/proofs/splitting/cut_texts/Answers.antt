use Rattle.std.proofs.Common.{◌≡◌, true, List, ℕ, length, take, drop, refl, sym, ap, ◌∙◌, subst}
use Rattle.std.specs.Prelude.{IsUtf8, not}
use Rattle.std.specs.Str.{IsCharBoundary}
use Rattle.rules.specs.Cutting.{text_from, rest_from}
use Rattle.rules.specs.Cuts.{IsCut}
use Rattle.rules.proofs.CutLaws.{cut_before, take_text, cut_rest, SoFar, answered_next}
use Rattle.rules.proofs.splitting.cut_texts.Goals as goal

pub split_at-requires : goal.split_at-requires
split_at-requires c =
    let utf8 : IsUtf8 c.loop-goes_on.rest.now = subst IsUtf8 c.as_bytes.ensures.value c.as_bytes.ensures.utf8 in
    let n : c.text_len.result ≡ length (text_from true c.loop-goes_on.rest.now) = c.text_len.ensures ∙ ap (λ (bs : List ℕ). length (text_from true bs)) c.as_bytes.ensures.value in
    subst (λ k. IsCharBoundary c.loop-goes_on.rest.now k) (sym n) (cut_before c.loop-goes_on.rest.now utf8)

pub loop-goes_on-preserved : goal.loop-goes_on-preserved
loop-goes_on-preserved c =
    let rest : List ℕ = c.loop-goes_on.rest.now in
    let n : c.text_len.result ≡ length (text_from true rest) = c.text_len.ensures ∙ ap (λ (bs : List ℕ). length (text_from true bs)) c.as_bytes.ensures.value in
    let request : c.split_at.result.0.now ≡ text_from true rest = c.split_at.ensures.front ∙ ap (λ k. take k rest) n ∙ take_text rest in
    let after : c.split_at.result.1.now ≡ rest_from true rest = c.split_at.ensures.back ∙ ap (λ k. drop k rest) n ∙ cut_rest rest in
    let so_far : SoFar IsCut c.args.text.now true c.loop-goes_on.found.items rest = subst (λ t. SoFar IsCut c.args.text.now t c.loop-goes_on.found.items rest) c.loop-goes_on-test.true c.loop-goes_on.invariant.1 in (
      c.after_separator-rest.utf8,
      rw (c.in_ok-push.ensures.items, c.after_separator-rest.ensures)
          (answered_next IsCut c.args.text.now c.loop-goes_on.found.items rest c.split_at.result.0.now c.split_at.result.1.now c.split_at.result.0 (not c.is_empty-goes_on.result) so_far request after refl (ap not c.is_empty-goes_on.ensures)),
    )
