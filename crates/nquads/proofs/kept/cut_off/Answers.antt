use Rattle.std.proofs.Common.{◌≡◌, ◌-◌, ◌+◌, ◌≤◌, ℕ, List, length, take, drop, ap, ◌∙◌, arith, length-drop}
use Rattle.std.proofs.Math.Seq.{paste, take-length}
use Rattle.std.proofs.lemmas.List.Edits.{take-paste}
use Rattle.nquads.proofs.kept.cut_off.Goals as goal

moved : (xs : List ℕ) (end n k : ℕ) → end ≤ length xs → n ≡ length xs - end → k ≡ length xs - end → take k (paste xs 0 (drop end xs) n) ≡ drop end xs
moved xs end n k few e h =
    let left : length (drop end xs) ≡ length xs - end = length-drop end xs in
    ap (λ m. take m (paste xs 0 (drop end xs) n)) (let same : k ≡ 0 + n = omega arith in same) ∙ take-paste xs 0 (drop end xs) n (omega arith) (omega arith)
    ∙ ap (λ m. take m (drop end xs)) (let same : n ≡ length (drop end xs) = omega arith in same) ∙ take-length (drop end xs)

pub returns : goal.returns
returns c =
    let xs : List ℕ = c.args.bytes.now.items in
    let all : c.len.result ≡ length xs = c.len.ensures ∙ c.args.bytes.now.ok.0 in
    let few : c.args.end ≤ length xs = c.requires in
    c.truncate.ensures.items ∙ ap (take (c.len.result - c.args.end)) c.copy_within.ensures.items
    ∙ moved xs c.args.end _ (c.len.result - c.args.end) few (ap (λ n. n - c.args.end) c.args.bytes.now.ok.0) (ap (λ n. n - c.args.end) all)
