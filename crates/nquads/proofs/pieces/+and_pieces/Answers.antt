use Rattle.std.proofs.Common.{◌≡◌, ◌+◌, ◌<◌, ◌^◌, ap, ◌∙◌, arith}
use Rattle.nquads.specs.declared.reader.ReadText.{ReadText}
use Rattle.nquads.specs.Portions.{ends_of, ends_in}
use Rattle.nquads.proofs.PortionLaws.{ends_behind}
use Rattle.nquads.proofs.pieces.+and_pieces.Goals as goal

pub and_then-requires-in-Behind-after_bounds : goal.and_then-requires-in-Behind-after_bounds
and_then-requires-in-Behind-after_bounds g t c κs within =
    let before : c.in_ok-read-in-Behind.read.ends ≡ ends_of c.args.front + ends_in c.into_inner.result =
    ap (λ (r : ReadText). r.ends) c.in_ok-read-in-Behind.ensures.ok ∙ ends_behind c.args.front c.into_inner.result in
    let first : ends_in c.into_inner.result ≡ ends_in c.in-Behind.first.value = ap ends_in c.into_inner.ensures in
    let all : ends_in c.args.pieces ≡ ends_in c.in-Behind.first.value + c.in-Behind.last.ends = ap ends_in c.in-Behind.is in
    let few : ends_of c.args.front + ends_in c.args.pieces < 2 ^ 64 = c.requires in
    omega arith
