-- A text has no more tokens than bytes.
use Rattle.std.proofs.Common.{ℕ, ◌≤◌, List, length, ap, arith}
use Rattle.std.proofs.lemmas.List.{length-append}
use Rattle.lexer.specs.declared.token.Token.{Token}
use Rattle.lexer.specs.declared.token.Sign.TheVariants as signs
use Rattle.lexer.specs.Cut.{Cuts, end, space, comment, token}
use Rattle.lexer.proofs.CutLaws.{token_len}

pub tokens_fewer : {text : List ℕ} {ts : List Token} → Cuts text ts → length ts ≤ length text
tokens_fewer end = omega arith
tokens_fewer (space e c) = let rest = tokens_fewer c in omega (arith, rest)
tokens_fewer (comment {text} {rest} inner cut all at c) =
    let few = tokens_fewer c in
    let long = ap length cut in
    let parts = length-append inner rest in
    omega (arith, few, long, parts)
tokens_fewer (token {text} {front} {rest} is c) =
    let few = tokens_fewer c in
    let long = ap length is.cut in
    let parts = length-append front rest in
    let some = token_len is.is in
    omega (arith, few, long, parts, some)
