use Rattle.std.proofs.Common.{◌≡◌, ◌+◌, ◌++◌, ◌-◌, ◌≤◌, ◌<◌, ◌^◌, length, refl, sym, ap, ◌∙◌, subst, arith}
use Rattle.nquads.specs.Portions.{IsReadText, IsFrontRead, AreRead, as_one, ends_of, ends_in}
use Rattle.nquads.proofs.PortionLaws.{fault_beyond, last_fault, last_answer, moved_within, moved_behind, few_in_pieces, all_came, are_behind}
use Rattle.nquads.proofs.portions.ended.Goals as goal

pub returns-then-limit-len-clause-answer : goal.returns-then-limit-len-clause-answer
returns-then-limit-len-clause-answer g c = λ text now is.
    let many : length c.args.read.rest.items ≡ c.len.result = sym c.args.read.rest.ok.0 ∙ sym c.len.ensures in
    let over : c.args.limit < c.args.read.len + c.len.result = c.if-limit-len.true in
    fault_beyond c.lines_are_read.ensures c.args.limit text now c.args.read c.fault_within.result is c.requires.within (omega arith)
    (moved_within c.ends-before.result (ends_of (as_one c.args.read.lines)) (c.args.limit - c.args.read.len) c.as_slice.result.now c.args.read.rest.items c.fault_within.result c.ends-before.ensures c.as_slice.ensures.value
    c.fault_within.ensures)

pub returns-in-Err-clause-answer : goal.returns-in-Err-clause-answer
returns-in-Err-clause-answer g c = λ text now is.
    let many : length c.args.read.rest.items ≡ c.len.result = sym c.args.read.rest.ok.0 ∙ sym c.len.ensures in
    let few : c.args.read.len + c.len.result ≤ c.args.limit = c.if-limit-len.false in
    let within : c.args.read.len + length c.args.read.rest.items ≤ c.args.limit = omega arith in
    last_fault c.lines_are_read.ensures c.args.limit text now c.args.read c.in-Err.fault is (all_came c.args.read.is_all c.args.limit (c.args.read.len + length c.args.read.rest.items) c.requires.enough within) within
    (moved_behind (ends_of (as_one c.args.read.lines)) (ends_of (as_one c.args.read.lines)) c.as_slice-2.result.now c.args.read.rest.items c.in-Err.fault refl c.as_slice-2.ensures.value c.in-Err.ensures.err)

pub and_pieces-requires-after_bounds : goal.and_pieces-requires-after_bounds
and_pieces-requires-after_bounds g c = λ κs h.
    let last : ends_in c.in-Ok.read.1 ≤ length c.as_slice-2.result.now = few_in_pieces c.as_slice-2.result.now c.in-Ok.read.1 c.in-Ok.ensures.ok.1 in
    let same : length c.as_slice-2.result.now ≡ length c.args.read.rest.items = ap length c.as_slice-2.ensures.value in
    let before : ends_of c.in-Ok.read.0 ≡ ends_of (as_one c.args.read.lines) = ap ends_of c.in-Ok.ensures.ok.0 in
    let ends : ends_of (as_one c.args.read.lines) ≤ c.args.read.len = c.requires.ends in
    let few : c.args.read.len + length c.args.read.rest.items < 2 ^ 64 - 1 = c.requires.few in
    omega arith

pub returns-clause-answer : goal.returns-clause-answer
returns-clause-answer g c = λ text now is.
    let many : length c.args.read.rest.items ≡ c.len.result = sym c.args.read.rest.ok.0 ∙ sym c.len.ensures in
    let few : c.args.read.len + c.len.result ≤ c.args.limit = c.if-limit-len.false in
    let within : c.args.read.len + length c.args.read.rest.items ≤ c.args.limit = omega arith in
    last_answer c.args.limit text now c.args.read c.in_ok-whole.whole is (all_came c.args.read.is_all c.args.limit (c.args.read.len + length c.args.read.rest.items) c.requires.enough within) within
    (λ front said. subst (IsReadText (front ++ c.args.read.rest.items)) (sym c.in_ok-whole.ensures.ok)
    (are_behind c.lines_are_read.ensures c.lists_unite.ensures c.in-Ok.read.0 c.in-Ok.read.1 front c.args.read.rest.items (subst (IsFrontRead front) (sym c.in-Ok.ensures.ok.0) said)
    (subst (λ t. AreRead t c.in-Ok.read.1) c.as_slice-2.ensures.value c.in-Ok.ensures.ok.1)))
