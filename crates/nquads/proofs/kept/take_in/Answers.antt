use Rattle.std.proofs.Common.{◌≡◌, ◌≤◌, ◌++◌, true, length, take, drop, refl, sym, ap, ◌∙◌, subst}
use Rattle.nquads.specs.Feeding.{EndsBefore, is_begun}
use Rattle.nquads.proofs.KeptLaws.{begun_still, kept_more, kept_lines, stops_among}
use Rattle.nquads.proofs.kept.take_in.Goals as goal

pub returns-in_default-clause-ok : goal.returns-in_default-clause-ok
returns-in_default-clause-ok c = λ bytes is.
    let rest : c.extend_from_slice.new.self.items ≡ c.args.kept.now.rest.items ++ c.args.piece.now = c.in_ok-extend_from_slice.ensures.items in
    let before : c.len-before.result ≡ length c.args.kept.now.rest.items = c.len-before.ensures ∙ c.args.kept.now.rest.ok.0 in
    let begun : is_begun c.extend_from_slice.new.self.items ≡ true =
    ap is_begun (sym c.as_slice.ensures.value) ∙ begun_still c.args.kept.now.rest.items c.args.piece.now c.as_slice.result.now c.len-before.result (c.as_slice.ensures.value ∙ rest) before is.begun c.in_default.ensures in
    kept_more bytes c.args.piece.now c.args.kept.now (record { read = c.args.kept.now.read; len = c.args.kept.now.len; rest = c.extend_from_slice.new.self }) refl refl rest begun is

pub returns-in-Ok-clause-ok : goal.returns-in-Ok-clause-ok
returns-in-Ok-clause-ok c = λ bytes is.
    let found = subst (λ t. (c.in-Some.end ≤ length t) × EndsBefore (take c.in-Some.end t) (drop c.in-Some.end t) × (is_begun (drop c.in-Some.end t) ≡ true)) c.as_slice.ensures.value c.in-Some.ensures in
    kept_lines c.lines_are_read.ensures c.lists_unite.ensures bytes c.args.piece.now c.args.kept.now (record { read = c.args.kept.now.read; len = c.args.kept.now.len; rest = c.extend_from_slice.new.self }) c.read_first.new.kept c.in-Some.end refl refl
    c.in_ok-extend_from_slice.ensures.items found.0 found.1 found.2 c.in-Ok.ensures.ok c.in-Ok.ensures.len c.in-Ok.ensures.rest is

pub returns-in-Err-clause-err : goal.returns-in-Err-clause-err
returns-in-Err-clause-err c = λ bytes is.
    let found = subst (λ t. EndsBefore (take c.in-Some.end t) (drop c.in-Some.end t)) c.as_slice.ensures.value c.in-Some.ensures.1 in
    stops_among bytes c.args.piece.now c.args.kept.now (record { read = c.args.kept.now.read; len = c.args.kept.now.len; rest = c.extend_from_slice.new.self }) c.in-Some.end c.in-Err.fault refl refl
    c.in_ok-extend_from_slice.ensures.items found c.in-Err.ensures.err is
