use Rattle.std.proofs.Common.{rules}
use Rattle.std.specs.Prelude.{string_bytes}
use Rattle.std.specs.Char.{encode_utf8}
use Rattle.nquads_lines.proofs.QuotedLaws.{begun, gone_on, no_escape, closed, unclosed}
use Rattle.nquads_lines.proofs.quoted.quoted_at.Goals as goal

pub loop-text-init : goal.loop-text-init
loop-text-init c =
    let b = begun c.runs_are_longest.ensures c.args.quote c.args.text.now c.open_run.result.0.now c.open_run.result.1.now (string_bytes c.in_ok-value.value) c.kept-rest.result.now
    c.open_run.ensures.front c.open_run.ensures.rest c.in_ok-value.ensures.ok c.kept-rest.ensures in
    (search rules, b.0, b.1)

pub returns-in_default-escape_at : goal.returns-in_default-escape_at
returns-in_default-escape_at c =
    no_escape c.args.quote c.args.text.now (string_bytes c.loop-text.value) c.loop-text.rest.now c.in-Some.text.now c.loop-text.invariant.1 c.in-Some.ensures.read c.in_default-escape_at.ensures.read

pub loop-text-preserved : goal.loop-text-preserved
loop-text-preserved c =
    let b = gone_on c.runs_are_longest.ensures c.args.quote c.args.text.now (string_bytes c.loop-text.value) c.loop-text.rest.now c.in-Some.text.now (encode_utf8 c.in-Some-escape_at.found)
    c.in-Some-escape_at.text.now (string_bytes c.push.new.self) c.open_run-in-Some.result.0.now c.open_run-in-Some.result.1.now (string_bytes c.push_str.new.self) c.kept-rest-in-Some.result.now
    c.loop-text.invariant.1 c.in-Some.ensures.read c.in-Some-escape_at.ensures.read c.in_ok-push.ensures.bytes c.open_run-in-Some.ensures.front c.open_run-in-Some.ensures.rest
    c.in_ok-push_str.ensures.bytes c.kept-rest-in-Some.ensures in
    (search rules, b.0, b.1)

pub returns-in-Some-close_at : goal.returns-in-Some-close_at
returns-in-Some-close_at c =
    closed c.args.quote c.args.text.now (string_bytes c.loop-text.value) c.loop-text.rest.now c.in-Some-close_at.rest.now c.loop-text.invariant.1 c.in-Some-close_at.ensures

pub returns : goal.returns
returns c = unclosed c.args.quote c.args.text.now (string_bytes c.loop-text.value) c.loop-text.rest.now c.loop-text.invariant.1 c.loop-text.invariant.2 c.in_default.ensures.read c.in-None.ensures
