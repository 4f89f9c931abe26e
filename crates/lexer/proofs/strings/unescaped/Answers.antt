use Rattle.std.proofs.Common.{◌∙◌, ◌++◌, sym, ap, arith, append_assoc, string_bytes}
use Rattle.lexer.proofs.StringLaws.{escape_between, after_utf8, none_left, letter_alone, tail_utf8, later_escaped, one_undone}
use Rattle.lexer.proofs.strings.unescaped.Goals as goal

pub split_at-requires : goal.split_at-requires
split_at-requires c =
    let s = c.in-Some.ensures.byte (omega arith) (λ w o f. f) in
    letter_alone (escape_between _ _ _ c.loop-before.invariant.1 s) (after_utf8 _ _ c.loop-before.invariant.2 s.1 s.2)

pub loop-before-preserved : goal.loop-before-preserved
loop-before-preserved c =
    let s = c.in-Some.ensures.byte (omega arith) (λ w o f. f) in
    let found = escape_between _ _ _ c.loop-before.invariant.1 s in
    let utf8 = after_utf8 _ _ c.loop-before.invariant.2 s.1 s.2 in (
      rw (c.in_ok-push_str-2.ensures.bytes, c.in_ok-push_str.ensures.bytes, c.spelled.ensures) (
          append_assoc (string_bytes c.loop-before.value ++ c.in-Some.before.now) _ _
          ∙ append_assoc (string_bytes c.loop-before.value) c.in-Some.before.now _
          ∙ ap (λ x. string_bytes c.loop-before.value ++ x) (one_undone _ _ found c.split_at.ensures.front c.split_at.ensures.back)
          ∙ c.loop-before.invariant.0),
      later_escaped _ found c.split_at.ensures.back,
      tail_utf8 _ found utf8 c.split_at.ensures.back,
    )

pub returns : goal.returns
returns c =
    let none = c.in_default.ensures.byte (omega arith) (λ w o f. f) in
    c.in_ok-push_str-3.ensures.bytes ∙ ap (λ x. string_bytes c.loop-before.value ++ x) (sym (none_left _ none)) ∙ c.loop-before.invariant.0
