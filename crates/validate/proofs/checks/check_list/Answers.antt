use Rattle.std.proofs.Common.{◌≡◌, ◌++◌, ◌∙◌, ap, sym, subst, append-nil, arith}
use Rattle.std.proofs.lemmas.Bool.{false≢true}
use Rattle.std.proofs.lemmas.List.{append_cancel_left}
use Rattle.validate.specs.Kept.{shown}
use Rattle.validate.specs.Below.{blocker, touching}
use Rattle.version_overlay.specs.ChangeFilter.{may_cover}
use Rattle.validate.proofs.Settled.{none_below}
use Rattle.validate.proofs.checks.check_list.Goals as goal

pub returns : goal.returns
returns c = (
  ap (blocker (shown c.args.kept.now.slots.items) c.args.i) (sym c.read.ensures) ∙ sym c.blocker.ensures ∙ c.in_default.is,
  λ e.
      absurd
      (false≢true
      (c.if-is_same_list.ensures.1
      (c.as_slice.ensures
      ∙ append_cancel_left (touching (shown c.args.kept.now.slots.items) c.args.note.now.low c.args.note.now.note.read) c.args.note.now.touching c.in_ok-now.now
      (e
      ∙ sym
      (subst (λ xs. touching (shown xs) c.args.note.now.low c.args.note.now.note.read ++ c.in_ok-now.now ≡ touching (shown xs) c.args.i c.args.note.now.note.read) c.as_slice-slots.ensures.value
      (subst (λ r. touching (shown c.as_slice-slots.result.now) c.args.note.now.low r ++ c.in_ok-now.now ≡ touching (shown c.as_slice-slots.result.now) c.args.i r) c.read.ensures c.in_ok-now.ensures)))
      ∙ sym c.as_slice-2.ensures))),
)

pub returns-then-is_empty : goal.returns-then-is_empty
returns-then-is_empty c =
    let kept = c.args.kept.now in
    let slots = shown kept.slots.items in
    let note = c.args.note.now in
    let above = c.if-i-note.true in
    let low = c.requires.low in
    let within = c.requires.above in
    let at : note.low ≡ c.args.i = omega (arith, above, low, within) in (
      none_below kept.slots.items kept.low (may_cover kept.published) kept.settled c.requires.holds c.args.i note.note.read (omega (arith, above, low)),
      ap (λ more. touching slots note.low note.note.read ++ more) (c.is_empty.ensures.0 c.if-is_empty.true) ∙ append-nil (touching slots note.low note.note.read) ∙ ap (λ n. touching slots n note.note.read) at,
    )
