use Rattle.std.proofs.Common.{rules, arith, ◌≡◌, ◌<◌, length, drop, [], ◌⊎◌, inl, inr, sym, ap, ◌∙◌}
use Rattle.std.proofs.lemmas.List.{nil_from_length}
use Rattle.shared.specs.Asks.{told_by}
use Rattle.pool.proofs.AskingAll.{some_first, first_is, one_less, popped_first, along_next, along_stops, along_whole, along_short}
use Rattle.pool.proofs.Seen.{read_seen, same_asker}
use Rattle.pool.proofs.asker.Asking.note_replies.Goals.{then-loop-replies-test+else-not-is_empty, else-loop-replies-test}
use Rattle.pool.proofs.asker.Asking.note_replies.Goals as goal

pub shown-requires : goal.shown-requires
shown-requires g c =
    let some : 0 < length c.loop-replies.left.now = search rules in
    let rest : c.split_at.result.1.now ≡ drop 1 c.loop-replies.left.now = search rules in
    same_asker _ _ _ _ c.self.view_is
    (read_seen _ _ _ _ _ _ _ _ _ c.loop-replies.invariant.seen (first_is _ _ _ some rest) (popped_first _ _ _ _ c.pop_front.ensures.items c.unwrap-reply.ensures)).0

pub returns-in_err-answer : goal.returns-in_err-answer
returns-in_err-answer g c =
    let some : 0 < length c.loop-replies.left.now = search rules in
    let more : 0 < length c.loop-replies.replies.items = search rules in
    let first = some_first c.loop-replies.left.now some in
    λ old h. along_stops c.args.self.now c.args.made old c.args.reads.now c.loop-replies.left.now _ first.0 first.1 c.loop-replies.replies.items c.pop_front.new.self.items c.unwrap-reply.result
    (popped_first _ _ _ _ c.pop_front.ensures.items c.unwrap-reply.ensures) c.args.notes.now.items c.loop-replies.notes.items (c.loop-replies.invariant.along old h) _ c.from_residual.result
    (sym c.in_err-answer.was ∙ (c.told.ensures ∙ ap told_by c.shown.ensures)) c.from_residual.ensures.1

pub loop-replies-preserved : goal.loop-replies-preserved
loop-replies-preserved g c =
    let some : 0 < length c.loop-replies.left.now = search rules in
    let more : 0 < length c.loop-replies.replies.items = search rules in
    let rest : c.split_at.result.1.now ≡ drop 1 c.loop-replies.left.now = search rules in
    record {
      along = λ old h. along_next c.args.self.now c.args.made old c.args.reads.now c.loop-replies.left.now c.split_at.result.1.now _ (first_is _ _ _ some rest) c.loop-replies.replies.items c.pop_front.new.self.items c.unwrap-reply.result
          (popped_first _ _ _ _ c.pop_front.ensures.items c.unwrap-reply.ensures) c.args.notes.now.items c.loop-replies.notes.items (c.loop-replies.invariant.along old h) c.in_ok-answer.answer c.push_reserved.new.self.items
          (sym c.in_ok-answer.was ∙ (c.told.ensures ∙ ap told_by c.shown.ensures)) c.push_reserved.ensures.items;
      room = omega (arith, c.loop-replies.invariant.room, c.push_reserved.ensures.len, c.push_reserved.ensures.capacity, one_less _ _ some rest);
      seen = (read_seen _ _ _ _ _ _ _ _ _ c.loop-replies.invariant.seen (first_is _ _ (some_first c.loop-replies.left.now some).0 some rest) (popped_first _ _ _ _ c.pop_front.ensures.items c.unwrap-reply.ensures)).1;
    }

pub returns-in_err-made : goal.returns-in_err-made
returns-in_err-made g c =
    let over : (c.loop-replies.left.now ≡ []) ⊎ (c.loop-replies.replies.items ≡ []) = elim c.loop-replies-test.branch [
      | then-loop-replies-test+else-not-is_empty w ↦ (let none : length c.loop-replies.replies.items ≡ 0 = search rules in inr (nil_from_length _ none))
      | else-loop-replies-test w ↦ (let none : length c.loop-replies.left.now ≡ 0 = search rules in inl (nil_from_length _ none))
    ] in
    λ old h. along_short c.args.self.now c.args.made old c.args.reads.now c.loop-replies.left.now c.loop-replies.replies.items c.args.notes.now.items c.loop-replies.notes.items _ c.from_residual-in_err-made.result over
    c.in_err-made.was c.from_residual-in_err-made.ensures.1 (c.loop-replies.invariant.along old h)

pub returns : goal.returns
returns g c =
    let over : (c.loop-replies.left.now ≡ []) ⊎ (c.loop-replies.replies.items ≡ []) = elim c.loop-replies-test.branch [
      | then-loop-replies-test+else-not-is_empty w ↦ (let none : length c.loop-replies.replies.items ≡ 0 = search rules in inr (nil_from_length _ none))
      | else-loop-replies-test w ↦ (let none : length c.loop-replies.left.now ≡ 0 = search rules in inl (nil_from_length _ none))
    ] in
    λ old h. along_whole c.args.self.now c.args.made old c.args.reads.now c.loop-replies.left.now c.loop-replies.replies.items c.args.notes.now.items c.loop-replies.notes.items tt _ over c.in_ok-made.was
    (c.loop-replies.invariant.along old h)
