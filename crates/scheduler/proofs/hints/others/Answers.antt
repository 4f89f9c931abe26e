use Rattle.std.proofs.Common.{◌+◌, ◌-◌, ◌++◌, take, drop, length, map, ap, sym, ◌∙◌, arith}
use Rattle.std.proofs.lemmas.List.{drop-map, take-map, take_all, length-drop}
use Rattle.crossbeam_deque.specs.Handles.{stealer_deque}
use Rattle.scheduler.specs.Hints.{sources_of}
use Rattle.scheduler.proofs.hints.others.Goals as goal

pub returns : goal.returns
returns c =
    let all = c.args.sources.now in let i = c.args.place in let behind = take (length all - (i + 1)) (drop (i + 1) all) in
    c.in_ok-add_others-2.ensures
    ∙ ap (λ l. l ++ map stealer_deque (take i all)) (c.in_ok-add_others.ensures ∙ ap (λ l. sources_of l ++ map stealer_deque behind) c.new-others.ensures.items)
    ∙ ap (λ l. map stealer_deque l ++ map stealer_deque (take i all)) (take_all (length all - (i + 1)) (drop (i + 1) all) (omega (arith, length-drop (i + 1) all)))
    ∙ ap (λ l. map stealer_deque (drop (i + 1) all) ++ l) (sym (take-map stealer_deque i all))
    ∙ ap (λ l. l ++ take i (map stealer_deque all)) (sym (drop-map stealer_deque (i + 1) all))
