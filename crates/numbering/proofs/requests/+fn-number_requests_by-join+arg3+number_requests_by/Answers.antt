use Rattle.std.proofs.Common.{rules, arith, ◌≡◌, true, ◌++◌, map, ap, ◌∙◌}
use Rattle.std.specs.Global.{Vec}
use Rattle.std.specs.List.{list_all}
use Rattle.std.proofs.lemmas.Bool.{and_from}
use Rattle.std.proofs.lemmas.List.{map-append, take-append-drop}
use Rattle.std.proofs.lemmas.List.Folds.{list_all-append}
use Rattle.std.proofs.lemmas.Result.{IfOk-at_ok}
use Rattle.std.proofs.Crossing.{crosses}
use Rattle.datasets.specs.declared.id.Id.{Id}
use Rattle.dict.specs.Dictionary.{term_of, is_known}
use Rattle.meaning.specs.Run.{Request}
use Rattle.meaning_laws.specs.Renaming.{renamed_request, request_known}
use denote.Param.Send.{sendable}
use Rattle.store.specs.Held.{is_held}
use Rattle.numbering.proofs.Parted.{front_all, back_all}
use Rattle.numbering.proofs.Sent.{requests, answer, dict}
use Rattle.numbering.proofs.requests.+fn-number_requests_by-join+arg3+number_requests_by.Goals as goal

pub join-high-requires-send-F : goal.join-high-requires-send-F
join-high-requires-send-F g t c κs within = let r = requests in let d = dict in search (sendable, crosses) depth 30

pub join-high-requires-send-A : goal.join-high-requires-send-A
join-high-requires-send-A g t c κs within = let a = answer in search (sendable, crosses) depth 20

pub join-high-requires-after_bounds : goal.join-high-requires-after_bounds
join-high-requires-after_bounds g t c κs within =
    let held = request_known (is_held c.args.dict.now) in
    let requests = c.args.requests.items in
    let place = c.place_for_last.result in (
      back_all held place requests c.requires _ c.in_ok-last.ensures.tail,
      (search (rules, arith), (λ a m. m, ((search rules, front_all held place requests c.requires _ c.in_ok-last.ensures.items), search rules))),
    )

pub returns : goal.returns
returns g t c =
    let f = renamed_request (term_of c.args.dict.now) in
    let p = request_known (is_known c.args.dict.now) in
    let low = IfOk-at_ok (λ (list : Vec (Request Id)). (map f list.items ≡ c.split_off.new.self.items) × (list_all p list.items ≡ true)) c.in_ok-list.was c.join-high.ensures.second in
    let high = IfOk-at_ok (λ (list : Vec (Request Id)). (map f list.items ≡ c.in_ok-last.last.items) × (list_all p list.items ≡ true)) c.in_ok-more.was c.join-high.ensures.first in (
      ap (map f) c.in_ok-append.ensures.items ∙ map-append f c.in_ok-list.list.items c.in_ok-more.more.items ∙ (λ i. low.0 i ++ high.0 i)
          ∙ (λ i. c.in_ok-last.ensures.items i ++ c.in_ok-last.ensures.tail i) ∙ take-append-drop c.place_for_last.result c.args.requests.items,
      ap (list_all p) c.in_ok-append.ensures.items ∙ list_all-append p c.in_ok-list.list.items c.in_ok-more.more.items ∙ and_from (list_all p c.in_ok-list.list.items) (list_all p c.in_ok-more.more.items) low.1 high.1,
    )
