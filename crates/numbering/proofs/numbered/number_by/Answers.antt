use Rattle.std.proofs.Common.{◌≡◌, true, map, ap, sym, subst, ◌∙◌, List}
use Rattle.std.specs.Global.{Vec}
use Rattle.std.specs.List.{list_all}
use Rattle.std.proofs.lemmas.Result.{IfOk-at_ok, IfOk-weaker}
use Rattle.datasets.specs.declared.id.Id.{Id}
use Rattle.terms.specs.declared.term.Term.{Term}
use Rattle.dict.specs.Dictionary.{term_of, is_known}
use Rattle.meaning.specs.Run.{Request}
use Rattle.meaning_laws.specs.Renaming.{renamed_request, request_known}
use Rattle.store.specs.Base.{Base, IsBaseOf}
use Rattle.store.specs.Held.{is_held}
use Rattle.numbering.proofs.numbered.number_by.Goals as goal

pub number_requests_by-numbered-requires-after_bounds : goal.number_requests_by-numbered-requires-after_bounds
number_requests_by-numbered-requires-after_bounds g c κs within =
    ap (λ (ts : List Term). list_all (request_known (is_held ts)) c.into_vec-requests.result.items) c.terms-terms.ensures
    ∙ ap (λ (rs : List (Request Term)). list_all (request_known (is_held c.in_ok-based.based.base.terms)) rs) c.into_vec-requests.ensures
    ∙ c.in_ok-based.ensures.held

pub returns : goal.returns
returns g c =
    IfOk-weaker c.with.result _ _
    (λ n h.
    let base = ap (λ (b : Base). b.terms) (sym h.0) in
    let terms = c.terms-terms.ensures in
    let done = IfOk-at_ok (λ (list : Vec (Request Id)). (map (renamed_request (term_of c.terms-terms.result.now)) list.items ≡ c.into_vec-requests.result.items) × (list_all (request_known (is_known c.terms-terms.result.now)) list.items ≡ true)) h.1 c.number_requests_by-numbered.ensures in
    record {
      base = subst (IsBaseOf c.args.dataset) (sym h.0) c.in_ok-based.ensures.base;
      block_is = ap (λ (ts : List Term). map (renamed_request (term_of ts)) n.block.items) (sym (terms ∙ base)) ∙ done.0 ∙ c.into_vec-requests.ensures;
      block_known = ap (λ (ts : List Term). list_all (request_known (is_known ts)) n.block.items) (sym (terms ∙ base)) ∙ done.1;
    })
    c.with.ensures
