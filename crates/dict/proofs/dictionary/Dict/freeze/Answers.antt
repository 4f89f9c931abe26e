use Rattle.std.proofs.Common.{rules, ◌≡◌, ◌≤◌, List, length, filter, sym, ap, ◌∙◌, subst}
use Rattle.std.proofs.lemmas.Fn.{filter_same}
use Rattle.std.proofs.lemmas.Result.{IfOk-weaker, on_err_weaker}
use Rattle.sets.specs.Sets.{set_of}
use Rattle.terms.specs.Term.{term_order}
use Rattle.terms.specs.declared.term.Term.{Term}
use Rattle.dict.specs.Dictionary.{is_written, IsDictionary}
use Rattle.dict.proofs.Frozen.{frozen}
use Rattle.dict.proofs.dictionary.Dict.freeze.Goals as goal

pub of-requires : goal.of-requires
of-requires c =
    let items : c.set_of.result.items ≡ set_of term_order (filter is_written c.args.terms.items) =
    c.set_of.ensures ∙ ap (set_of term_order) (filter_same _ is_written _ (λ x b f' k. search rules) _ _ c.retain.ensures.filtered) in
    subst (λ (ts : List Term). IsDictionary ts) (sym items) (frozen c.args.terms.items)

pub returns-clause-terms : goal.returns-clause-terms
returns-clause-terms c =
    let items : c.set_of.result.items ≡ set_of term_order (filter is_written c.args.terms.items) =
    c.set_of.ensures ∙ ap (set_of term_order) (filter_same _ is_written _ (λ x b f' k. search rules) _ _ c.retain.ensures.filtered) in
    IfOk-weaker c.of.result _ _ (λ dict e. e ∙ items) c.of.ensures.ok

pub returns-clause-form : goal.returns-clause-form
returns-clause-form c =
    let items : c.set_of.result.items ≡ set_of term_order (filter is_written c.args.terms.items) =
    c.set_of.ensures ∙ ap (set_of term_order) (filter_same _ is_written _ (λ x b f' k. search rules) _ _ c.retain.ensures.filtered) in
    IfOk-weaker c.of.result _ _ (λ dict e. subst (λ (ts : List Term). IsDictionary ts) (sym (e ∙ items)) (frozen c.args.terms.items)) c.of.ensures.ok

pub returns-clause-err : goal.returns-clause-err
returns-clause-err c =
    let items : c.set_of.result.items ≡ set_of term_order (filter is_written c.args.terms.items) =
    c.set_of.ensures ∙ ap (set_of term_order) (filter_same _ is_written _ (λ x b f' k. search rules) _ _ c.retain.ensures.filtered) in
    on_err_weaker c.of.result (subst (λ (ts : List Term). 4294967296 ≤ length ts) items) c.of.ensures.err
