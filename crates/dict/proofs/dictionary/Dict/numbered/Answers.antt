use Rattle.std.proofs.Common.{◌≡◌, true, List, filter, map, take, sym, ap, subst, ◌∙◌, ◌++◌}
use Rattle.std.specs.List.{list_all}
use Rattle.sets.specs.Sets.{set_of}
use Rattle.terms.specs.declared.term.Term.{Term}
use Rattle.terms.specs.Term.{term_order}
use Rattle.dict.specs.Dictionary.{is_written, is_known, term_of, IsDictionary}
use Rattle.dict.proofs.Frozen.{frozen}
use Rattle.dict.proofs.Whole.{places_below, found_is, numbers_stand}
use Rattle.dict.proofs.dictionary.Dict.numbered.Goals as goal

pub numbered-requires-clause-places : goal.numbered-requires-clause-places
numbered-requires-clause-places c =
    places_below c.args.terms.items c.args.more.items c.in_ok-ordered.ordered.placed.items c.in_ok-ordered.ensures.placed c.in_ok-ordered.ensures.same
    c.len-length.result (c.len-length.ensures ∙ c.in_ok-ordered.ordered.placed.ok.0)

pub of-requires : goal.of-requires
of-requires c =
    let terms_are : c.in_ok-found.found.items ≡ set_of term_order (filter is_written (c.args.terms.items ++ c.args.more.items)) =
    found_is c.args.terms.items c.args.more.items c.in_ok-ordered.ordered.placed.items c.in_ok-ordered.ensures.placed c.in_ok-ordered.ensures.same c.in_ok-found.found.items
    c.in_ok-ordered.ensures.sorted c.in_ok-found.ensures.terms in
    subst (λ (ts : List Term). IsDictionary ts) (sym terms_are) (frozen (c.args.terms.items ++ c.args.more.items))

pub returns-clause-terms : goal.returns-clause-terms
returns-clause-terms c =
    c.in_ok-dict.ensures.ok
    ∙ found_is c.args.terms.items c.args.more.items c.in_ok-ordered.ordered.placed.items c.in_ok-ordered.ensures.placed c.in_ok-ordered.ensures.same c.in_ok-found.found.items
    c.in_ok-ordered.ensures.sorted c.in_ok-found.ensures.terms

pub returns-clause-renamed : goal.returns-clause-renamed
returns-clause-renamed c =
    subst (λ (ts : List Term). map (term_of ts) c.truncate.new.self.items ≡ c.args.terms.items) (sym c.in_ok-dict.ensures.ok)
    (numbers_stand c.args.terms.items c.args.more.items c.in_ok-ordered.ordered.placed.items c.in_ok-ordered.ensures.placed c.in_ok-ordered.ensures.same c.in_ok-found.found.items
    c.in_ok-found.ids.items c.truncate.new.self.items (c.in_ok-found.ensures.length ∙ c.len-length.ensures ∙ c.in_ok-ordered.ordered.placed.ok.0)
    (c.truncate.ensures.items ∙ ap (λ n. take n c.in_ok-found.ids.items) (c.len-count.ensures ∙ c.args.terms.ok.0)) c.in_ok-found.ensures.numbers).0

pub returns-clause-known : goal.returns-clause-known
returns-clause-known c =
    subst (λ (ts : List Term). list_all (is_known ts) c.truncate.new.self.items ≡ true) (sym c.in_ok-dict.ensures.ok)
    (numbers_stand c.args.terms.items c.args.more.items c.in_ok-ordered.ordered.placed.items c.in_ok-ordered.ensures.placed c.in_ok-ordered.ensures.same c.in_ok-found.found.items
    c.in_ok-found.ids.items c.truncate.new.self.items (c.in_ok-found.ensures.length ∙ c.len-length.ensures ∙ c.in_ok-ordered.ordered.placed.ok.0)
    (c.truncate.ensures.items ∙ ap (λ n. take n c.in_ok-found.ids.items) (c.len-count.ensures ∙ c.args.terms.ok.0)) c.in_ok-found.ensures.numbers).1
