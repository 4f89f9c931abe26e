use Rattle.std.proofs.Common.{◌∙◌}
use Rattle.dict.specs.Dictionary.{is_known, term_of}
use Rattle.store.proofs.Both.{both_mapped, both_all}
use Rattle.store.proofs.base.numbered_both.Goals as goal

pub returns-clause-renamed : goal.returns-clause-renamed
returns-clause-renamed g c =
    let names = term_of c.in_ok-dict.dict in
    let parts = both_mapped names c.in_ok-dict.ids.items c.args.terms.items c.args.more.items (c.in_ok-dict.ensures.renamed ∙ c.in_ok-append.ensures.items) in
    rw (c.in_ok-others.ensures.items, c.len-count.ensures ∙ c.args.terms.ok.0) parts.0

pub returns-clause-known : goal.returns-clause-known
returns-clause-known g c =
    rw c.in_ok-others.ensures.items (both_all (is_known c.in_ok-dict.dict) c.len-count.result c.in_ok-dict.ids.items c.in_ok-dict.ensures.known).0

pub returns-clause-more_renamed : goal.returns-clause-more_renamed
returns-clause-more_renamed g c =
    let names = term_of c.in_ok-dict.dict in
    let parts = both_mapped names c.in_ok-dict.ids.items c.args.terms.items c.args.more.items (c.in_ok-dict.ensures.renamed ∙ c.in_ok-append.ensures.items) in
    rw (c.in_ok-others.ensures.tail, c.len-count.ensures ∙ c.args.terms.ok.0) parts.1

pub returns-clause-more_known : goal.returns-clause-more_known
returns-clause-more_known g c =
    rw c.in_ok-others.ensures.tail (both_all (is_known c.in_ok-dict.dict) c.len-count.result c.in_ok-dict.ids.items c.in_ok-dict.ensures.known).1
