use Rattle.std.specs.HashSet.{contains}
use Rattle.std.specs.Ordering.{eq_by_cmp}
use Rattle.std.proofs.Common.{◌≡◌, false, true, sym, ap, ◌∙◌, arith, rules}
use Rattle.std.proofs.lemmas.Bool.{not-true, not-false}
use Rattle.terms.specs.Term.{text_cmp}
use Rattle.canonical_nquads.proofs.TagLaws.{tag_is, taken_further}
use Rattle.canonical_nquads.proofs.tags.tag.Goals as goal

pub returns-then-not-contains : goal.returns-then-not-contains
returns-then-not-contains c =
    let none : c.contains.result ≡ false = search (rules, not-true) in
    tag_is c.args.dataset.now c.loop-tag.tag (omega arith)
    (sym (c.in_ok-taken.ensures c.loop-tag.tag (omega arith)) ∙ ap (contains (eq_by_cmp text_cmp) c.in_ok-taken.taken) (sym c.in_ok-mark.ensures) ∙ sym c.contains.ensures ∙ none) c.loop-tag.invariant

pub loop-tag-preserved : goal.loop-tag-preserved
loop-tag-preserved c =
    let there : c.contains.result ≡ true = search (rules, not-false) in
    taken_further c.args.dataset.now.quads c.loop-tag.tag c.loop-tag.invariant
    (sym (c.in_ok-taken.ensures c.loop-tag.tag (omega arith)) ∙ ap (contains (eq_by_cmp text_cmp) c.in_ok-taken.taken) (sym c.in_ok-mark.ensures) ∙ sym c.contains.ensures ∙ there)
