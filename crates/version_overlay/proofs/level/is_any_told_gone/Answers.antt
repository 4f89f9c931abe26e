use Rattle.std.proofs.Common.{List, sym, ap, subst, ◌∙◌}
use Rattle.std.specs.Option.{option_copied}
use Rattle.std.specs.List.Sorted.{IsStrictlySortedBy}
use Rattle.std.proofs.lemmas.List.Kept.{IsStrictlySortedBy-filter}
use Rattle.sets.specs.Sets.{has}
use Rattle.datasets.specs.declared.id.Id.{Id}
use Rattle.datasets.specs.declared.quad.Quad.{Quad}
use Rattle.datasets.specs.Id.{id_order}
use Rattle.datasets.specs.Dataset.{quad_order, matches}
use Rattle.reads.specs.Reads.{says}
use Rattle.version_overlay.proofs.Scanning.{told_some}
use Rattle.version_overlay.proofs.level.is_any_told_gone.Goals as goal

pub of_set-requires : goal.of_set-requires
of_set-requires c =
    let d = c.args.scanned.now.dataset in
    let P : List (Quad Id) → Type 0 = λ xs. IsStrictlySortedBy (quad_order id_order) xs in
    subst P
    (sym (told_some c.args.pattern.now d c.in_ok-answer.answer c.in-Some.quads.now (c.in_ok-answer.ensures ∙ ap (λ r. says r d) c.requires.scan) (ap option_copied (sym c.in-Some.is) ∙ c.quads.ensures)))
    (IsStrictlySortedBy-filter (quad_order id_order) (matches id_order c.args.pattern.now) d.quads c.rises.ensures.quads)

pub returns-in-Some : goal.returns-in-Some
returns-in-Some c none q e =
    let d = c.args.scanned.now.dataset in
    c.have_common.ensures none q
    (ap (λ xs. has (quad_order id_order) xs q)
    (c.of_set.ensures ∙ told_some c.args.pattern.now d c.in_ok-answer.answer c.in-Some.quads.now (c.in_ok-answer.ensures ∙ ap (λ r. says r d) c.requires.scan) (ap option_copied (sym c.in-Some.is) ∙ c.quads.ensures))
    ∙ e)
