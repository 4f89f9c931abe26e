use Rattle.std.proofs.Common.{◌+◌, List, max, sym, ap, ◌∙◌, subst, arith}
use Rattle.stamp_tree.specs.declared.standing.Standing.{Standing}
use Rattle.stamp_tree.specs.Standings.{first_due, is_due}
use Rattle.stamp_tree.specs.Pairs.{IsSummed}
use Rattle.stamp_tree.specs.Leading.{Leads}
use Rattle.stamp_tree.proofs.Pairs.{none_due, lead_first, lead_second, lead_within}
use Rattle.stamp_tree.proofs.tree.StampTree.+leading.Goals as goal

pub returns-in_err-pair-clause-none : goal.returns-in_err-pair-clause-none
returns-in_err-pair-clause-none t c e =
    let is = subst (IsSummed c.self.inside.list.items) c.in-Pairs.is c.self.invariant in
    let none = c.leading.ensures.none c.in_err-pair.was in
    ap (first_due 0) (sym c.self.view_is) ∙ none_due c.self.inside.list.items c.in-Pairs.tree.value 0 is.pairs_are (ap (first_due 0) (sym c.deref.ensures) ∙ none)

pub overflow_add-place : goal.overflow_add-place
overflow_add-place t c =
    let is = subst (IsSummed c.self.inside.list.items) c.in-Pairs.is c.self.invariant in
    let within = lead_within c.self.inside.list.items c.in-Pairs.tree.value c.deref.result.now _ _ is.pairs_are c.deref.ensures c.in_ok-pair.ensures.some in
    omega (arith, within, c.self.inside.list.ok.0, c.self.inside.list.small)

pub index-first-requires : goal.index-first-requires
index-first-requires t c =
    let is = subst (IsSummed c.self.inside.list.items) c.in-Pairs.is c.self.invariant in
    let within = lead_within c.self.inside.list.items c.in-Pairs.tree.value c.deref.result.now _ _ is.pairs_are c.deref.ensures c.in_ok-pair.ensures.some in
    omega (arith, within, c.self.inside.list.ok.0)

pub overflow_add-result : goal.overflow_add-result
overflow_add-result t c =
    let is = subst (IsSummed c.self.inside.list.items) c.in-Pairs.is c.self.invariant in
    let within = lead_within c.self.inside.list.items c.in-Pairs.tree.value c.deref.result.now _ _ is.pairs_are c.deref.ensures c.in_ok-pair.ensures.some in
    omega (arith, within, c.self.inside.list.ok.0, c.self.inside.list.small)

pub returns-then-is_due-clause-some : goal.returns-then-is_due-clause-some
returns-then-is_due-clause-some t c =
    let is = subst (IsSummed c.self.inside.list.items) c.in-Pairs.is c.self.invariant in
    let pair = subst (λ (ws : List Standing). Leads 0 ws c.in_ok-pair.pair c.in_ok-pair.latest) c.deref.ensures c.in_ok-pair.ensures.some in
    let due = ap (λ (s : Standing). is_due c.in_ok-pair.latest s.due) (sym c.index-first.ensures) ∙ sym c.is_due.ensures ∙ c.if-is_due.true in
    subst (λ (xs : List Standing). Leads 0 xs (c.in_ok-pair.pair + c.in_ok-pair.pair) c.in_ok-pair.latest) c.self.view_is
    (lead_first c.self.inside.list.items c.in-Pairs.tree.value 0 c.in_ok-pair.pair c.in_ok-pair.latest c.index-first.result.now is.pairs_are pair due)

pub returns-clause-some : goal.returns-clause-some
returns-clause-some t c =
    let is = subst (IsSummed c.self.inside.list.items) c.in-Pairs.is c.self.invariant in
    let pair = subst (λ (ws : List Standing). Leads 0 ws c.in_ok-pair.pair c.in_ok-pair.latest) c.deref.ensures c.in_ok-pair.ensures.some in
    let due = ap (λ (s : Standing). is_due c.in_ok-pair.latest s.due) (sym c.index-first.ensures) ∙ sym c.is_due.ensures ∙ c.if-is_due.false in
    let leads = lead_second c.self.inside.list.items c.in-Pairs.tree.value 0 c.in_ok-pair.pair c.in_ok-pair.latest c.index-first.result.now is.pairs_are pair due in
    subst (λ (xs : List Standing). Leads 0 xs (c.in_ok-pair.pair + c.in_ok-pair.pair + 1) c.max.result) c.self.view_is
    (leads.0, leads.1 ∙ ap (λ (s : Standing). max c.in_ok-pair.latest s.changed) (sym c.index-first.ensures) ∙ sym c.max.ensures)
