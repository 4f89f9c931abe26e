use Rattle.std.proofs.Common.{rules, ◌≡◌, Some, [], ◌∷◌, length, ap, sym, subst}
use Rattle.atomic_table.specs.Table.{opening}
use Rattle.blocklock.specs.Rule.{Kept, first_view}
use Rattle.blocklock.proofs.Keeps.{starts}
use Rattle.blocklock.proofs.lock.BlockLock.of.Goals as goal

pub new-requires-2 : goal.new-requires-2
new-requires-2 g c =
    let worker_of = g.B.Journaled.worker_of in
    let history = g.B.Journaled.history in
    let h = history c.of.result.value in
    let slots : c.push_reserved.new.self.items ≡ Some c.in_ok-new.field-0 ∷ [] = search rules in
    let same : c.in_ok-new.field-0.value ≡ c.of.result.value = search rules in
    subst (λ l. Kept worker_of (λ b. history b.value) h.subject c.args.seats (length h.journal) (opening (0 ∷ []) l (first_view c.args.seats h))) (sym slots)
    (starts worker_of (λ b. history b.value) c.in_ok-new.field-0 h c.args.seats (ap history same))
