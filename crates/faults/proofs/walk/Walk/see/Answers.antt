use Rattle.std.proofs.Common.{refl}
use Rattle.std.proofs.lemmas.Result.{on_ok_weaker}
use Rattle.faults.proofs.KindLaws.{seen_is}
use Rattle.faults.proofs.walk.Walk.see.Goals as goal

pub returns-clause-kinds : goal.returns-clause-kinds
returns-clause-kinds c =
    on_ok_weaker c.see_labels.result
    (λ labels steps. seen_is c.args.self.now (record { prefixes = c.args.self.now.prefixes; seen = c.see_labels.new.seen; kinds = c.with-self.result }) c.args.nodes.now c.kinds_of-more.result steps c.kinds_of-more.ensures c.with-self.ensures refl labels)
    c.see_labels.ensures
