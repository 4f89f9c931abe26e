use Rattle.std.proofs.lemmas.Result.{on_ok_weaker}
use Rattle.version_overlay.proofs.Filtered.{still_asked, all_asked}
use Rattle.version_overlay.proofs.change_filter.ChangeFilter.put.Goals as goal

pub returns-clause-added : goal.returns-clause-added
returns-clause-added c =
    on_ok_weaker c.put_all_names.result
    (λ added. all_asked _ c.args.delta.now c.in_ok-put_all.ensures.added added)
    c.put_all_names.ensures.added

pub returns-clause-kept : goal.returns-clause-kept
returns-clause-kept c = still_asked c.args.self.now _ c.put_all.ensures.kept c.put_all_names.ensures.kept
