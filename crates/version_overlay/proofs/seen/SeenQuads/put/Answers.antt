use Rattle.std.proofs.lemmas.Result.{on_ok_weaker}
use Rattle.version_overlay.proofs.Filtering.{matched, passes_more}
use Rattle.version_overlay.proofs.seen.SeenQuads.put.Goals as goal

pub returns-in_err-put-3-clause-kept : goal.returns-in_err-put-3-clause-kept
returns-in_err-put-3-clause-kept c =
    let was = c.args.self.now in
    passes_more was.subjects was.predicates was.objects was.graphs _ _ _ _ c.put.ensures.kept c.put-2.ensures.kept c.put-3.ensures.kept (λ g e. e)

pub returns-clause-added : goal.returns-clause-added
returns-clause-added c =
    let q = c.args.quad.now in
    on_ok_weaker c.put_graph.result
    (λ seen p. matched c.put.new.self c.put-2.new.self c.put-3.new.self c.put_graph.new.seen p q c.in_ok-put.ensures.added c.in_ok-put-2.ensures.added c.in_ok-put-3.ensures.added seen)
    c.put_graph.ensures.added

pub returns-clause-kept : goal.returns-clause-kept
returns-clause-kept c =
    let was = c.args.self.now in
    passes_more was.subjects was.predicates was.objects was.graphs _ _ _ _ c.put.ensures.kept c.put-2.ensures.kept c.put-3.ensures.kept c.put_graph.ensures.kept
