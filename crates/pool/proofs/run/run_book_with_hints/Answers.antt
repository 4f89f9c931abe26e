use Rattle.std.proofs.Common.{ℕ, length, ap, ◌∙◌, subst}
use Rattle.blocklock.specs.History.{AreBelow}
use Rattle.shared.specs.declared.kept.Subject.{Subject}
use Rattle.shared.specs.Calls.{owner}
use Rattle.pool.proofs.Passes.{subject_is, front_is}
use Rattle.pool.proofs.run.run_book_with_hints.Goals as goal

pub returns-clause-terms : goal.returns-clause-terms
returns-clause-terms g c =
    ap (λ (s : Subject). s.terms) (subject_is _ c.close.result _ c.in_ok-passes.passes.items _ (ap length c.in_ok-seats.ensures ∙ c.in_ok-shared.ensures.count ∙ c.len.ensures ∙ c.args.hints.ok.0) c.requires.some c.in_ok-passes.ensures c.close.ensures.includes)

pub returns-clause-base : goal.returns-clause-base
returns-clause-base g c =
    ap (λ (s : Subject). s.base) (subject_is _ c.close.result _ c.in_ok-passes.passes.items _ (ap length c.in_ok-seats.ensures ∙ c.in_ok-shared.ensures.count ∙ c.len.ensures ∙ c.args.hints.ok.0) c.requires.some c.in_ok-passes.ensures c.close.ensures.includes)

pub returns-clause-block : goal.returns-clause-block
returns-clause-block g c =
    ap (λ (s : Subject). s.block) (subject_is _ c.close.result _ c.in_ok-passes.passes.items _ (ap length c.in_ok-seats.ensures ∙ c.in_ok-shared.ensures.count ∙ c.len.ensures ∙ c.args.hints.ok.0) c.requires.some c.in_ok-passes.ensures c.close.ensures.includes)

pub returns-clause-whole : goal.returns-clause-whole
returns-clause-whole g c =
    front_is (record { table = c.in_ok-shared.shared; subject = record { terms = c.args.terms.now; base = c.args.base.now; block = c.args.block.now } }) c.close.result _ c.in_ok-passes.passes.items _
    (ap length c.in_ok-seats.ensures ∙ c.in_ok-shared.ensures.count ∙ c.len.ensures ∙ c.args.hints.ok.0) c.requires.some c.in_ok-passes.ensures c.close.ensures.fronts

pub returns-clause-workers : goal.returns-clause-workers
returns-clause-workers g c = subst (λ (n : ℕ). AreBelow owner n c.close.result.history) (c.in_ok-shared.ensures.seats ∙ c.len.ensures ∙ c.args.hints.ok.0) c.close.ensures.workers
