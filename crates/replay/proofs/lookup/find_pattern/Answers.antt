use Rattle.dict.specs.Dictionary.{term_of, is_known}
use Rattle.replay.proofs.Finding.{missing_subject, missing_predicate, missing_object, missing_graph}
use Rattle.replay.proofs.lookup.find_pattern.Goals as goal

pub returns-in_err-subject : goal.returns-in_err-subject
returns-in_err-subject c =
    rw c.from_residual.ensures (missing_subject (is_known c.args.terms.now) (term_of c.args.terms.now) c.args.pattern.now c.in_err-subject.ensures)

pub returns-in_err-predicate : goal.returns-in_err-predicate
returns-in_err-predicate c =
    rw c.from_residual-in_err-predicate.ensures (missing_predicate (is_known c.args.terms.now) (term_of c.args.terms.now) c.args.pattern.now c.in_err-predicate.ensures)

pub returns-in_err-object : goal.returns-in_err-object
returns-in_err-object c =
    rw c.from_residual-in_err-object.ensures (missing_object (is_known c.args.terms.now) (term_of c.args.terms.now) c.args.pattern.now c.in_err-object.ensures)

pub returns-in_err-graph : goal.returns-in_err-graph
returns-in_err-graph c =
    rw c.from_residual-in_err-graph.ensures (missing_graph (is_known c.args.terms.now) (term_of c.args.terms.now) c.args.pattern.now c.in_err-graph.ensures)
