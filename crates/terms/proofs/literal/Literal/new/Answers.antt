use Rattle.std.proofs.Common.{sym}
use Rattle.terms.proofs.FormLaws.{IsLiteral-of}
use Rattle.terms.proofs.literal.Literal.new.Goals as goal

pub invariant_of-parts : goal.invariant_of-parts
invariant_of-parts c = IsLiteral-of c.args.lexical c.args.datatype c.args.tag c.is_tagged_alike.ensures.iri (sym c.if-not-is_tagged_alike.ensures.test)

pub invariant_of-result : goal.invariant_of-result
invariant_of-result c = let e = c.in_ok-new.ensures.ok in rw e (IsLiteral-of c.args.lexical c.args.datatype c.args.tag c.is_tagged_alike.ensures.iri (sym c.if-not-is_tagged_alike.ensures.test))

pub returns : goal.returns
returns c = let e = c.in_ok-new.ensures.ok in (e, rw e (IsLiteral-of c.args.lexical c.args.datatype c.args.tag c.is_tagged_alike.ensures.iri (sym c.if-not-is_tagged_alike.ensures.test)))
