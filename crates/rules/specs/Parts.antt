-- The terms of a group's parts.
use Rattle.std.specs.Prelude.{List, [], ◌++◌, map}
use Rattle.std.specs.List.{flat_map}
use Rattle.terms.specs.declared.term.Term.{Term}
use Rattle.algebra.specs.Expressions.{expression_of}
use Rattle.algebra.specs.Plans.{Plan}
use Rattle.algebra.specs.declared.plan.Link.{Link}
use Rattle.algebra.specs.declared.plan.Link.TheVariants as link
use Rattle.rules.specs.Terms.{terms_of_expression, terms_of_plan}

abbrev pub terms_of_link : Link Term → List Term
terms_of_link link.Join = []
terms_of_link (link.LeftJoin es) = flat_map terms_of_expression (map expression_of es.items)
terms_of_link link.Minus = []

abbrev pub terms_of_part : Link Term × Plan Term → List Term
terms_of_part p = terms_of_plan p.1 ++ terms_of_link p.0
