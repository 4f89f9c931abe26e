-- Terms whose IRIs may lie in a text.
use Rattle.std.specs.Box.{box_value}
use Rattle.terms.specs.declared.term.Term.{Term}
use Rattle.terms.specs.declared.term.Term.TheVariants as term
use Rattle.terms.specs.declared.term_cow.TermForm.{TermForm}
use Rattle.terms.specs.declared.term_cow.TermForm.TheVariants as form

-- the term that lies in memory so
abbrev pub term_in : TermForm → Term
term_in (form.Iri iri) = term.Iri iri
term_in (form.Other t) = box_value t
