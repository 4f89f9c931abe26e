-- What the laws of the crates below say of their productions.
use Rattle.std.proofs.Common.{◌≡◌, ℕ, List, true, false}
use Rattle.lexer.specs.declared.token.Token.{Token}
use Rattle.syntax_trees.specs.declared.tree.SameSubject.{SameSubject}
use Rattle.productions.specs.Steps.{Found, Takes, Again}
use Rattle.expressions.specs.Grammar.{ReadsConstraint}
use Rattle.expressions.specs.Reading.{constraint_at}
use Rattle.triples.specs.Reads.{ReadsGraphName, ReadsTriples, EndsTriples}
use Rattle.triples.specs.Reading.{begins_node, graph_name_at, triples_at}
use Rattle.triples.specs.Laws.{AgainBefore}

-- what ends the loops
pub record Below : Type 0 where
  pub name_found : Found graph_name_at ReadsGraphName
  pub name_takes : Takes ReadsGraphName
  pub triples_found : Found triples_at ReadsTriples
  pub triples_takes : Takes ReadsTriples
  pub constraint_found : (n : ℕ) → Found (constraint_at n) (ReadsConstraint n)
  pub constraint_takes : (n : ℕ) → Takes (ReadsConstraint n)

-- what is read again
pub record BelowAgain : Type 0 where
  pub name_again : Again graph_name_at ReadsGraphName
  pub triples_again : AgainBefore EndsTriples triples_at ReadsTriples
  pub triples_begin : (ts rest : List Token) (xs : List SameSubject) → ReadsTriples ts xs rest → begins_node ts ≡ true
  pub triples_end : (ts : List Token) → EndsTriples ts → begins_node ts ≡ false
  pub constraint_again : (n : ℕ) → Again (constraint_at n) (ReadsConstraint n)
