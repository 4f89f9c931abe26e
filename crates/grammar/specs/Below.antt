-- What is known of the reading of quads and of groups.
use Rattle.std.specs.Prelude.{◌≡◌, ℕ, List, None}
use Rattle.lexer.specs.declared.token.Token.{Token}
use Rattle.syntax_trees.specs.declared.tree.Block.{Block}
use Rattle.productions.specs.Steps.{Found, Takes, Again}
use Rattle.productions.specs.Keywords.{keyword_at}
use Rattle.triples.specs.Reads.{ReadsQuads}
use Rattle.triples.specs.Reading.{quads_at}
use Rattle.groups.specs.Reads.{ReadsGroup}
use Rattle.groups.specs.Reading.{group_at}

pub record Below : Type 0 where
  pub quads_found : Found quads_at ReadsQuads
  pub quads_takes : Takes ReadsQuads
  pub quads_again : Again quads_at ReadsQuads
  pub quads_begin : (ts rest : List Token) (bs : List Block) (k : List ℕ) → ReadsQuads ts bs rest → keyword_at k ts ≡ None
  pub group_found : (n : ℕ) → Found (group_at n) (ReadsGroup n)
  pub group_takes : (n : ℕ) → Takes (ReadsGroup n)
  pub group_again : (n : ℕ) → Again (group_at n) (ReadsGroup n)
