-- A repetition takes tokens, and begins as its first item does.
use Rattle.std.proofs.Common.{◌≤◌, Bool, List, length, arith}
use Rattle.lexer.specs.declared.token.Token.{Token}
use Rattle.productions.specs.Steps.{Production, Takes}
use Rattle.productions.specs.Many.{Many, last, next}

-- a link puts no token back
abbrev pub Leads : (List Token → Bool → List Token → Type 0) → Type 0
Leads Link = (ts : List Token) (b : Bool) (rest : List Token) → Link ts b rest → length rest ≤ length ts

module _ {A : Type 0} {Item : Production A} {Link : List Token → Bool → List Token → Type 0} where
  pub many_takes : Takes Item → Leads Link → Takes (Many Item Link)
  many_takes takes leads _ _ _ (last {ts} {r} {s} {x} i l) =
      let first = takes ts x r i in
      let then = leads r _ s l in
      omega arith
  many_takes takes leads _ _ _ (next {ts} {r} {u} {s} {x} {xs} i l m) =
      let first = takes ts x r i in
      let then = leads r _ u l in
      let more = many_takes takes leads u xs s m in
      omega arith

  pub many_begins : (Begins : List Token → Type 0) → ((ts : List Token) (x : A) (rest : List Token) → Item ts x rest → Begins ts) → {ts rest : List Token} {xs : List A} → Many Item Link ts xs rest → Begins ts
  many_begins Begins begins (last {ts} {r} {s} {x} i l) = begins ts x r i
  many_begins Begins begins (next {ts} {r} {u} {s} {x} {xs} i l m) = begins ts x r i
