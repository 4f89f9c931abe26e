-- What is in the grammar of groups is read.
use Rattle.std.proofs.Common.{◌≡◌, ℕ, zero, suc, ◌≤◌, true, false, eqb, List, [], ◌∷◌, map, length, Option, Some, None, refl, sym, ap, subst, arith}
use Rattle.std.specs.Prelude.{codes}
use Rattle.std.proofs.lemmas.Bool.{eqb-true}
use Rattle.iris.specs.Bracketed.{◌>>=◌}
use Rattle.lexer.specs.declared.token.Token.{Token}
use Rattle.lexer.specs.declared.token.Token.TheVariants as token
use Rattle.lexer.specs.declared.token.Sign.TheVariants as signs
use Rattle.syntax_trees.specs.Groups.{Part, Union, groups, group}
use Rattle.productions.specs.Steps.{Reader, Production, Again, Takes}
use Rattle.productions.specs.Signs.{sign_at}
use Rattle.productions.specs.Keywords.{is_keyword, keyword_at}
use Rattle.productions.specs.Many.{Many, last, next}
use Rattle.productions.proofs.KeywordLaws.{other_keyword, no_keyword}
use Rattle.productions.proofs.ManyLaws.{Consumes, Completes, many_again}
use Rattle.triples.specs.Reads.{ReadsMaybeDot, dot, no_dot, is_a, EndsTriples, at_open, at_close, at_word}
use Rattle.triples.specs.Reading.{begins_node}
use Rattle.triples.proofs.QuadLaws.{dot_again, dot_keeps}
use Rattle.groups.specs.Reads.{ReadsFront, triples, no_triples, UnionLink, or_group, no_union, ReadsPart, union, optional, minus, in_graph, filter, ReadsParts, close, part, ReadsBraces, braces, ReadsGroup}
use Rattle.groups.specs.Reading.{unlabelled_at, front_at, union_link, union_with, optional_with, minus_with, graph_with, filter_at, part_with, item_with, items_from, parts_with, braces_with, group_at}
use Rattle.groups.proofs.Below.{Below, BelowAgain}
use Rattle.groups.proofs.Parts.{groups_consume, groups_shrink, part_takes, front_shorter, group_takes}

-- ---- what begins and what follows

-- no word of a part is the verb `a`
no_verb : (w : List ℕ) → is_keyword w (codes "a") ≡ false → is_a w ≡ false
no_verb [] e = refl
no_verb (b ∷ []) e =
    elim (eqb b 97) as (λ c. eqb b 97 ≡ c → c ≡ false) [
      | true ↦ λ q. absurd (let h : true ≡ false = subst (λ x. is_keyword (x ∷ []) (codes "a") ≡ false) (eqb-true b 97 q) e in cc)
      | false ↦ λ q. refl
    ] refl
no_verb (b ∷ c ∷ bs) e = refl

-- a group begins with its brace
abbrev Opens : Production (List Part) → Type 0
Opens I = (ts : List Token) (x : List Part) (rest : List Token) → I ts x rest → (r : List Token) × (ts ≡ token.Sign signs.OpenBrace ∷ r)

-- what may follow triples in a group: a part, or the brace that ends the group
record Follows (ts : List Token) : Type 0 where
  ends : EndsTriples ts
  not_dot : sign_at signs.Dot ts ≡ None
  not_union : keyword_at (codes "UNION") ts ≡ None

at_keyword : (w k : List ℕ) (ts : List Token) → is_keyword w k ≡ true → is_keyword k (codes "a") ≡ false → is_keyword k (codes "UNION") ≡ false → Follows (token.Word w ∷ ts)
at_keyword w k ts is no_a no_u = record { ends = at_word (no_verb w (other_keyword w k (codes "a") is no_a)); not_dot = refl; not_union = no_keyword w k (codes "UNION") ts is no_u }

module _ (n : ℕ) (I : Production (List Part)) (opens : Opens I) where
  many_opens : {ts rest : List Token} {gs : List (List Part)} → Many I UnionLink ts gs rest → (r : List Token) × (ts ≡ token.Sign signs.OpenBrace ∷ r)
  many_opens (last {ts} {r} {s} {x} i l) = opens ts x r i
  many_opens (next {ts} {r} {u} {s} {x} {xs} i l m) = opens ts x r i

  part_follows : {ts rest : List Token} {p : Part} → ReadsPart n I ts p rest → Follows ts
  part_follows (union m) = let o = many_opens m in subst Follows (sym o.1) (record { ends = at_open; not_dot = refl; not_union = refl })
  part_follows (optional {w} {ts} k i) = at_keyword w (codes "OPTIONAL") ts k refl refl
  part_follows (minus {w} {ts} k i) = at_keyword w (codes "MINUS") ts k refl refl
  part_follows (in_graph {w} {ts} k i j) = at_keyword w (codes "GRAPH") ts k refl refl
  part_follows (filter {w} {ts} k i) = at_keyword w (codes "FILTER") ts k refl refl

  parts_follow : {ts rest : List Token} {ps : List Part} → ReadsParts n I ts ps rest → Follows ts
  parts_follow close = record { ends = at_close; not_dot = refl; not_union = refl }
  parts_follow (part xs ps i d f m) = part_follows i

  not_closed : {ts rest : List Token} {p : Part} → ReadsPart n I ts p rest → sign_at signs.CloseBrace ts ≡ None
  not_closed (union m) = let o = many_opens m in subst (λ (us : List Token). sign_at signs.CloseBrace us ≡ None) (sym o.1) refl
  not_closed (optional k i) = refl
  not_closed (minus k i) = refl
  not_closed (in_graph k i j) = refl
  not_closed (filter k i) = refl

-- ---- links

or_is : {r u : List Token} → UnionLink r true u → Unit {0} × (union_link r ≡ (true, u))
or_is (or_group k) = (tt, rw k refl)

no_is : {r s : List Token} → UnionLink r false s → keyword_at (codes "UNION") s ≡ None → Unit {0} × (union_link r ≡ (false, s))
no_is no_union none = (tt, rw none refl)

node_front : (ts : List Token) → begins_node ts ≡ true → (sign_at signs.Dot ts ≡ None) × (keyword_at (codes "UNION") ts ≡ None)
node_front (token.Variable v ∷ ts) e = (refl, refl)
node_front (token.Iri i ∷ ts) e = (refl, refl)
node_front (token.Name p l ∷ ts) e = (refl, refl)
node_front (token.Blank l ∷ ts) e = (refl, refl)
node_front ts e = absurd cc

module _ (b : Below) (a : BelowAgain) where
  -- ---- triples

  front_front : {u v : List Token} {xs : List Part} → ReadsFront u xs v → Follows v → (sign_at signs.Dot u ≡ None) × (keyword_at (codes "UNION") u ≡ None)
  front_front (triples {ts} {rest} {xs} i h) f = node_front ts (a.triples_begin ts rest xs i)
  front_front no_triples f = (f.not_dot, f.not_union)

  front_again : {u v : List Token} {xs : List Part} → ReadsFront u xs v → Follows v → front_at u ≡ Some (xs, v)
  unfolding front_at unlabelled_at
  front_again (triples {ts} {rest} {xs} i h) f = rw (a.triples_begin ts rest xs i, a.triples_again ts xs rest i f.ends, h) refl
  front_again (no_triples {rest}) f = rw (a.triples_end rest f.ends) refl

  -- ---- parts

  module _ (n : ℕ) (inner : Reader (List Part)) (I : Production (List Part)) (opens : Opens I) (again : Again inner I) (consume : Consumes inner union_link) where
    unions_complete : Completes inner union_link I UnionLink (λ ts. Unit {0}) (λ ts. keyword_at (codes "UNION") ts ≡ None)
    unions_complete = record { item_again = λ {ts} {r} {x} i after. again ts x r i; goes_on = λ l i. or_is l; ends = λ l after. no_is l after }

    part_again : {ts rest : List Token} {p : Part} → ReadsPart n I ts p rest → keyword_at (codes "UNION") rest ≡ None → part_with n inner ts ≡ Some (p, rest)
    unfolding part_with union_with optional_with minus_with graph_with filter_at
    part_again (union {ts} {rest} {gs} m) none =
        let o = many_opens n I opens m in
        let read : union_with inner ts ≡ Some (Union (groups (map group gs)), rest) = ap (λ (q : Option (List (List Part) × List Token)). q >>= λ gs. Some (Union (groups (map group gs.0)), gs.1)) (many_again inner union_link consume unions_complete m none) in
        subst (λ (us : List Token). union_with inner us ≡ Some (Union (groups (map group gs)), rest) → part_with n inner us ≡ Some (Union (groups (map group gs)), rest)) (sym o.1) (λ e. e) read
    part_again (optional {w} {ts} {rest} {g} k i) none = rw (k, again ts g rest i) refl
    part_again (minus {w} {ts} {rest} {g} k i) none = rw (other_keyword w (codes "MINUS") (codes "OPTIONAL") k refl, k, again ts g rest i) refl
    part_again (in_graph {w} {ts} {r} {rest} {x} {g} k i j) none =
        rw (other_keyword w (codes "GRAPH") (codes "OPTIONAL") k refl, other_keyword w (codes "GRAPH") (codes "MINUS") k refl, k, a.name_again ts x r i, again r g rest j) refl
    part_again (filter {w} {ts} {rest} {e} k i) none =
        rw (other_keyword w (codes "FILTER") (codes "OPTIONAL") k refl, other_keyword w (codes "FILTER") (codes "MINUS") k refl, other_keyword w (codes "FILTER") (codes "GRAPH") k refl, k, a.constraint_again n ts e rest i) refl

    dot_none : {r u : List Token} → ReadsMaybeDot r u → keyword_at (codes "UNION") u ≡ None → keyword_at (codes "UNION") r ≡ None
    dot_none dot none = refl
    dot_none no_dot none = none

    item_again : {ts r u v : List Token} {p : Part} {xs : List Part} → ReadsPart n I ts p r → ReadsMaybeDot r u → ReadsFront u xs v → Follows v → item_with n inner ts ≡ Some (p ∷ xs, v)
    unfolding item_with
    item_again i d f follows =
        let g = front_front f follows in
        rw (part_again i (dot_none d g.1), dot_again d g.0, front_again f follows) refl

    items_again : Takes I → {ts rest : List Token} {ps : List Part} → ReadsParts n I ts ps rest → (k : ℕ) → length ts ≤ k → items_from (item_with n inner) k ts ≡ Some (ps, rest)
    items_again takes close zero l = absurd (omega arith)
    items_again takes close (suc k) l = refl
    items_again takes (part {ts} {r} {u} {v} {rest} {p} xs ps i d f m) zero l = absurd (let c = part_takes b n inner I takes ts p r i in omega arith)
    items_again takes (part {ts} {r} {u} {v} {rest} {p} xs ps i d f m) (suc k) l =
        let c = part_takes b n inner I takes ts p r i in
        let e = dot_keeps d in
        let g = front_shorter b u xs v f in
        rw (not_closed n I opens i, item_again i d f (parts_follow n I opens m), items_again takes m k (omega arith)) refl

    braces_again : Takes I → Again (braces_with n inner) (ReadsBraces n I)
    unfolding braces_with parts_with
    braces_again takes _ _ _ (braces {ts} {r} {rest} xs ps f m) = rw (front_again f (parts_follow n I opens m), items_again takes m (length r) (omega arith)) refl

  -- ---- groups

  group_opens : (n : ℕ) → Opens (ReadsGroup n)
  unfolding ReadsGroup
  group_opens zero ts x rest i = absurd i
  group_opens (suc n) _ _ _ (braces {ts} xs ps f m) = (ts, refl)

  pub group_again : (n : ℕ) → Again (group_at n) (ReadsGroup n)
  unfolding group_at ReadsGroup
  group_again zero ts x rest i = absurd i
  group_again (suc n) ts x rest i = braces_again n (group_at n) (ReadsGroup n) (group_opens n) (group_again n) (groups_consume (groups_shrink b) n) (group_takes b n) ts x rest i
