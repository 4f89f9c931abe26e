-- The productions of groups: what is read is in the grammar, and takes a token or more.
use Rattle.std.proofs.Common.{◌≡◌, ℕ, zero, suc, ◌≤◌, ◌<◌, Bool, true, false, cond, List, [], ◌∷◌, ◌++◌, map, length, Option, Some, None, refl, sym, subst, arith}
use Rattle.std.specs.Prelude.{codes}
use Rattle.std.specs.Option.{option_map_or}
use Rattle.std.proofs.lemmas.Option.{same_Some, cond_some}
use Rattle.iris.specs.Bracketed.{◌>>=◌}
use Rattle.iris.proofs.Options.{bind_some}
use Rattle.lexer.specs.declared.token.Token.{Token}
use Rattle.lexer.specs.declared.token.Token.TheVariants as token
use Rattle.lexer.specs.declared.token.Sign.TheVariants as signs
use Rattle.syntax_trees.specs.Groups.{Part, Triples, Union, Optional, Minus, InGraph, Filter, group, groups}
use Rattle.productions.specs.Steps.{Reader, Production, Found, Takes}
use Rattle.productions.specs.Signs.{sign_at}
use Rattle.productions.specs.Keywords.{is_keyword, keyword_at}
use Rattle.productions.specs.Many.{Many, last, next, many}
use Rattle.productions.proofs.SignLaws.{sign_found}
use Rattle.productions.proofs.KeywordLaws.{keyword_found}
use Rattle.productions.proofs.ManyLaws.{Consumes, Sounds, many_found}
use Rattle.expressions.specs.Reading.{constraint_at}
use Rattle.triples.specs.Reading.{begins_node, graph_name_at, triples_at, after_dot}
use Rattle.triples.proofs.QuadLaws.{dot_found, dot_keeps}
use Rattle.groups.specs.Reads.{are_unlabelled, ReadsFront, triples, no_triples, UnionLink, or_group, no_union, ReadsPart, union, optional, minus, in_graph, filter, ReadsParts, close, part, ReadsBraces, braces, ReadsGroup}
use Rattle.groups.specs.Reading.{behind, unlabelled_at, front_at, union_link, union_with, optional_with, minus_with, graph_with, filter_at, part_with, item_with, items_from, items, parts_with, braces_with, group_at}
use Rattle.groups.proofs.Below.{Below}
use Rattle.groups.specs.Laws.{Shrinks, GroupsShrink, ItemsShrink}

-- ---- links and dots

union_link_found : (ts : List Token) → UnionLink ts (union_link ts).0 (union_link ts).1
union_link_found ts = elim (keyword_at (codes "UNION") ts) as (λ o. keyword_at (codes "UNION") ts ≡ o → (λ (p : Bool × List Token). UnionLink ts p.0 p.1) (option_map_or (λ r. (true, r)) o (false, ts))) [
  | None ↦ λ e. no_union
  | Some r ↦ λ e. let w = keyword_found (codes "UNION") ts r e in subst (λ (us : List Token). UnionLink us true r) (sym w.2) (or_group w.1)
] refl

union_shorter : (ts : List Token) (b : Bool) (r : List Token) → UnionLink ts b r → length r ≤ length ts
union_shorter _ _ _ (or_group e) = omega arith
union_shorter _ _ _ no_union = omega arith

many_shorter : {A : Type 0} {Item : Production A} {Link : List Token → Bool → List Token → Type 0} → Takes Item → ((ts : List Token) (b : Bool) (r : List Token) → Link ts b r → length r ≤ length ts)
    → {ts rest : List Token} {xs : List A} → Many Item Link ts xs rest → length rest < length ts
many_shorter takes shorter (last {ts} {r} {s} {x} i l) = let a = takes ts x r i in let b = shorter r false s l in omega arith
many_shorter takes shorter (next {ts} {r} {u} {s} {x} {xs} i l m) = let a = takes ts x r i in let b = shorter r true u l in let c = many_shorter takes shorter m in omega arith

-- a reading that a keyword may begin
by_keyword : (P : List Token → Part × List Token → Type 0) (k : List ℕ) (f : Reader Part) (otherwise : Option (Part × List Token)) (ts : List Token) (x : Part × List Token)
    → ((w : List ℕ) (r : List Token) → is_keyword w k ≡ true → f r ≡ Some x → P (token.Word w ∷ r) x) → (otherwise ≡ Some x → P ts x)
    → option_map_or f (keyword_at k ts) otherwise ≡ Some x → P ts x
by_keyword P k f otherwise ts x with_it without =
    elim (keyword_at k ts) as (λ o. keyword_at k ts ≡ o → option_map_or f o otherwise ≡ Some x → P ts x) [
      | None ↦ λ q e. without e
      | Some r ↦ λ q e. let w = keyword_found k ts r q in subst (λ (us : List Token). P us x) (sym w.2) (with_it w.0 r w.1 e)
    ] refl

module _ (b : Below) where
  -- ---- triples

  unlabelled_found : (ts : List Token) (x : List Part × List Token) → unlabelled_at ts ≡ Some x → ReadsFront ts x.0 x.1
  unfolding unlabelled_at
  unlabelled_found ts x e =
      let xs = bind_some (triples_at ts) (λ xs. cond (are_unlabelled xs.0) (Some (Triples xs.0 ∷ [], xs.1)) None) x e in
      let g = cond_some (are_unlabelled xs.0.0) (Triples xs.0.0 ∷ [], xs.0.1) x xs.2 in
      subst (λ (y : List Part × List Token). ReadsFront ts y.0 y.1) g.1 (triples (b.triples_found ts xs.0 xs.1) g.0)

  front_found : Found front_at ReadsFront
  unfolding front_at
  front_found ts x e =
      elim (begins_node ts) as (λ c. cond c (unlabelled_at ts) (Some ([], ts)) ≡ Some x → ReadsFront ts x.0 x.1) [
        | true ↦ λ e. unlabelled_found ts x e
        | false ↦ λ e. subst (λ (y : List Part × List Token). ReadsFront ts y.0 y.1) (same_Some ([], ts) x e) no_triples
      ] e

  pub front_shorter : (ts : List Token) (xs : List Part) (rest : List Token) → ReadsFront ts xs rest → length rest ≤ length ts
  front_shorter _ _ _ (triples {ts} {rest} {xs} i u) = let a = b.triples_takes ts xs rest i in omega arith
  front_shorter _ _ _ no_triples = omega arith

  -- ---- parts

  module _ (n : ℕ) (inner : Reader (List Part)) (I : Production (List Part)) where
    abbrev IsPart : List Token → Part × List Token → Type 0
    IsPart ts x = ReadsPart n I ts x.0 x.1

    union_found : Found inner I → Found (union_with inner) (ReadsPart n I)
    unfolding union_with
    union_found found ts x e =
        let gs = bind_some (many inner union_link ts) (λ gs. Some (Union (groups (map group gs.0)), gs.1)) x e in
        let sound : Sounds inner union_link I UnionLink = record { item_found = found; link_found = union_link_found } in
        subst (IsPart ts) (same_Some (Union (groups (map group gs.0.0)), gs.0.1) x gs.2) (union (many_found inner union_link sound (length ts) ts gs.0 gs.1))

    optional_found : Found inner I → (ts : List Token) (x : Part × List Token) (w : List ℕ) (r : List Token) → is_keyword w (codes "OPTIONAL") ≡ true → optional_with inner r ≡ Some x → IsPart (token.Word w ∷ r) x
    unfolding optional_with
    optional_found found ts x w r k e =
        let g = bind_some (inner r) (λ g. Some (Optional (group g.0), g.1)) x e in
        subst (IsPart (token.Word w ∷ r)) (same_Some (Optional (group g.0.0), g.0.1) x g.2) (optional k (found r g.0 g.1))

    minus_found : Found inner I → (ts : List Token) (x : Part × List Token) (w : List ℕ) (r : List Token) → is_keyword w (codes "MINUS") ≡ true → minus_with inner r ≡ Some x → IsPart (token.Word w ∷ r) x
    unfolding minus_with
    minus_found found ts x w r k e =
        let g = bind_some (inner r) (λ g. Some (Minus (group g.0), g.1)) x e in
        subst (IsPart (token.Word w ∷ r)) (same_Some (Minus (group g.0.0), g.0.1) x g.2) (minus k (found r g.0 g.1))

    graph_found : Found inner I → (ts : List Token) (x : Part × List Token) (w : List ℕ) (r : List Token) → is_keyword w (codes "GRAPH") ≡ true → graph_with inner r ≡ Some x → IsPart (token.Word w ∷ r) x
    unfolding graph_with
    graph_found found ts x w r k e =
        let y = bind_some (graph_name_at r) (λ y. inner y.1 >>= λ g. Some (InGraph y.0 (group g.0), g.1)) x e in
        let g = bind_some (inner y.0.1) (λ g. Some (InGraph y.0.0 (group g.0), g.1)) x y.2 in
        subst (IsPart (token.Word w ∷ r)) (same_Some (InGraph y.0.0 (group g.0.0), g.0.1) x g.2) (in_graph k (b.name_found r y.0 y.1) (found y.0.1 g.0 g.1))

    filter_found : (ts : List Token) (x : Part × List Token) (w : List ℕ) (r : List Token) → is_keyword w (codes "FILTER") ≡ true → filter_at n r ≡ Some x → IsPart (token.Word w ∷ r) x
    unfolding filter_at
    filter_found ts x w r k e =
        let f = bind_some (constraint_at n r) (λ f. Some (Filter f.0, f.1)) x e in
        subst (IsPart (token.Word w ∷ r)) (same_Some (Filter f.0.0, f.0.1) x f.2) (filter k (b.constraint_found n r f.0 f.1))

    part_found : Found inner I → Found (part_with n inner) (ReadsPart n I)
    unfolding part_with
    part_found found ts x =
        by_keyword IsPart (codes "OPTIONAL") (optional_with inner) _ ts x (optional_found found ts x)
        (by_keyword IsPart (codes "MINUS") (minus_with inner) _ ts x (minus_found found ts x)
        (by_keyword IsPart (codes "GRAPH") (graph_with inner) _ ts x (graph_found found ts x)
        (by_keyword IsPart (codes "FILTER") (filter_at n) _ ts x (filter_found ts x)
        (union_found found ts x))))

    pub part_takes : Takes I → Takes (ReadsPart n I)
    part_takes takes _ _ _ (union m) = many_shorter takes union_shorter m
    part_takes takes _ _ _ (optional {w} {ts} {rest} {g} k i) = let a = takes ts g rest i in omega arith
    part_takes takes _ _ _ (minus {w} {ts} {rest} {g} k i) = let a = takes ts g rest i in omega arith
    part_takes takes _ _ _ (in_graph {w} {ts} {r} {rest} {x} {g} k i j) = let a = b.name_takes ts x r i in let c = takes r g rest j in omega arith
    part_takes takes _ _ _ (filter {w} {ts} {rest} {e} k i) = let a = b.constraint_takes n ts e rest i in omega arith

    -- ---- items

    pub record ItemFound (ts : List Token) (x : List Part × List Token) : Type 0 where
      pub p : Part
      pub r : List Token
      pub xs : List Part
      pub part_is : part_with n inner ts ≡ Some (p, r)
      pub front_is : front_at (after_dot r) ≡ Some (xs, x.1)
      pub is : p ∷ xs ≡ x.0

    pub item_found : (ts : List Token) (x : List Part × List Token) → item_with n inner ts ≡ Some x → ItemFound ts x
    unfolding item_with
    item_found ts x e =
        let p = bind_some (part_with n inner ts) (λ p. front_at (after_dot p.1) >>= λ xs. Some (p.0 ∷ xs.0, xs.1)) x e in
        let xs = bind_some (front_at (after_dot p.0.1)) (λ xs. Some (p.0.0 ∷ xs.0, xs.1)) x p.2 in
        let made : List Part × List Token = (p.0.0 ∷ xs.0.0, xs.0.1) in
        subst (ItemFound ts) (same_Some made x xs.2) (record { p = p.0.0; r = p.0.1; xs = xs.0.0; part_is = p.1; front_is = xs.1; is = refl })

    item_shrinks : Found inner I → Takes I → Shrinks (item_with n inner)
    item_shrinks found takes ts x e =
        let i = item_found ts x e in
        let a = part_takes takes ts i.p i.r (part_found found ts (i.p, i.r) i.part_is) in
        let c = dot_keeps (dot_found i.r) in
        let d = front_shorter (after_dot i.r) i.xs x.1 (front_found (after_dot i.r) (i.xs, x.1) i.front_is) in
        omega arith

    items_found : Found inner I → (k : ℕ) (ts : List Token) (x : List Part × List Token) → items_from (item_with n inner) k ts ≡ Some x → ReadsParts n I ts x.0 x.1
    items_found found zero ts x e = absurd cc
    items_found found (suc k) ts x e =
        elim (sign_at signs.CloseBrace ts) as (λ o. sign_at signs.CloseBrace ts ≡ o → option_map_or (λ rest. Some ([], rest)) o (item_with n inner ts >>= λ y. behind y.0 (items_from (item_with n inner) k y.1)) ≡ Some x → ReadsParts n I ts x.0 x.1) [
          | Some r ↦ λ q e.
              subst (λ (y : List Part × List Token). ReadsParts n I ts y.0 y.1) (same_Some ([], r) x e)
              (subst (λ (us : List Token). ReadsParts n I us [] r) (sym (sign_found signs.CloseBrace ts r q)) close)
          | None ↦ λ q e.
              let y = bind_some (item_with n inner ts) (λ y. behind y.0 (items_from (item_with n inner) k y.1)) x e in
              let z = bind_some (items_from (item_with n inner) k y.0.1) (λ z. Some (y.0.0 ++ z.0, z.1)) x y.2 in
              let i = item_found ts y.0 y.1 in
              subst (λ (v : List Part × List Token). ReadsParts n I ts v.0 v.1) (same_Some (y.0.0 ++ z.0.0, z.0.1) x z.2)
              (subst (λ (ps : List Part). ReadsParts n I ts (ps ++ z.0.0) z.0.1) i.is
              (part i.xs z.0.0 (part_found found ts (i.p, i.r) i.part_is) (dot_found i.r) (front_found (after_dot i.r) (i.xs, y.0.1) i.front_is) (items_found found k y.0.1 z.0 z.1)))
        ] refl e

    parts_takes : Takes I → Takes (ReadsParts n I)
    parts_takes takes _ _ _ close = omega arith
    parts_takes takes _ _ _ (part {ts} {r} {u} {v} {rest} {p} xs ps i d f m) =
        let a = part_takes takes ts p r i in
        let c = dot_keeps d in
        let e = front_shorter u xs v f in
        let g = parts_takes takes v ps rest m in
        omega arith

    behind_found : Found inner I → (ts : List Token) (xs : List Part) (r : List Token) (x : List Part × List Token) → ReadsFront ts xs r → behind xs (items (item_with n inner) r) ≡ Some x → ReadsBraces n I (token.Sign signs.OpenBrace ∷ ts) x.0 x.1
    behind_found found ts xs r x front e =
        let ps = bind_some (items (item_with n inner) r) (λ ps. Some (xs ++ ps.0, ps.1)) x e in
        subst (λ (y : List Part × List Token). ReadsBraces n I (token.Sign signs.OpenBrace ∷ ts) y.0 y.1) (same_Some (xs ++ ps.0.0, ps.0.1) x ps.2) (braces xs ps.0.0 front (items_found found (length r) r ps.0 ps.1))

    braces_found : Found inner I → Found (braces_with n inner) (ReadsBraces n I)
    unfolding braces_with parts_with
    braces_found found ts x e =
        let r = bind_some (sign_at signs.OpenBrace ts) (λ r. front_at r >>= λ xs. behind xs.0 (items (item_with n inner) xs.1)) x e in
        let xs = bind_some (front_at r.0) (λ xs. behind xs.0 (items (item_with n inner) xs.1)) x r.2 in
        subst (λ (us : List Token). ReadsBraces n I us x.0 x.1) (sym (sign_found signs.OpenBrace ts r.0 r.1))
        (behind_found found r.0 xs.0.0 xs.0.1 x (front_found r.0 xs.0 xs.1) xs.2)

    braces_takes : Takes I → Takes (ReadsBraces n I)
    braces_takes takes _ _ _ (braces {ts} {r} {rest} xs ps f m) = let a = front_shorter ts xs r f in let c = parts_takes takes r ps rest m in omega arith

  -- ---- groups

  pub group_found : (n : ℕ) → Found (group_at n) (ReadsGroup n)
  unfolding group_at ReadsGroup
  group_found zero ts x e = absurd cc
  group_found (suc n) ts x e = braces_found n (group_at n) (ReadsGroup n) (group_found n) ts x e

  pub group_takes : (n : ℕ) → Takes (ReadsGroup n)
  unfolding ReadsGroup
  group_takes zero ts x rest i = absurd i
  group_takes (suc n) ts x rest i = braces_takes n (group_at n) (ReadsGroup n) (group_takes n) ts x rest i

  -- ---- that the loops end

  pub groups_shrink : GroupsShrink
  groups_shrink n ts x e = group_takes n ts x.0 x.1 (group_found n ts x e)

  pub items_shrink : ItemsShrink
  items_shrink n = item_shrinks n (group_at n) (ReadsGroup n) (group_found n) (group_takes n)

pub groups_consume : GroupsShrink → (n : ℕ) → Consumes (group_at n) union_link
groups_consume shrink n = record { item_takes = shrink n; link_takes = λ ts. union_shorter ts (union_link ts).0 (union_link ts).1 (union_link_found ts) }
