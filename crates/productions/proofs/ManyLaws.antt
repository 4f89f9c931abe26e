-- Items one after another: reading them, whichever the item and the link are.
use Rattle.std.proofs.Common.{◌≡◌, ℕ, zero, suc, ◌≤◌, ◌<◌, Bool, true, false, cond, List, [], ◌∷◌, ◌++◌, length, Option, Some, None, refl, sym, ap, ◌∙◌, subst, arith, append_assoc}
use Rattle.std.proofs.lemmas.Option.{same_Some}
use Rattle.iris.specs.Bracketed.{◌>>=◌}
use Rattle.iris.proofs.Options.{bind_some}
use Rattle.lexer.specs.declared.token.Token.{Token}
use Rattle.productions.specs.Many.{Many, last, next, many_from, many}

module _ {A : Type 0} (item : List Token → Option (A × List Token)) (link : List Token → Bool × List Token) where
  -- an item takes a token or more, and a link puts none back
  pub record Consumes : Type 0 where
    pub item_takes : (ts : List Token) (x : A × List Token) → item ts ≡ Some x → length x.1 < length ts
    pub link_takes : (ts : List Token) → length (link ts).1 ≤ length ts

  abbrev go_on : ℕ → A × List Token → Bool → Option (List A × List Token)
  go_on n x b = cond b (many_from item link n (link x.1).1 >>= λ xs. Some (x.0 ∷ xs.0, xs.1)) (Some (x.0 ∷ [], (link x.1).1))

  pub many_enough : Consumes → (n m : ℕ) (ts : List Token) → length ts ≤ n → length ts ≤ m → many_from item link n ts ≡ many_from item link m ts
  many_enough c zero zero ts hn hm = refl
  many_enough c zero (suc m) ts hn hm =
      elim (item ts) as (λ o. item ts ≡ o → None ≡ (o >>= λ x. go_on m x (link x.1).0)) [ None ↦ λ o. refl | Some x ↦ λ o. absurd (let t = c.item_takes ts x o in omega arith) ] refl
  many_enough c (suc n) zero ts hn hm =
      elim (item ts) as (λ o. item ts ≡ o → (o >>= λ x. go_on n x (link x.1).0) ≡ None) [ None ↦ λ o. refl | Some x ↦ λ o. absurd (let t = c.item_takes ts x o in omega arith) ] refl
  many_enough c (suc n) (suc m) ts hn hm =
      elim (item ts) as (λ o. item ts ≡ o → (o >>= λ x. go_on n x (link x.1).0) ≡ (o >>= λ x. go_on m x (link x.1).0)) [
        | None ↦ λ o. refl
        | Some x ↦ λ o.
            let t = c.item_takes ts x o in
            let l = c.link_takes x.1 in
            ap (λ (r : Option (List A × List Token)). cond (link x.1).0 (r >>= λ xs. Some (x.0 ∷ xs.0, xs.1)) (Some (x.0 ∷ [], (link x.1).1))) (many_enough c n m (link x.1).1 (omega arith) (omega arith))
      ] refl

  -- ---- the loop

  abbrev pub with_front : List A → Option (List A × List Token) → Option (List A × List Token)
  with_front front read = read >>= λ x. Some (front ++ x.0, x.1)

  unrolled : Consumes → (ts : List Token) → many item link ts ≡ (item ts >>= λ x. go_on (length ts) x (link x.1).0)
  unrolled c ts = many_enough c (length ts) (suc (length ts)) ts (omega arith) (omega arith)

  regroup : (front : List A) (x : A) (read : Option (List A × List Token)) → with_front front (read >>= λ xs. Some (x ∷ xs.0, xs.1)) ≡ with_front (front ++ x ∷ []) read
  regroup front x None = refl
  regroup front x (Some xs) = ap (λ (ys : List A). let r : Option (List A × List Token) = Some (ys, xs.1) in r) (sym (append_assoc front (x ∷ []) xs.0))

  pub many_next : Consumes → (front : List A) (ts : List Token) (x : A) (r u : List Token) → item ts ≡ Some (x, r) → link r ≡ (true, u) → with_front front (many item link ts) ≡ with_front (front ++ x ∷ []) (many item link u)
  many_next c front ts x r u item-is link-is =
      let t = c.item_takes ts (x, r) item-is in
      let l = c.link_takes r in
      let l-is : length (link r).1 ≡ length u = ap (λ (p : Bool × List Token). length p.1) link-is in
      let same : many_from item link (length ts) u ≡ many item link u = many_enough c (length ts) (length u) u (omega arith) (omega arith) in
      ap (with_front front) (unrolled c ts ∙ ap (λ (o : Option (A × List Token)). o >>= λ x. go_on (length ts) x (link x.1).0) item-is
      ∙ ap (λ (p : Bool × List Token). cond p.0 (many_from item link (length ts) p.1 >>= λ xs. Some (x ∷ xs.0, xs.1)) (Some (x ∷ [], p.1))) link-is
      ∙ ap (λ (r : Option (List A × List Token)). r >>= λ xs. Some (x ∷ xs.0, xs.1)) same)
      ∙ regroup front x (many item link u)

  pub many_last : Consumes → (front : List A) (ts : List Token) (x : A) (r u : List Token) → item ts ≡ Some (x, r) → link r ≡ (false, u) → with_front front (many item link ts) ≡ Some (front ++ x ∷ [], u)
  many_last c front ts x r u item-is link-is =
      ap (with_front front) (unrolled c ts ∙ ap (λ (o : Option (A × List Token)). o >>= λ x. go_on (length ts) x (link x.1).0) item-is
      ∙ ap (λ (p : Bool × List Token). cond p.0 (many_from item link (length ts) p.1 >>= λ xs. Some (x ∷ xs.0, xs.1)) (Some (x ∷ [], p.1))) link-is)

  pub no_front : (read : Option (List A × List Token)) → with_front [] read ≡ read
  no_front None = refl
  no_front (Some x) = refl

  -- what is left to read, and what was read
  abbrev pub so_far : Bool → List A → List Token → Option (List A × List Token)
  so_far goes_on front ts = cond goes_on (with_front front (many item link ts)) (Some (front, ts))

  pub many_step : Consumes → (front : List A) (ts : List Token) (x : A) (r : List Token) (p : Bool × List Token) → item ts ≡ Some (x, r) → p ≡ link r → so_far p.0 (front ++ x ∷ []) p.1 ≡ with_front front (many item link ts)
  many_step c front ts x r (true, u) item-is link-is = sym (many_next c front ts x r u item-is (sym link-is))
  many_step c front ts x r (false, u) item-is link-is = sym (many_last c front ts x r u item-is (sym link-is))

  pub step_smaller : Consumes → (ts : List Token) (x : A) (r : List Token) (p : Bool × List Token) → item ts ≡ Some (x, r) → p ≡ link r → length p.1 < length ts
  step_smaller c ts x r p item-is link-is =
      let t = c.item_takes ts (x, r) item-is in
      let l = c.link_takes r in
      let same : length p.1 ≡ length (link r).1 = ap (λ (q : Bool × List Token). length q.1) link-is in
      omega arith

  -- ---- against the grammar

  pub record Sounds (Item : List Token → A → List Token → Type 0) (Link : List Token → Bool → List Token → Type 0) : Type 0 where
    pub item_found : (ts : List Token) (x : A × List Token) → item ts ≡ Some x → Item ts x.0 x.1
    pub link_found : (ts : List Token) → Link ts (link ts).0 (link ts).1

  pub many_found : {Item : List Token → A → List Token → Type 0} {Link : List Token → Bool → List Token → Type 0} → Sounds Item Link
      → (n : ℕ) (ts : List Token) (x : List A × List Token) → many_from item link n ts ≡ Some x → Many Item Link ts x.0 x.1
  many_found s zero ts x e = absurd cc
  many_found {Item = Item} {Link = Link} s (suc n) ts x e =
      let y = bind_some (item ts) (λ x. go_on n x (link x.1).0) x e in
      let i = s.item_found ts y.0 y.1 in
      elim (link y.0.1).0 as (λ b. Link y.0.1 b (link y.0.1).1 → go_on n y.0 b ≡ Some x → Many Item Link ts x.0 x.1) [
        | true ↦ λ l h.
            let xs = bind_some (many_from item link n (link y.0.1).1) (λ xs. Some (y.0.0 ∷ xs.0, xs.1)) x h in
            subst (λ (p : List A × List Token). Many Item Link ts p.0 p.1) (same_Some (y.0.0 ∷ xs.0.0, xs.0.1) x xs.2) (next i l (many_found s n (link y.0.1).1 xs.0 xs.1))
        | false ↦ λ l h. subst (λ (p : List A × List Token). Many Item Link ts p.0 p.1) (same_Some (y.0.0 ∷ [], (link y.0.1).1) x h) (last i l)
      ] (s.link_found y.0.1) y.2

  -- where a list may stop, an item may stop, and no next one begins
  pub record Completes (Item : List Token → A → List Token → Type 0) (Link : List Token → Bool → List Token → Type 0) (AfterItem AfterAll : List Token → Type 0) : Type 0 where
    pub item_again : {ts r : List Token} {x : A} → Item ts x r → AfterItem r → item ts ≡ Some (x, r)
    pub goes_on : {r u s : List Token} {x : A} → Link r true u → Item u x s → AfterItem r × (link r ≡ (true, u))
    pub ends : {r s : List Token} → Link r false s → AfterAll s → AfterItem r × (link r ≡ (false, s))

  first_item : {Item : List Token → A → List Token → Type 0} {Link : List Token → Bool → List Token → Type 0} {ts s : List Token} {xs : List A} → Many Item Link ts xs s → (x : A) × (r : List Token) × Item ts x r
  first_item (last {r = r} {x = x} i l) = (x, r, i)
  first_item (next {r = r} {x = x} i l m) = (x, r, i)

  pub many_again : {Item : List Token → A → List Token → Type 0} {Link : List Token → Bool → List Token → Type 0} {AfterItem AfterAll : List Token → Type 0}
      → Consumes → Completes Item Link AfterItem AfterAll → {ts s : List Token} {xs : List A} → Many Item Link ts xs s → AfterAll s → many item link ts ≡ Some (xs, s)
  many_again c k (last {ts} {r} {s} {x} i l) after =
      let e = k.ends l after in
      sym (no_front (many item link ts)) ∙ many_last c [] ts x r s (k.item_again i e.0) e.1
  many_again c k (next {ts} {r} {u} {s} {x} {xs} i l m) after =
      let f = first_item m in
      let e = k.goes_on l f.2 in
      sym (no_front (many item link ts)) ∙ many_next c [] ts x r u (k.item_again i e.0) e.1
      ∙ ap (with_front (x ∷ [])) (many_again c k m after)
