-- Calls, primaries and negations: what is read is in the grammar, and what is in it is read.
use Rattle.std.proofs.Common.{◌≡◌, ℕ, zero, suc, ◌<◌, true, List, [], ◌∷◌, Option, Some, None, refl, sym, ap, ◌∙◌, subst, arith}
use Rattle.std.specs.Option.{option_map_or}
use Rattle.std.proofs.lemmas.Option.{same_Some}
use Rattle.iris.specs.Bracketed.{◌>>=◌}
use Rattle.iris.proofs.Options.{bind_some}
use Rattle.lexer.specs.declared.token.Token.{Token}
use Rattle.lexer.specs.declared.token.Token.TheVariants as token
use Rattle.lexer.specs.declared.token.Sign.TheVariants as signs
use Rattle.syntax_trees.specs.declared.tree.Name.{Name}
use Rattle.syntax_trees.specs.declared.tree.Literal.{Literal}
use Rattle.syntax_trees.specs.declared.tree.Node.TheVariants as node
use Rattle.syntax_trees.specs.declared.expression.One.{One}
use Rattle.syntax_trees.specs.declared.expression.Two.{Two}
use Rattle.syntax_trees.specs.Expressions.{Tree}
use Rattle.syntax_trees.specs.Expressions as tree
use Rattle.productions.specs.Steps.{Production, Reader, Found, Takes}
use Rattle.productions.specs.Signs.{sign_at}
use Rattle.productions.specs.Keywords.{is_keyword}
use Rattle.productions.specs.Names.{ReadsName, iri, prefixed, ReadsLiteral, plain as plain_text, tagged, typed, integer, is_true, is_false}
use Rattle.productions.specs.Reading.{variable_at, name_at, literal_at}
use Rattle.productions.proofs.SignLaws.{sign_found}
use Rattle.productions.proofs.NameLaws.{variable_found, name_found, name_takes, literal_found, literal_takes, literal_again}
use Rattle.expressions.specs.declared.calls.Called.{Called}
use Rattle.expressions.specs.declared.calls.Called.TheVariants as calls
use Rattle.expressions.specs.Calls.{one_name, two_name, called_name, called_at}
use Rattle.expressions.specs.Grammar.{ReadsCall, bound, one, two, ReadsPrimary, parens, called, named, quoted, variable, ReadsNot, plain, negated}
use Rattle.expressions.specs.Reading.{named_at, quoted_at, value_at, bound_at, closed_with, one_with, two_with, inside_with, arguments_with, primary_with, not_with}
use Rattle.expressions.proofs.Words.{AgainBelow}
use Rattle.expressions.proofs.CallLaws.{called_again, true_is_not_called, false_is_not_called, called_is}

-- ---- what stands before a ')', and behind BOUND

pub closed_is : (inner : Reader Tree) (I : Production Tree) → Found inner I → (ts : List Token) (x : Tree × List Token) → closed_with inner ts ≡ Some x → I ts x.0 (token.Sign signs.CloseParen ∷ x.1)
unfolding closed_with
closed_is inner I found ts x e =
    let y = bind_some (inner ts) (λ y. sign_at signs.CloseParen y.1 >>= λ rest. Some (y.0, rest)) x e in
    let rest = bind_some (sign_at signs.CloseParen y.0.1) (λ rest. Some (y.0.0, rest)) x y.2 in
    subst (λ (z : Tree × List Token). I ts z.0 (token.Sign signs.CloseParen ∷ z.1)) (same_Some (y.0.0, rest.0) x rest.2)
    (subst (λ (us : List Token). I ts y.0.0 us) (sign_found signs.CloseParen y.0.1 rest.0 rest.1) (found ts y.0 y.1))

record BoundFound (n : ℕ) (ts : List Token) (x : Tree × List Token) : Type 0 where
  deep : 0 < n
  v : List ℕ
  cut : ts ≡ token.Variable v ∷ token.Sign signs.CloseParen ∷ x.1
  is : tree.Bound v ≡ x.0

bound_is : (n : ℕ) (ts : List Token) (x : Tree × List Token) → bound_at n ts ≡ Some x → BoundFound n ts x
unfolding bound_at
bound_is zero ts x e = absurd cc
bound_is (suc n) ts x e =
    let v = bind_some (variable_at ts) (λ v. sign_at signs.CloseParen v.1 >>= λ rest. Some (tree.Bound v.0, rest)) x e in
    let rest = bind_some (sign_at signs.CloseParen v.0.1) (λ rest. Some (tree.Bound v.0.0, rest)) x v.2 in
    let same = same_Some (tree.Bound v.0.0, rest.0) x rest.2 in
    record {
      deep = omega arith;
      v = v.0.0;
      cut = variable_found ts v.0 v.1 ∙ ap (λ (s : List Token). token.Variable v.0.0 ∷ s) (sign_found signs.CloseParen v.0.1 rest.0 rest.1 ∙ ap (λ (y : Tree × List Token). token.Sign signs.CloseParen ∷ y.1) same);
      is = ap (λ (y : Tree × List Token). y.0) same;
    }

bound_made : (n : ℕ) (v : List ℕ) (rest : List Token) → 0 < n → bound_at n (token.Variable v ∷ token.Sign signs.CloseParen ∷ rest) ≡ Some (tree.Bound v, rest)
unfolding bound_at
bound_made zero v rest deep = absurd (omega arith)
bound_made (suc n) v rest deep = refl

-- ---- calls and primaries

module _ (n : ℕ) (inner : Reader Tree) (I : Production Tree) where
  one_found : Found inner I → (w : List ℕ) (f : One) → is_keyword w (one_name f) ≡ true → (ts : List Token) (x : Tree × List Token) → one_with inner f ts ≡ Some x → ReadsCall n I (token.Word w ∷ token.Sign signs.OpenParen ∷ ts) x.0 x.1
  unfolding one_with
  one_found found w f k ts x e =
      let y = bind_some (closed_with inner ts) (λ y. Some (tree.Call f y.0, y.1)) x e in
      subst (λ (z : Tree × List Token). ReadsCall n I (token.Word w ∷ token.Sign signs.OpenParen ∷ ts) z.0 z.1) (same_Some (tree.Call f y.0.0, y.0.1) x y.2) (one k (closed_is inner I found ts y.0 y.1))

  two_found : Found inner I → (w : List ℕ) (f : Two) → is_keyword w (two_name f) ≡ true → (ts : List Token) (x : Tree × List Token) → two_with inner f ts ≡ Some x → ReadsCall n I (token.Word w ∷ token.Sign signs.OpenParen ∷ ts) x.0 x.1
  unfolding two_with
  two_found found w f k ts x e =
      let d = bind_some (inner ts) (λ d. sign_at signs.Comma d.1 >>= λ us. closed_with inner us >>= λ y. Some (tree.CallTwo f d.0 y.0, y.1)) x e in
      let us = bind_some (sign_at signs.Comma d.0.1) (λ us. closed_with inner us >>= λ y. Some (tree.CallTwo f d.0.0 y.0, y.1)) x d.2 in
      let y = bind_some (closed_with inner us.0) (λ y. Some (tree.CallTwo f d.0.0 y.0, y.1)) x us.2 in
      let first : I ts d.0.0 (token.Sign signs.Comma ∷ us.0) = subst (λ (vs : List Token). I ts d.0.0 vs) (sign_found signs.Comma d.0.1 us.0 us.1) (found ts d.0 d.1) in
      let made : Tree × List Token = (tree.CallTwo f d.0.0 y.0.0, y.0.1) in
      subst (λ (z : Tree × List Token). ReadsCall n I (token.Word w ∷ token.Sign signs.OpenParen ∷ ts) z.0 z.1) {x = (tree.CallTwo f d.0.0 y.0.0, y.0.1)} (same_Some made x y.2) (two k first (closed_is inner I found us.0 y.0 y.1))

  inside_found : Found inner I → (w : List ℕ) (c : Called) → is_keyword w (called_name c) ≡ true → (ts : List Token) (x : Tree × List Token) → inside_with n inner c ts ≡ Some x → ReadsCall n I (token.Word w ∷ token.Sign signs.OpenParen ∷ ts) x.0 x.1
  inside_found found w calls.Bound k ts x e =
      let b = bound_is n ts x e in
      subst (λ (us : List Token). ReadsCall n I (token.Word w ∷ token.Sign signs.OpenParen ∷ us) x.0 x.1) (sym b.cut)
      (subst (λ (t : Tree). ReadsCall n I (token.Word w ∷ token.Sign signs.OpenParen ∷ token.Variable b.v ∷ token.Sign signs.CloseParen ∷ x.1) t x.1) b.is (bound k b.deep))
  inside_found found w (calls.One f) k ts x e = one_found found w f k ts x e
  inside_found found w (calls.Two f) k ts x e = two_found found w f k ts x e

  pub call_found : Found inner I → (ts : List Token) (c : Called × List Token) → called_at ts ≡ Some c → (x : Tree × List Token) → arguments_with n inner c.0 c.1 ≡ Some x → ReadsCall n I ts x.0 x.1
  unfolding arguments_with
  call_found found ts c q x e =
      let f = called_is ts c q in
      let r = bind_some (sign_at signs.OpenParen c.1) (λ r. inside_with n inner c.0 r) x e in
      subst (λ (us : List Token). ReadsCall n I us x.0 x.1) (sym (f.cut ∙ ap (λ (us : List Token). token.Word f.w ∷ us) (sign_found signs.OpenParen c.1 r.0 r.1)))
      (inside_found found f.w c.0 f.is r.0 x r.2)

  named_found : (ts : List Token) (x : Tree × List Token) → named_at ts ≡ Some x → ReadsPrimary n I ts x.0 x.1
  unfolding named_at
  named_found ts x e =
      let y = bind_some (name_at ts) (λ y. Some (tree.Value (node.Name y.0), y.1)) x e in
      subst (λ (z : Tree × List Token). ReadsPrimary n I ts z.0 z.1) (same_Some (tree.Value (node.Name y.0.0), y.0.1) x y.2) (named (name_found ts y.0 y.1))

  quoted_found : (ts : List Token) (x : Tree × List Token) → quoted_at ts ≡ Some x → ReadsPrimary n I ts x.0 x.1
  unfolding quoted_at
  quoted_found ts x e =
      let y = bind_some (literal_at ts) (λ y. Some (tree.Value (node.Literal y.0), y.1)) x e in
      subst (λ (z : Tree × List Token). ReadsPrimary n I ts z.0 z.1) (same_Some (tree.Value (node.Literal y.0.0), y.0.1) x y.2) (quoted (literal_found ts y.0 y.1))

  value_found : (ts : List Token) (x : Tree × List Token) → value_at ts ≡ Some x → ReadsPrimary n I ts x.0 x.1
  value_found [] x e = absurd cc
  value_found (token.Variable v ∷ ts) x e = subst (λ (z : Tree × List Token). ReadsPrimary n I (token.Variable v ∷ ts) z.0 z.1) (same_Some (tree.Value (node.Variable v), ts) x e) variable
  value_found (token.Iri i ∷ ts) x e = named_found (token.Iri i ∷ ts) x e
  value_found (token.Name p l ∷ ts) x e = named_found (token.Name p l ∷ ts) x e
  value_found ts x e = quoted_found ts x e

  primary_found : Found inner I → Found (primary_with n inner) (ReadsPrimary n I)
  unfolding primary_with
  primary_found found ts x e =
      elim (sign_at signs.OpenParen ts) as (λ o. sign_at signs.OpenParen ts ≡ o → option_map_or (closed_with inner) o (option_map_or (λ c. arguments_with n inner c.0 c.1) (called_at ts) (value_at ts)) ≡ Some x → ReadsPrimary n I ts x.0 x.1) [
        | None ↦ λ q e. elim (called_at ts) as (λ o. called_at ts ≡ o → option_map_or (λ c. arguments_with n inner c.0 c.1) o (value_at ts) ≡ Some x → ReadsPrimary n I ts x.0 x.1) [
          | None ↦ λ q e. value_found ts x e
          | Some c ↦ λ q e. called (call_found found ts c q x e)
        ] refl e
        | Some r ↦ λ q e. subst (λ (us : List Token). ReadsPrimary n I us x.0 x.1) (sym (sign_found signs.OpenParen ts r q)) (parens (closed_is inner I found r x e))
      ] refl e

  pub not_found : Found inner I → Found (not_with n inner) (ReadsNot n I)
  unfolding not_with
  not_found found ts x e =
      elim (sign_at signs.Bang ts) as (λ o. sign_at signs.Bang ts ≡ o → option_map_or (λ r. primary_with n inner r >>= λ x. Some (tree.Not x.0, x.1)) o (primary_with n inner ts) ≡ Some x → ReadsNot n I ts x.0 x.1) [
        | None ↦ λ q e. plain (primary_found found ts x e)
        | Some r ↦ λ q e.
            let y = bind_some (primary_with n inner r) (λ y. Some (tree.Not y.0, y.1)) x e in
            subst (λ (us : List Token). ReadsNot n I us x.0 x.1) (sym (sign_found signs.Bang ts r q))
            (subst (λ (z : Tree × List Token). ReadsNot n I (token.Sign signs.Bang ∷ r) z.0 z.1) (same_Some (tree.Not y.0.0, y.0.1) x y.2) (negated (primary_found found r y.0 y.1)))
      ] refl e

  -- ---- they take a token or more

  pub call_takes : Takes I → Takes (ReadsCall n I)
  call_takes takes _ _ _ (bound k deep) = omega arith
  call_takes takes _ _ _ (one {w} {ts} {rest} {f} {e} k i) = let a = takes ts e (token.Sign signs.CloseParen ∷ rest) i in omega arith
  call_takes takes _ _ _ (two {w} {ts} {us} {rest} {f} {d} {e} k i j) = let a = takes ts d (token.Sign signs.Comma ∷ us) i in let b = takes us e (token.Sign signs.CloseParen ∷ rest) j in omega arith

  primary_takes : Takes I → Takes (ReadsPrimary n I)
  primary_takes takes _ _ _ (parens {ts} {rest} {e} i) = let a = takes ts e (token.Sign signs.CloseParen ∷ rest) i in omega arith
  primary_takes takes _ _ _ (called {ts} {rest} {e} c) = call_takes takes ts e rest c
  primary_takes takes _ _ _ (named {ts} {rest} {x} m) = name_takes ts x rest m
  primary_takes takes _ _ _ (quoted {ts} {rest} {x} m) = literal_takes ts x rest m
  primary_takes takes _ _ _ variable = omega arith

  pub not_takes : Takes I → Takes (ReadsNot n I)
  not_takes takes _ _ _ (plain {ts} {rest} {e} p) = primary_takes takes ts e rest p
  not_takes takes _ _ _ (negated {ts} {rest} {e} p) = let a = primary_takes takes ts e rest p in omega arith

  -- ---- what is in the grammar is read

  pub closed_made : AgainBelow 0 inner I → (ts : List Token) (e : Tree) (rest : List Token) → I ts e (token.Sign signs.CloseParen ∷ rest) → closed_with inner ts ≡ Some (e, rest)
  unfolding closed_with
  closed_made again ts e rest i = rw (again ts e (token.Sign signs.CloseParen ∷ rest) i (omega arith)) refl

  -- what a call is read by
  abbrev from_call : List Token → Option (Tree × List Token) → Option (Tree × List Token)
  from_call ts other = option_map_or (λ c. arguments_with n inner c.0 c.1) (called_at ts) other

  pub call_again : AgainBelow 0 inner I → (other : Option (Tree × List Token)) (ts : List Token) (e : Tree) (rest : List Token) → ReadsCall n I ts e rest → from_call ts other ≡ Some (e, rest)
  unfolding arguments_with one_with two_with
  call_again again other _ _ _ (bound {w} {v} {rest} k deep) = rw (called_again w calls.Bound k, bound_made n v rest deep) refl
  call_again again other _ _ _ (one {w} {ts} {rest} {f} {e} k i) = rw (called_again w (calls.One f) k, closed_made again ts e rest i) refl
  call_again again other _ _ _ (two {w} {ts} {us} {rest} {f} {d} {e} k i j) = rw (called_again w (calls.Two f) k, again ts d (token.Sign signs.Comma ∷ us) i (omega arith), closed_made again us e rest j) refl

  pub call_no_paren : {ts rest : List Token} {e : Tree} → ReadsCall n I ts e rest → sign_at signs.OpenParen ts ≡ None
  call_no_paren (bound k deep) = refl
  call_no_paren (one k i) = refl
  call_no_paren (two k i j) = refl

  name_again_here : {ts rest : List Token} {x : Name} → ReadsName ts x rest → primary_with n inner ts ≡ Some (tree.Value (node.Name x), rest)
  unfolding primary_with named_at
  name_again_here iri = refl
  name_again_here prefixed = refl

  literal_front : {ts rest : List Token} {x : Literal} → ReadsLiteral ts x rest → primary_with n inner ts ≡ quoted_at ts
  unfolding primary_with
  literal_front (plain_text none) = refl
  literal_front tagged = refl
  literal_front (typed m) = refl
  literal_front integer = refl
  literal_front (is_true {w} k) = rw (true_is_not_called w k) refl
  literal_front (is_false {w} k) = rw (false_is_not_called w k) refl

  quoted_again : {ts rest : List Token} {x : Literal} → ReadsLiteral ts x rest → quoted_at ts ≡ Some (tree.Value (node.Literal x), rest)
  unfolding quoted_at
  quoted_again {ts} {rest} {x} m = rw (literal_again ts x rest m) refl

  primary_again : AgainBelow 0 inner I → (ts : List Token) (e : Tree) (rest : List Token) → ReadsPrimary n I ts e rest → primary_with n inner ts ≡ Some (e, rest)
  unfolding primary_with
  primary_again again _ _ _ (parens {ts} {rest} {e} i) = closed_made again ts e rest i
  primary_again again _ _ _ (called {ts} {rest} {e} c) = rw (call_no_paren c) (call_again again (value_at ts) ts e rest c)
  primary_again again _ _ _ (named m) = name_again_here m
  primary_again again _ _ _ (quoted m) = literal_front m ∙ quoted_again m
  primary_again again _ _ _ variable = refl

  -- no primary begins with `!`
  no_bang : {ts rest : List Token} {e : Tree} → ReadsPrimary n I ts e rest → sign_at signs.Bang ts ≡ None
  no_bang (parens i) = refl
  no_bang (called (bound k deep)) = refl
  no_bang (called (one k i)) = refl
  no_bang (called (two k i j)) = refl
  no_bang (named iri) = refl
  no_bang (named prefixed) = refl
  no_bang (quoted (plain_text none)) = refl
  no_bang (quoted tagged) = refl
  no_bang (quoted (typed m)) = refl
  no_bang (quoted integer) = refl
  no_bang (quoted (is_true k)) = refl
  no_bang (quoted (is_false k)) = refl
  no_bang variable = refl

  pub not_again : AgainBelow 0 inner I → (r : ℕ) → AgainBelow r (not_with n inner) (ReadsNot n I)
  unfolding not_with
  not_again again r _ _ _ (plain {ts} {rest} {e} p) h = rw (no_bang p) (primary_again again ts e rest p)
  not_again again r _ _ _ (negated {ts} {rest} {e} p) h = rw (primary_again again ts e rest p) refl
