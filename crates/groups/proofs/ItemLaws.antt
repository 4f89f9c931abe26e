-- Items up to the brace that ends them: reading them, whichever the item is.
use Rattle.std.proofs.Common.{◌≡◌, ℕ, zero, suc, ◌≤◌, List, [], ◌++◌, length, Option, Some, None, refl, sym, ap, ◌∙◌, arith, append_assoc}
use Rattle.std.specs.Option.{option_map_or}
use Rattle.iris.specs.Bracketed.{◌>>=◌}
use Rattle.lexer.specs.declared.token.Token.{Token}
use Rattle.lexer.specs.declared.token.Sign.TheVariants as signs
use Rattle.syntax_trees.specs.Groups.{Part}
use Rattle.productions.specs.Steps.{Reader}
use Rattle.productions.specs.Signs.{sign_at}
use Rattle.productions.proofs.SignLaws.{sign_found}
use Rattle.groups.specs.Reading.{behind, items_from, items}
use Rattle.groups.specs.Laws.{Shrinks}

-- ---- parts before what is read

pub behind_nothing : (read : Option (List Part × List Token)) → behind [] read ≡ read
behind_nothing None = refl
behind_nothing (Some x) = refl

pub behind_both : (xs ys : List Part) (read : Option (List Part × List Token)) → behind xs (behind ys read) ≡ behind (xs ++ ys) read
behind_both xs ys None = refl
behind_both xs ys (Some x) = ap (λ (ps : List Part). let r : Option (List Part × List Token) = Some (ps, x.1) in r) (sym (append_assoc xs ys x.0))

-- ---- turns

module _ (item : Reader (List Part)) where
  abbrev ended : List Token → Option (List Part × List Token)
  ended rest = Some ([], rest)

  abbrev turn : ℕ → List Part × List Token → Option (List Part × List Token)
  turn k x = behind x.0 (items_from item k x.1)

  none_left : Shrinks item → (m : ℕ) (ts : List Token) → length ts ≤ 0 → items_from item m ts ≡ None
  none_left shrinks zero ts a = refl
  none_left shrinks (suc m) ts a =
      elim (sign_at signs.CloseBrace ts) as (λ o. sign_at signs.CloseBrace ts ≡ o → option_map_or ended o (item ts >>= turn m) ≡ None) [
        | Some r ↦ λ q. absurd (let c = ap length (sign_found signs.CloseBrace ts r q) in omega arith)
        | None ↦ λ q. elim (item ts) as (λ o. item ts ≡ o → (o >>= turn m) ≡ None) [ None ↦ λ e. refl | Some x ↦ λ e. absurd (let c = shrinks ts x e in omega arith) ] refl
      ] refl

  pub items_enough : Shrinks item → (k m : ℕ) (ts : List Token) → length ts ≤ k → length ts ≤ m → items_from item k ts ≡ items_from item m ts
  items_enough shrinks zero m ts a b = sym (none_left shrinks m ts a)
  items_enough shrinks (suc k) zero ts a b = none_left shrinks (suc k) ts b
  items_enough shrinks (suc k) (suc m) ts a b =
      elim (sign_at signs.CloseBrace ts) as (λ o. option_map_or ended o (item ts >>= turn k) ≡ option_map_or ended o (item ts >>= turn m)) [
        | Some r ↦ refl
        | None ↦ elim (item ts) as (λ o. item ts ≡ o → (o >>= turn k) ≡ (o >>= turn m)) [
          | None ↦ λ e. refl
          | Some x ↦ λ e. let c = shrinks ts x e in ap (behind x.0) (items_enough shrinks k m x.1 (omega arith) (omega arith))
        ] refl
      ]

  unrolled : Shrinks item → (ts : List Token) → items item ts ≡ items_from item (suc (length ts)) ts
  unrolled shrinks ts = items_enough shrinks (length ts) (suc (length ts)) ts (omega arith) (omega arith)

  pub items_stuck : Shrinks item → (ts : List Token) → sign_at signs.CloseBrace ts ≡ None → item ts ≡ None → items item ts ≡ None
  items_stuck shrinks ts unclosed none = unrolled shrinks ts ∙ ap (λ (o : Option (List Token)). option_map_or ended o (item ts >>= turn (length ts))) unclosed ∙ ap (λ (o : Option (List Part × List Token)). o >>= turn (length ts)) none

  pub items_next : Shrinks item → (ts : List Token) (x : List Part × List Token) → sign_at signs.CloseBrace ts ≡ None → item ts ≡ Some x → items item ts ≡ behind x.0 (items item x.1)
  items_next shrinks ts x unclosed is =
      let c = shrinks ts x is in
      unrolled shrinks ts ∙ ap (λ (o : Option (List Token)). option_map_or ended o (item ts >>= turn (length ts))) unclosed ∙ ap (λ (o : Option (List Part × List Token)). o >>= turn (length ts)) is
      ∙ ap (behind x.0) (items_enough shrinks (length ts) (length x.1) x.1 (omega arith) (omega arith))
