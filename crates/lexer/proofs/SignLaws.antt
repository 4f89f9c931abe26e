-- Signs: what is read is one, and each is read, or a longer one.
use Rattle.std.proofs.Common.{◌≡◌, ℕ, ◌≤◌, true, ◌&&◌, eqb, List, [], ◌∷◌, ◌++◌, length, Option, Some, None, refl, sym, ap, ◌∙◌, arith}
use Rattle.std.specs.Option.{option_map}
use Rattle.std.proofs.lemmas.Bool.{eqb-true, and_parts}
use Rattle.std.proofs.lemmas.Option.{same_Some, none-some}
use Rattle.lexer.specs.declared.token.Token.{Token}
use Rattle.lexer.specs.declared.token.Token.TheVariants as token
use Rattle.lexer.specs.declared.token.Sign.{Sign}
use Rattle.lexer.specs.declared.token.Sign.TheVariants as signs
use Rattle.lexer.specs.Form.{sign_text}
use Rattle.lexer.specs.Reading.{one_of, two_of, longer_sign, sign_at}
use Rattle.lexer.proofs.ByteLaws.{picked, picked_by}

-- what is read instead of a token u that r follows: as much or more
pub record At (o : Option (Token × List ℕ)) (r : List ℕ) (u : Token) : Type 0 where
  pub t : Token
  pub rest : List ℕ
  pub found : o ≡ Some (t, rest)
  pub less : length rest ≤ length r
  pub same : rest ≡ r → t ≡ u

pub exactly : (o : Option (Token × List ℕ)) (r : List ℕ) (u : Token) → o ≡ Some (u, r) → At o r u
exactly o r u e = record { t = u; rest = r; found = e; less = omega arith; same = λ e. refl }

-- ---- the tables

one_found : (b : ℕ) (s : Sign) → one_of b ≡ Some s → sign_text s ≡ b ∷ []
one_found b s e =
    let P : Sign → Type 0 = λ s. sign_text s ≡ b ∷ [] in
    let is : (n : ℕ) → b ≡ n → n ∷ [] ≡ b ∷ [] = λ n h. ap (λ (x : ℕ). x ∷ []) (sym h) in
    picked P b 123 signs.OpenBrace _ s e (is 123) (λ e.
    picked P b 125 signs.CloseBrace _ s e (is 125) (λ e.
    picked P b 40 signs.OpenParen _ s e (is 40) (λ e.
    picked P b 41 signs.CloseParen _ s e (is 41) (λ e.
    picked P b 46 signs.Dot _ s e (is 46) (λ e.
    picked P b 59 signs.Semicolon _ s e (is 59) (λ e.
    picked P b 44 signs.Comma _ s e (is 44) (λ e.
    picked P b 61 signs.Equal _ s e (is 61) (λ e.
    picked P b 60 signs.Less _ s e (is 60) (λ e.
    picked P b 62 signs.Greater _ s e (is 62) (λ e.
    picked P b 33 signs.Bang _ s e (is 33) (λ e.
    picked P b 43 signs.Plus _ s e (is 43) (λ e.
    picked P b 45 signs.Minus _ s e (is 45) (λ e.
    picked P b 42 signs.Star _ s e (is 42) (λ e. absurd (none-some s e)))))))))))))))

two_found : (b c : ℕ) (s : Sign) → two_of b c ≡ Some s → sign_text s ≡ b ∷ c ∷ []
two_found b c s e =
    let P : Sign → Type 0 = λ s. sign_text s ≡ b ∷ c ∷ [] in
    let is : (m n : ℕ) → (eqb b m && eqb c n) ≡ true → m ∷ n ∷ [] ≡ b ∷ c ∷ [] = λ m n h.
    let g = and_parts (eqb b m) (eqb c n) h in
    let first = eqb-true b m g.0 in
    let second = eqb-true c n g.1 in
    (λ i. sym first i ∷ sym second i ∷ []) in
    picked_by P (eqb b 94 && eqb c 94) signs.Carets _ s e (is 94 94) (λ e.
    picked_by P (eqb b 33 && eqb c 61) signs.NotEqual _ s e (is 33 61) (λ e.
    picked_by P (eqb b 60 && eqb c 61) signs.LessEqual _ s e (is 60 61) (λ e.
    picked_by P (eqb b 62 && eqb c 61) signs.GreaterEqual _ s e (is 62 61) (λ e.
    picked_by P (eqb b 38 && eqb c 38) signs.Ampersands _ s e (is 38 38) (λ e.
    picked_by P (eqb b 124 && eqb c 124) signs.Bars _ s e (is 124 124) (λ e. absurd (none-some s e)))))))

-- a sign has one byte or two
pub data HasBytes (s : Sign) : Type 0 where
  one : (b : ℕ) → sign_text s ≡ b ∷ [] → one_of b ≡ Some s → HasBytes s
  two : (b c : ℕ) → sign_text s ≡ b ∷ c ∷ [] → two_of b c ≡ Some s → HasBytes s

-- ---- what is read is a sign

pub record SignFound (b : ℕ) (bs : List ℕ) (t : Token) (rest : List ℕ) : Type 0 where
  pub s : Sign
  pub cut : b ∷ bs ≡ sign_text s ++ rest
  pub is : token.Sign s ≡ t

from_one : (b : ℕ) (bs : List ℕ) (t : Token) (rest : List ℕ) → longer_sign None (option_map (λ s. (s, bs)) (one_of b)) ≡ Some (t, rest) → SignFound b bs t rest
from_one b bs t rest e =
    elim (one_of b) as (λ o. one_of b ≡ o → longer_sign None (option_map (λ s. (s, bs)) o) ≡ Some (t, rest) → SignFound b bs t rest) [
      | None ↦ λ o e. absurd (none-some (t, rest) e)
      | Some s ↦ λ o e.
          let x = same_Some (token.Sign s, bs) (t, rest) e in
          record { s = s; cut = ap (λ (x : List ℕ). x ++ bs) (sym (one_found b s o)) ∙ ap (λ (y : Token × List ℕ). sign_text s ++ y.1) x; is = ap (λ (y : Token × List ℕ). y.0) x }
    ] refl e

pub sign_found : (b : ℕ) (bs : List ℕ) (t : Token) (rest : List ℕ) → sign_at b bs ≡ Some (t, rest) → SignFound b bs t rest
unfolding sign_at
sign_found b [] t rest e = from_one b [] t rest e
sign_found b (c ∷ cs) t rest e =
    elim (two_of b c) as (λ o. two_of b c ≡ o → longer_sign (option_map (λ s. (s, cs)) o) (option_map (λ s. (s, c ∷ cs)) (one_of b)) ≡ Some (t, rest) → SignFound b (c ∷ cs) t rest) [
      | None ↦ λ o e. from_one b (c ∷ cs) t rest e
      | Some s ↦ λ o e.
          let x = same_Some (token.Sign s, cs) (t, rest) e in
          record { s = s; cut = ap (λ (x : List ℕ). x ++ cs) (sym (two_found b c s o)) ∙ ap (λ (y : Token × List ℕ). sign_text s ++ y.1) x; is = ap (λ (y : Token × List ℕ). y.0) x }
    ] refl e

-- ---- and each sign is reached

pub one_reached : (b : ℕ) (r : List ℕ) (s : Sign) → one_of b ≡ Some s → At (sign_at b r) r (token.Sign s)
unfolding sign_at
one_reached b [] s e = exactly (sign_at b []) [] (token.Sign s) (rw e refl)
one_reached b (c ∷ cs) s e =
    elim (two_of b c) as (λ o. two_of b c ≡ o → At (sign_at b (c ∷ cs)) (c ∷ cs) (token.Sign s)) [
      | None ↦ λ o. exactly (sign_at b (c ∷ cs)) (c ∷ cs) (token.Sign s) (rw (o, e) refl)
      | Some u ↦ λ o. record {
        t = token.Sign u;
        rest = cs;
        found = rw o refl;
        less = omega arith;
        same = λ same. absurd (let n : length cs ≡ length (c ∷ cs) = ap length same in omega arith);
      }
    ] refl

pub two_reached : (b c : ℕ) (r : List ℕ) (s : Sign) → two_of b c ≡ Some s → At (sign_at b (c ∷ r)) r (token.Sign s)
unfolding sign_at
two_reached b c r s e = exactly (sign_at b (c ∷ r)) r (token.Sign s) (rw e refl)
