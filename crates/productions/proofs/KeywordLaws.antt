-- Words in any case.
use Rattle.std.proofs.Common.{◌≡◌, ℕ, Bool, true, false, List, ◌∷◌, map, Some, None, refl, ap, ◌∙◌, ◌<◌, length, sym, subst, arith}
use Rattle.std.specs.Prelude.{IsTrue, ◌↔◌, bytes_eq}
use Rattle.std.specs.Char.{to_ascii_lowercase}
use Rattle.std.specs.Cmp.Lexicographic.{bytes_decides}
use Rattle.std.specs.Bool.{one_answer}
use Rattle.std.proofs.lemmas.Option.{cond_some}
use Rattle.lexer.specs.declared.token.Token.{Token}
use Rattle.lexer.specs.declared.token.Token.TheVariants as token
use Rattle.productions.specs.Keywords.{is_keyword, keyword_at, ReadsKeyword, keyword}

pub keyword_is : (r : Bool) (w k : List ℕ) → IsTrue r ↔ (map to_ascii_lowercase w ≡ map to_ascii_lowercase k) → r ≡ is_keyword w k
keyword_is r w k h = one_answer r (is_keyword w k) h (bytes_decides (map to_ascii_lowercase w) (map to_ascii_lowercase k))

pub ruleset keywords = (keyword_is)

pub keyword_found : (k : List ℕ) (ts rest : List Token) → keyword_at k ts ≡ Some rest → (w : List ℕ) × (is_keyword w k ≡ true) × (ts ≡ token.Word w ∷ rest)
keyword_found k (token.Word w ∷ ts) rest e = let g = cond_some (is_keyword w k) ts rest e in (w, g.0, ap (λ (r : List Token). token.Word w ∷ r) g.1)
keyword_found k ts rest e = absurd cc

-- a word is one of two keywords at most
pub other_keyword : (w k j : List ℕ) → is_keyword w k ≡ true → is_keyword k j ≡ false → is_keyword w j ≡ false
other_keyword w k j is apart = ap (λ (l : List ℕ). bytes_eq l (map to_ascii_lowercase j)) ((bytes_decides (map to_ascii_lowercase w) (map to_ascii_lowercase k)).0 is) ∙ apart

pub no_keyword : (w k j : List ℕ) (ts : List Token) → is_keyword w k ≡ true → is_keyword k j ≡ false → keyword_at j (token.Word w ∷ ts) ≡ None
no_keyword w k j ts is apart = rw (other_keyword w k j is apart) refl

-- ---- as a production

pub reads_keyword : (k : List ℕ) (ts rest : List Token) → keyword_at k ts ≡ Some rest → ReadsKeyword k ts rest
reads_keyword k ts rest e = let w = keyword_found k ts rest e in subst (λ (r : List Token). ReadsKeyword k r rest) (sym w.2) (keyword w.1)

pub keyword_again : {k : List ℕ} {ts rest : List Token} → ReadsKeyword k ts rest → keyword_at k ts ≡ Some rest
keyword_again (keyword is) = rw is refl

pub keyword_takes : {k : List ℕ} {ts rest : List Token} → ReadsKeyword k ts rest → length rest < length ts
keyword_takes (keyword is) = omega arith

pub reads_no_other : {k : List ℕ} {ts rest : List Token} (j : List ℕ) → ReadsKeyword k ts rest → is_keyword k j ≡ false → keyword_at j ts ≡ None
reads_no_other {k} j (keyword {w} {rest} is) apart = no_keyword w k j rest is apart
