-- Readings that are told apart by a word.
use Rattle.std.proofs.Common.{◌≡◌, ℕ, ◌≤◌, Bool, true, false, List, ◌∷◌, length, Option, Some, None, refl, ap, subst, arith}
use Rattle.std.specs.Prelude.{codes}
use Rattle.std.specs.Option.{option_map_or}
use Rattle.std.proofs.lemmas.Option.{same_Some}
use Rattle.iris.specs.Bracketed.{◌>>=◌}
use Rattle.iris.proofs.Options.{bind_some}
use Rattle.lexer.specs.declared.token.Token.{Token}
use Rattle.syntax_trees.specs.declared.tree.Name.{Name}
use Rattle.productions.specs.Steps.{Production, Reader}
use Rattle.productions.specs.Names.{ReadsName, iri, prefixed}
use Rattle.productions.specs.Keywords.{keyword_at, ReadsKeyword}
use Rattle.productions.proofs.KeywordLaws.{reads_keyword, keyword_again, keyword_takes, reads_no_other}
use Rattle.grammar.specs.Reads.{ReadsSilent, silent, not_silent}
use Rattle.grammar.specs.Reading.{silent_at}

-- what a production reads at the front of ts, seen at what was found
pub moved : {A : Type 0} (P : Production A) (ts : List Token) (x y : A × List Token) → Some x ≡ Some y → P ts x.0 x.1 → P ts y.0 y.1
moved {A} P ts x y e p = subst (λ (z : A × List Token). P ts z.0 z.1) (same_Some x y e) p

-- where a word may be there
pub by_word : {A : Type 0} (P : Production A) (k : List ℕ) (ts : List Token) (f : Reader A) (other : Option (A × List Token)) (x : A × List Token)
    → option_map_or f (keyword_at k ts) other ≡ Some x → ((r : List Token) → ReadsKeyword k ts r → f r ≡ Some x → P ts x.0 x.1) → (other ≡ Some x → P ts x.0 x.1) → P ts x.0 x.1
by_word P k ts f other x e there elsewhere =
    elim (keyword_at k ts) as (λ o. keyword_at k ts ≡ o → option_map_or f o other ≡ Some x → P ts x.0 x.1) [
      | None ↦ λ q e. elsewhere e
      | Some r ↦ λ q e. there r (reads_keyword k ts r q) e
    ] refl e

-- where it must be there
pub behind_word : {A : Type 0} (P : Production A) (k : List ℕ) (ts : List Token) (f : Reader A) (x : A × List Token)
    → (keyword_at k ts >>= f) ≡ Some x → ((r : List Token) → ReadsKeyword k ts r → f r ≡ Some x → P ts x.0 x.1) → P ts x.0 x.1
behind_word P k ts f x e there = let r = bind_some (keyword_at k ts) f x e in there r.0 (reads_keyword k ts r.0 r.1) r.2

-- a name is no word
pub name_no_word : {ts rest : List Token} {n : Name} (k : List ℕ) → ReadsName ts n rest → keyword_at k ts ≡ None
name_no_word k iri = refl
name_no_word k prefixed = refl

-- ---- SILENT

pub silent_found : (ts : List Token) → ReadsSilent ts (silent_at ts).0 (silent_at ts).1
silent_found ts =
    elim (keyword_at (codes "SILENT") ts) as (λ o. keyword_at (codes "SILENT") ts ≡ o → let p : Bool × List Token = option_map_or (λ r. (true, r)) o (false, ts) in ReadsSilent ts p.0 p.1) [
      | None ↦ λ q. not_silent
      | Some r ↦ λ q. silent (reads_keyword (codes "SILENT") ts r q)
    ] refl

pub silent_keeps : {ts rest : List Token} {s : Bool} → ReadsSilent ts s rest → length rest ≤ length ts
silent_keeps (silent word) = let taken = keyword_takes word in omega arith
silent_keeps not_silent = omega arith

pub silent_again : {ts rest : List Token} {s : Bool} → ReadsSilent ts s rest → keyword_at (codes "SILENT") rest ≡ None → silent_at ts ≡ (s, rest)
silent_again {ts} {rest} (silent word) after = ap (λ (o : Option (List Token)). let p : Bool × List Token = option_map_or (λ r. (true, r)) o (false, ts) in p) (keyword_again word)
silent_again {ts} not_silent after = ap (λ (o : Option (List Token)). let p : Bool × List Token = option_map_or (λ r. (true, r)) o (false, ts) in p) after
