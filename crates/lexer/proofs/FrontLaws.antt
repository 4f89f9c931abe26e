-- The first tokens of a text, to their first end.
use Rattle.std.proofs.Common.{◌≡◌, ℕ, ◌+◌, ◌<◌, ◌≤◌, Bool, true, false, List, [], ◌∷◌, ◌++◌, length, Result, Err, refl, sym, ap, ◌∙◌, subst, arith, cond, append_assoc}
use Rattle.std.specs.Borrow.{Bor}
use Rattle.std.specs.Global.{Vec}
use Rattle.lexer.specs.Cut.{Cuts}
use Rattle.lexer.specs.declared.stop.Stop.{Stop}
use Rattle.lexer.specs.declared.stop.Stop.TheVariants as stop
use Rattle.lexer.specs.declared.token.Token.{Token}
use Rattle.lexer.specs.declared.token.Token.TheVariants as token
use Rattle.lexer.specs.declared.token.Sign.TheVariants as signs
use Rattle.lexer.specs.Ends.{depth_after, is_end, after_end, AreEnded}
use Rattle.lexer.specs.Gives.{IsFront, IsFrontCut}
use Rattle.lexer.proofs.CutLaws.{IsCutSoFar}

-- no end is among these tokens, which leave so many braces open
abbrev pub GoOn : List Token → ℕ → Type 0
GoOn before n = (later : List Token) → after_end 0 (before ++ later) ≡ after_end n later

behind : (before : List Token) (t : Token) (n : ℕ) (ends : Bool) → GoOn before n → is_end t n ≡ ends → (later : List Token) → after_end 0 ((before ++ t ∷ []) ++ later) ≡ cond ends later (after_end (depth_after t n) later)
behind before t n ends go_on e later = ap (after_end 0) (append_assoc before (t ∷ []) later) ∙ go_on (t ∷ later) ∙ ap (λ b. cond b later (after_end (depth_after t n) later)) e

pub ends_later : (before : List Token) (t : Token) (n : ℕ) → GoOn before n → is_end t n ≡ false → GoOn (before ++ t ∷ []) (depth_after t n)
ends_later before t n go_on e = behind before t n false go_on e

pub ends_here : (before : List Token) (t : Token) (n : ℕ) → GoOn before n → is_end t n ≡ true → AreEnded (before ++ t ∷ [])
ends_here before t n go_on e = behind before t n true go_on e

pub one_deeper : (t : Token) (n : ℕ) → depth_after t n ≤ n + 1
one_deeper (token.Sign signs.OpenBrace) n = omega arith
one_deeper (token.Sign signs.CloseBrace) n = omega arith
one_deeper t n = omega arith

pub is_front : (text : List ℕ) (before : List Token) (rest : List ℕ) → IsCutSoFar text before rest → (0 < length rest → AreEnded before) → (0 < length text → length rest < length text) → IsFront text before rest
is_front text before rest so_far ended shorter = record { more = so_far.more; only = so_far.only; ended = ended; shorter = shorter }

pub is_unread : (text : List ℕ) (r : Result (Vec Token × Bor (List ℕ)) Stop) (e : Stop) → r ≡ Err e → e ≡ stop.NoReading → ((ts : List Token) → Cuts text ts → ⊥) → IsFrontCut text r
is_unread text r e r-is e-is nothing = subst (λ r. IsFrontCut text r) (sym (r-is ∙ ap (λ (e : Stop). let r : Result (Vec Token × Bor (List ℕ)) Stop = Err e in r) e-is)) nothing
