-- A text that is written piece by piece.
use Rattle.std.specs.Prelude.{ℕ}
use Rattle.std.proofs.Common.{◌≡◌, List, [], ◌∷◌, ◌++◌, Option, Some, None, length, take, drop, refl, sym, ap, ◌∙◌, subst, append_assoc, arith}
use Rattle.std.proofs.lemmas.List.{append-nil, take-append-drop}
use Rattle.std.specs.Io.KnownBytes.{Appends, Keeps}
use Rattle.std.proofs.Math.Seq.{take-append_seam}

-- the bytes of the text before the rest were written
pub record IsWritten (old new : Option (List ℕ)) (text rest : List ℕ) : Type 0 where
  front : List ℕ
  whole : front ++ rest ≡ text
  bytes : Appends old new front

pub nothing_written : (old : Option (List ℕ)) (text : List ℕ) → IsWritten old old text text
nothing_written None text = record { front = []; whole = refl; bytes = tt }
nothing_written (Some xs) text = record { front = []; whole = refl; bytes = sym (append-nil xs) }

appended : (a b c : Option (List ℕ)) (x y : List ℕ) → Appends a b x → Appends b c y → Appends a c (x ++ y)
appended None b c x y p q = tt
appended (Some us) None c x y p q = absurd p
appended (Some us) (Some bs) None x y p q = q
appended (Some us) (Some bs) (Some cs) x y p q = q ∙ ap (λ (t : List ℕ). t ++ y) p ∙ append_assoc us x y

kept : (a b c : Option (List ℕ)) (x : List ℕ) → Appends a b x → Keeps b c → Appends a c x
kept None b c x p q = tt
kept (Some us) None c x p q = absurd p
kept (Some us) (Some bs) None x p q = q
kept (Some us) (Some bs) (Some cs) x p q = q ∙ p

pub more_written : (a b c : Option (List ℕ)) (text rest : List ℕ) (n : ℕ) → IsWritten a b text rest → Appends b c (take n rest) → IsWritten a c text (drop n rest)
more_written a b c text rest n is q = record {
  front = is.front ++ take n rest;
  whole = append_assoc is.front (take n rest) (drop n rest) ∙ ap (λ (t : List ℕ). is.front ++ t) (take-append-drop n rest) ∙ is.whole;
  bytes = appended a b c is.front (take n rest) is.bytes q;
}

pub all_written : (a b : Option (List ℕ)) (text rest : List ℕ) → IsWritten a b text rest → length rest ≡ 0 → Appends a b text
all_written a b text [] is e = subst (Appends a b) (sym (append-nil is.front) ∙ is.whole) is.bytes
all_written a b text (x ∷ rest) is e = absurd (omega arith)

pub front_written : (a b c : Option (List ℕ)) (text rest : List ℕ) → IsWritten a b text rest → Keeps b c → (n : ℕ) × Appends a c (take n text)
front_written a b c text rest is q =
    (length is.front, subst (Appends a c) (sym (take-append_seam is.front rest) ∙ ap (take (length is.front)) is.whole) (kept a b c is.front is.bytes q))
