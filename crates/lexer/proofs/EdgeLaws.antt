-- Where no run of name bytes is a prefix: a run that no colon follows has none of them.
use Rattle.std.proofs.Common.{◌≡◌, ℕ, zero, suc, ◌+◌, ◌<◌, Bool, true, false, cond, eqb, List, [], ◌∷◌, ◌++◌, length, drop, None, refl, sym, ap, ◌∙◌, subst, arith}
use Rattle.std.proofs.lemmas.List.{length-drop, drop_at}
use Rattle.std.proofs.lemmas.List.{drop-drop}
use Rattle.iris.specs.Runs.{rest_of}
use Rattle.lexer.specs.Names.{is_name_byte}
use Rattle.lexer.specs.Cut.{is_inner, is_space}
use Rattle.lexer.specs.Reading.{begins_with_colon, NoneAhead, name_after, skip_from}

pub edge_start : (text : List ℕ) → NoneAhead text (length text)
edge_start text n more = absurd (omega (arith, length-drop n text))

pub edge_drop : (text : List ℕ) (edge k : ℕ) → NoneAhead text edge → NoneAhead (drop k text) edge
edge_drop text edge k ahead n more =
    let e : drop n (drop k text) ≡ drop (k + n) text = drop-drop n k text in
    ap (λ x. begins_with_colon (rest_of is_name_byte x)) e ∙ ahead (k + n) (subst (λ x. edge < length x) e more)

pub edge_after : (text front rest : List ℕ) (edge : ℕ) → text ≡ front ++ rest → NoneAhead text edge → NoneAhead rest edge
edge_after text front rest edge cut ahead =
    subst (λ x. NoneAhead x edge) (ap (drop (length front)) cut ∙ drop_at front rest (length front) refl) (edge_drop text edge (length front) ahead)

-- what a run leaves is left by each of its later parts
same_rest : (p : ℕ → Bool) (text : List ℕ) (n : ℕ) → length (rest_of p text) < length (drop n text) → rest_of p (drop n text) ≡ rest_of p text
same_rest p [] zero more = refl
same_rest p [] (suc n) more = refl
same_rest p (b ∷ bs) zero more = refl
same_rest p (b ∷ bs) (suc n) more =
    elim (p b) as (λ t. length (cond t (rest_of p bs) (b ∷ bs)) < length (drop n bs) → rest_of p (drop n bs) ≡ cond t (rest_of p bs) (b ∷ bs)) [
      | true ↦ λ more. same_rest p bs n more
      | false ↦ λ more. absurd (omega (arith, length-drop n bs))
    ] more

edge_found : (text : List ℕ) → begins_with_colon (rest_of is_name_byte text) ≡ false → NoneAhead text (length (rest_of is_name_byte text))
edge_found text none n more = ap begins_with_colon (same_rest is_name_byte text n more) ∙ none

pub edge_made : (text rest : List ℕ) → rest ≡ rest_of is_name_byte text → begins_with_colon rest ≡ false → NoneAhead text (length rest)
edge_made text rest e none = subst (λ r. NoneAhead text (length r)) (sym e) (edge_found text (ap begins_with_colon (sym e) ∙ none))

-- and where none is, no name is read
none_after : (p bs : List ℕ) → begins_with_colon bs ≡ false → name_after p bs ≡ None
unfolding name_after
none_after p [] none = refl
none_after p (b ∷ bs) none = rw none refl

pub no_name : (text p : List ℕ) (edge : ℕ) → NoneAhead text edge → edge < length text → name_after p (rest_of is_name_byte text) ≡ None
no_name text p edge ahead more = none_after p (rest_of is_name_byte text) (ahead 0 more)

-- ---- white space and comments are a front of the text

record Dropped (text rest : List ℕ) : Type 0 where
  front : List ℕ
  cut : text ≡ front ++ rest

skip_front : (inside : Bool) (text : List ℕ) → Dropped text (skip_from inside text)
skip_front inside [] = record { front = []; cut = refl }
skip_front true (b ∷ bs) =
    elim (is_inner b) as (λ t. Dropped (b ∷ bs) (cond t (skip_from true bs) (skip_from false bs))) [
      | true ↦ let d = skip_front true bs in record { front = b ∷ d.front; cut = ap (λ (x : List ℕ). b ∷ x) d.cut }
      | false ↦ let d = skip_front false bs in record { front = b ∷ d.front; cut = ap (λ (x : List ℕ). b ∷ x) d.cut }
    ]
skip_front false (b ∷ bs) =
    elim (is_space b) as (λ t. Dropped (b ∷ bs) (cond t (skip_from false bs) (cond (eqb b 35) (skip_from true bs) (b ∷ bs)))) [
      | true ↦ let d = skip_front false bs in record { front = b ∷ d.front; cut = ap (λ (x : List ℕ). b ∷ x) d.cut }
      | false ↦ elim (eqb b 35) as (λ t. Dropped (b ∷ bs) (cond t (skip_from true bs) (b ∷ bs))) [
        | true ↦ let d = skip_front true bs in record { front = b ∷ d.front; cut = ap (λ (x : List ℕ). b ∷ x) d.cut }
        | false ↦ record { front = []; cut = refl }
      ]
    ]

pub edge_skip : (text : List ℕ) (edge : ℕ) → NoneAhead text edge → NoneAhead (skip_from false text) edge
edge_skip text edge ahead = let d = skip_front false text in edge_after text d.front (skip_from false text) edge d.cut ahead
