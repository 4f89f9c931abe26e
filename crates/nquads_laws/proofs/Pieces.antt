-- Pieces of a line: UTF-8, and no byte that ends a line.
use Rattle.std.specs.Prelude.{ℕ, Bool, not, ◌||◌, ◌<◌, ◌+◌}
use Rattle.std.proofs.Common.{◌≡◌, true, false, cond, eqb, List, [], ◌∷◌, ◌++◌, length, drop, get_or, refl, sym, ap, ◌∙◌, subst, IsUtf8, append_assoc, arith}
use Rattle.std.specs.List.{list_all, flat_map}
use lib.Utf8.{scalar}
use Rattle.std.proofs.Math.Seq.{take-append_seam, drop-append_seam, get_or-append_seam}
use Rattle.std.proofs.lemmas.List.{length-append}
use Rattle.std.proofs.lemmas.Bool.{eqb-true, ltb-true, and_parts, and_from}
use Rattle.std.proofs.lemmas.Bool.Decides.{nat_tests}
use Rattle.std.proofs.lemmas.Str.{IsUtf8-append, IsUtf8-nil, IsUtf8-encode, IsUtf8-take, IsUtf8-drop, encode_ascii, IsCharBoundary-before_ascii, IsCharBoundary-after_ascii}
use Rattle.sets.proofs.Filters.{each_joined, each_weaker}
use Rattle.iris.specs.Iri.{is_iri_byte, IsIri}
use Rattle.iris.proofs.ByteLaws.{iri_bytes}
use Rattle.terms.specs.Canonical.{escape, iri_text}
use Rattle.nquads_lines.specs.Lines.{is_inner}
use Rattle.nquads_lines.specs.Escapes.{is_plain}
use Rattle.nquads_laws.proofs.Bytes.{is_ascii, is_ascii_inner, inner_iri, ascii_of_inner, inner_of_inner}

pub record IsPiece (bs : List ℕ) : Type 0 where
  pub utf8 : IsUtf8 bs
  pub inner : list_all is_inner bs ≡ true

pub piece_append : (xs ys : List ℕ) → IsPiece xs → IsPiece ys → IsPiece (xs ++ ys)
piece_append xs ys a b = record { utf8 = IsUtf8-append xs ys a.utf8 b.utf8; inner = each_joined is_inner xs ys a.inner b.inner }

-- ---- ASCII

pub utf8_byte : (b : ℕ) → b < 128 → IsUtf8 (b ∷ [])
utf8_byte b low = subst IsUtf8 (encode_ascii b low) (IsUtf8-encode b (grind (arith, nat_tests, scalar)))

pub utf8_ascii : (bs : List ℕ) → list_all is_ascii bs ≡ true → IsUtf8 bs
utf8_ascii [] e = IsUtf8-nil
utf8_ascii (b ∷ bs) e = let h = and_parts (is_ascii b) (list_all is_ascii bs) e in IsUtf8-append (b ∷ []) bs (utf8_byte b (ltb-true b 128 h.0)) (utf8_ascii bs h.1)

pub piece_ascii : (bs : List ℕ) → list_all is_ascii_inner bs ≡ true → IsPiece bs
piece_ascii bs e = record { utf8 = utf8_ascii bs (each_weaker is_ascii_inner is_ascii ascii_of_inner bs e); inner = each_weaker is_ascii_inner is_inner inner_of_inner bs e }

-- the parts of a text round an ASCII byte
pub split_ascii : (front : List ℕ) (b : ℕ) (rest : List ℕ) → b < 128 → IsUtf8 (front ++ b ∷ rest) → IsUtf8 front × IsUtf8 rest
split_ascii front b rest low u =
    let text : List ℕ = front ++ b ∷ rest in
    let at : get_or text (length front) 0 ≡ b = get_or-append_seam front b rest 0 in
    let inside : length front < length text = rw (length-append front (b ∷ rest)) (omega arith) in
    let byte : get_or text (length front) 0 < 128 = subst (λ x. x < 128) (sym at) low in
    let longer : length front + 1 ≡ length (front ++ b ∷ []) = sym (length-append front (b ∷ [])) in (
      subst IsUtf8 (take-append_seam front (b ∷ rest)) (IsUtf8-take text (length front) u (IsCharBoundary-before_ascii text (length front) inside byte)),
      subst IsUtf8
          (ap (λ n. drop n text) longer ∙ ap (drop (length (front ++ b ∷ []))) (sym (append_assoc front (b ∷ []) rest)) ∙ drop-append_seam (front ++ b ∷ []) rest)
          (IsUtf8-drop text (length front + 1) u (IsCharBoundary-after_ascii text (length front) u inside byte)),
    )

-- ---- lexical forms

four_plain : (x y z w : Bool) → not (x || y || z || w) ≡ true → not (z || w) ≡ true
four_plain true y z w e = absurd cc
four_plain false true z w e = absurd cc
four_plain false false z w e = e

plain_inner : (b : ℕ) → is_plain b ≡ true → is_inner b ≡ true
plain_inner b e = four_plain (eqb b 34) (eqb b 92) (eqb b 10) (eqb b 13) e

-- what is shown for each byte's escape
pub by_escape : (b : ℕ) (P : List ℕ → Type 0) → (b ≡ 34 → P (92 ∷ 34 ∷ [])) → (b ≡ 92 → P (92 ∷ 92 ∷ [])) → (b ≡ 10 → P (92 ∷ 110 ∷ [])) → (b ≡ 13 → P (92 ∷ 114 ∷ []))
    → (is_plain b ≡ true → P (b ∷ [])) → P (escape b)
by_escape b P quote backslash lf cr plain =
    elim (eqb b 34) as (λ t. eqb b 34 ≡ t → P (cond t (92 ∷ 34 ∷ []) (cond (eqb b 92) (92 ∷ 92 ∷ []) (cond (eqb b 10) (92 ∷ 110 ∷ []) (cond (eqb b 13) (92 ∷ 114 ∷ []) (b ∷ [])))))) [
      | true ↦ λ e. quote (eqb-true b 34 e)
      | false ↦ λ e. elim (eqb b 92) as (λ t. eqb b 92 ≡ t → P (cond t (92 ∷ 92 ∷ []) (cond (eqb b 10) (92 ∷ 110 ∷ []) (cond (eqb b 13) (92 ∷ 114 ∷ []) (b ∷ []))))) [
        | true ↦ λ f. backslash (eqb-true b 92 f)
        | false ↦ λ f. elim (eqb b 10) as (λ t. eqb b 10 ≡ t → P (cond t (92 ∷ 110 ∷ []) (cond (eqb b 13) (92 ∷ 114 ∷ []) (b ∷ [])))) [
          | true ↦ λ g. lf (eqb-true b 10 g)
          | false ↦ λ g. elim (eqb b 13) as (λ t. eqb b 13 ≡ t → P (cond t (92 ∷ 114 ∷ []) (b ∷ []))) [
            | true ↦ λ h. cr (eqb-true b 13 h)
            | false ↦ λ h. plain (rw (e, f, g, h) refl)
          ] refl
        ] refl
      ] refl
    ] refl

inner_escaped : (bs : List ℕ) → list_all is_inner (flat_map escape bs) ≡ true
inner_escaped [] = refl
inner_escaped (b ∷ bs) =
    let later = inner_escaped bs in
    by_escape b (λ e. list_all is_inner (e ++ flat_map escape bs) ≡ true) (λ e. later) (λ e. later) (λ e. later) (λ e. later)
    (λ e. and_from (is_inner b) (list_all is_inner (flat_map escape bs)) (plain_inner b e) later)

-- an escape in the place of an ASCII byte
utf8_escape : (front : List ℕ) (b : ℕ) (bs e : List ℕ) → b < 128 → list_all is_ascii e ≡ true → IsUtf8 (front ++ b ∷ bs) → (IsUtf8 bs → IsUtf8 (flat_map escape bs))
    → IsUtf8 (front ++ (e ++ flat_map escape bs))
utf8_escape front b bs e low ascii u later =
    let h = split_ascii front b bs low u in
    IsUtf8-append front (e ++ flat_map escape bs) h.0 (IsUtf8-append e (flat_map escape bs) (utf8_ascii e ascii) (later h.1))

utf8_escaped : (front bs : List ℕ) → IsUtf8 (front ++ bs) → IsUtf8 (front ++ flat_map escape bs)
utf8_escaped front [] u = u
utf8_escaped front (b ∷ bs) u =
    by_escape b (λ e. IsUtf8 (front ++ (e ++ flat_map escape bs)))
    (λ e. utf8_escape front b bs (92 ∷ 34 ∷ []) (omega (arith, e)) refl u (utf8_escaped [] bs))
    (λ e. utf8_escape front b bs (92 ∷ 92 ∷ []) (omega (arith, e)) refl u (utf8_escaped [] bs))
    (λ e. utf8_escape front b bs (92 ∷ 110 ∷ []) (omega (arith, e)) refl u (utf8_escaped [] bs))
    (λ e. utf8_escape front b bs (92 ∷ 114 ∷ []) (omega (arith, e)) refl u (utf8_escaped [] bs))
    (λ e. subst IsUtf8 (append_assoc front (b ∷ []) (flat_map escape bs)) (utf8_escaped (front ++ b ∷ []) bs (subst IsUtf8 (sym (append_assoc front (b ∷ []) bs)) u)))

pub piece_escaped : (bs : List ℕ) → IsUtf8 bs → IsPiece (flat_map escape bs)
piece_escaped bs u = record { utf8 = utf8_escaped [] bs u; inner = inner_escaped bs }

-- ---- IRIs

pub piece_iri : (i : List ℕ) → IsIri i → IsPiece (iri_text i)
piece_iri i is =
    let inside : IsPiece i = record { utf8 = is.utf8; inner = each_weaker is_iri_byte is_inner inner_iri i ((iri_bytes i is.form).0) } in
    piece_append (60 ∷ i) (62 ∷ []) (piece_append (60 ∷ []) i (piece_ascii (60 ∷ []) refl) inside) (piece_ascii (62 ∷ []) refl)
