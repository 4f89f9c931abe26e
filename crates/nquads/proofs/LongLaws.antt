-- Texts longer than the limit: the lines that count, and the front of the text.
use Rattle.std.specs.Prelude.{ℕ, Bool, ◌&&◌}
use Rattle.std.proofs.Common.{◌≡◌, ◌+◌, ◌-◌, ◌<◌, ◌≤◌, true, false, cond, List, [], ◌∷◌, ◌++◌, length, take, get_or, eqb, Option, Some, None, Result, Ok, Err, refl, sym, ap, ◌∙◌, subst, arith, length-append}
use Rattle.std.proofs.lemmas.List.{append-nil, take-append-le, get_or_append_left}
use Rattle.std.proofs.lemmas.Bool.{le-leb, lt-leb}
use Rattle.std.specs.Option.{option_map_or}
use Rattle.datasets.specs.Dataset.{Dataset}
use Rattle.terms.specs.declared.term.Term.{Term}
use Rattle.terms.specs.DataSet.{ListsGrowAsDatasets}
use Rattle.nquads_lines.specs.declared.stop.Line.{Line}
use Rattle.nquads.specs.declared.fault.BaseFault.{BaseFault}
use Rattle.nquads.specs.declared.fault.BaseFault.TheVariants as fault
use Rattle.nquads_lines.specs.Lines.{lines}
use Rattle.nquads_lines.specs.Reading.{line_of, LinesAreRead}
use Rattle.nquads.specs.Spelled.{AreLines, none, more, IsFirstBadOf}
use Rattle.nquads.specs.Whole.{Reads, read_from, no_quads}
use Rattle.nquads.specs.Long.{front_within, but_last, ended_lines, counted_lines, IsAnswer}
use Rattle.devices.specs.Front.{IsFront}
use Rattle.nquads.specs.Checked.{first_bad, StopsAt}
use Rattle.nquads_lines.proofs.Ends.{lines_first}
use Rattle.nquads.proofs.WholeLaws.{bad_line, no_bad_in, whole_found, whole_bad}

-- ---- the first bad line

found : ℕ → Option ℕ
found n = Some n

some_is : (x y : ℕ) → found x ≡ found y → x ≡ y
unfolding found
some_is x y e = cc

-- the first bad line behind m lines
pub record BadBehind (ls : List (List ℕ)) (m n : ℕ) : Type 0 where
  pub all : IsFirstBadOf ls (n - m)
  pub later : m < n

-- ---- all lines but the last

pub but_last_more : (line after : List ℕ) → but_last (line ∷ lines after) ≡ line ∷ but_last (lines after)
but_last_more line after = rw (lines_first after) refl

-- ---- the front of a text

pub front_within-front : (bytes rest : List ℕ) (n : ℕ) → n < length bytes → front_within n (bytes ++ rest) ≡ front_within n bytes
front_within-front bytes rest n h =
    let a : get_or (bytes ++ rest) (n - 1) 0 ≡ get_or bytes (n - 1) 0 = get_or_append_left bytes rest 0 (n - 1) (omega arith) in
    let b : get_or (bytes ++ rest) n 0 ≡ get_or bytes n 0 = get_or_append_left bytes rest 0 n h in
    ap (λ x. take (cond (eqb x 13 && eqb (get_or (bytes ++ rest) n 0) 10) (n - 1) n) (bytes ++ rest)) a
    ∙ ap (λ x. take (cond (eqb (get_or bytes (n - 1) 0) 13 && eqb x 10) (n - 1) n) (bytes ++ rest)) b
    ∙ cut (eqb (get_or bytes (n - 1) 0) 13 && eqb (get_or bytes n 0) 10)
  where
    cut : (t : Bool) → take (cond t (n - 1) n) (bytes ++ rest) ≡ take (cond t (n - 1) n) bytes
    cut true = take-append-le (n - 1) bytes rest (omega arith)
    cut false = take-append-le n bytes rest (omega arith)

-- ---- what is answered

pub within : (text : List ℕ) (limit : ℕ) → length text ≤ limit → counted_lines limit text ≡ lines text
within text limit h = rw (le-leb (length text) limit h) refl

pub beyond : (text : List ℕ) (limit : ℕ) → limit < length text → counted_lines limit text ≡ ended_lines limit text
beyond text limit h = rw (lt-leb (length text) limit h) refl

longer : (limit : ℕ) (text bytes : List ℕ) → IsFront limit text bytes → limit < length bytes → limit < length text
longer limit text bytes front many = let e : length text ≡ length bytes + length front.rest = ap length front.cut ∙ length-append bytes front.rest in omega arith

same_front : (limit : ℕ) (text bytes front : List ℕ) → IsFront limit text bytes → limit < length bytes → front ≡ front_within limit bytes → but_last (lines front) ≡ ended_lines limit text
same_front limit text bytes front is many e =
    ap (λ t. but_last (lines t)) (e ∙ sym (front_within-front bytes is.rest limit many) ∙ ap (front_within limit) (sym is.cut))

-- ---- by the law of lines

module _ (read : LinesAreRead) where
  pub check_lines_bad : (ls : List (List ℕ)) (m n : ℕ) → first_bad m ls ≡ Some n → BadBehind ls m n
  unfolding found
  check_lines_bad [] m n e = absurd cc
  check_lines_bad (l ∷ ls) m n e =
      elim (line_of l) as (λ o. line_of l ≡ o → option_map_or (λ said. first_bad (m + 1) ls) o (Some (m + 1)) ≡ Some n → BadBehind (l ∷ ls) m n) [
        | None ↦ λ o h. let number : m + 1 ≡ n = some_is (m + 1) n h in
            record { all = record { before = []; bad = l; after = ls; front = []; cut = refl; good = none; here = bad_line read l o; number = omega arith }; later = omega arith }
        | Some said ↦ λ o h. let b = check_lines_bad ls (m + 1) n h in
            let number : n - (m + 1) ≡ length b.all.front + 1 = b.all.number in
            let longer : length (l ∷ b.all.front) ≡ length b.all.front + 1 = omega arith in
            let later : m + 1 < n = b.later in
            record {
              all = record { before = said ∷ b.all.before; bad = b.all.bad; after = b.all.after; front = l ∷ b.all.front; cut = ap (λ (t : List (List ℕ)). l ∷ t) b.all.cut; good = more ((read l said).0 o) b.all.good; here = b.all.here; number = omega arith };
              later = omega arith;
            }
      ] refl e

  pub first_bad_is : (ls : List (List ℕ)) (n : ℕ) → first_bad 0 ls ≡ Some n → IsFirstBadOf ls n
  first_bad_is ls n e = let b = check_lines_bad ls 0 n e in subst (IsFirstBadOf ls) (let same : n - 0 ≡ n = omega arith in same) b.all

  -- lines of which none is bad
  pub all_good : (ls : List (List ℕ)) (m : ℕ) → first_bad m ls ≡ None → (said : List Line) × AreLines ls said
  all_good [] m e = ([], none)
  all_good (l ∷ ls) m e =
      elim (line_of l) as (λ o. line_of l ≡ o → option_map_or (λ said. first_bad (m + 1) ls) o (Some (m + 1)) ≡ None → (said : List Line) × AreLines (l ∷ ls) said) [
        | None ↦ λ o h. absurd cc
        | Some said ↦ λ o h. let b = all_good ls (m + 1) h in (said ∷ b.0, more ((read l said).0 o) b.1)
      ] refl e

  pub none_bad : (ls : List (List ℕ)) (n : ℕ) → first_bad 0 ls ≡ None → IsFirstBadOf ls n → ⊥
  none_bad ls n e b = let good = all_good ls 0 e in no_bad_in b.front b.bad b.after good.0 b.here (subst (λ ls. AreLines ls good.0) b.cut good.1)

  pub too_long : (limit : ℕ) (bytes front : List ℕ) → limit < length bytes → front ≡ front_within limit bytes → first_bad 0 (but_last (lines front)) ≡ None
      → (text : List ℕ) → IsFront limit text bytes → IsAnswer limit text (Err fault.TooLong)
  too_long limit bytes front many e h text is =
      (longer limit text bytes is many, λ n b. none_bad (ended_lines limit text) n (ap (first_bad 0) (sym (same_front limit text bytes front is many e)) ∙ h) b)

  pub long_answer : (limit : ℕ) (bytes front : List ℕ) (f : BaseFault) → limit < length bytes → front ≡ front_within limit bytes → StopsAt f (first_bad 0 (but_last (lines front)))
      → (text : List ℕ) → IsFront limit text bytes → IsAnswer limit text (Err f)
  long_answer limit bytes front fault.OutOfMemory many e h text is = tt
  long_answer limit bytes front (fault.BadLine n) many e h text is =
      subst (λ ls. IsFirstBadOf ls n) (same_front limit text bytes front is many e ∙ sym (beyond text limit (longer limit text bytes is many))) (first_bad_is (but_last (lines front)) n h)
  long_answer limit bytes front fault.TooLong many e h text is = absurd h
  long_answer limit bytes front fault.Device many e h text is = tt

  -- ---- and by that of adding

  module _ (grows : ListsGrowAsDatasets) where
    whole_answer : (limit : ℕ) (text : List ℕ) (r : Result (Dataset Term) BaseFault) → Reads r (read_from no_quads 0 (lines text)) → length text ≤ limit → IsAnswer limit text r
    whole_answer limit text (Ok d) h few = (whole_found read grows text d h, few)
    whole_answer limit text (Err fault.OutOfMemory) h few = tt
    whole_answer limit text (Err (fault.BadLine n)) h few = subst (λ ls. IsFirstBadOf ls n) (sym (within text limit few)) (whole_bad read text n h)
    whole_answer limit text (Err fault.TooLong) h few = absurd h
    whole_answer limit text (Err fault.Device) h few = tt

    pub short_answer : (limit : ℕ) (bytes : List ℕ) (r : Result (Dataset Term) BaseFault) → Reads r (read_from no_quads 0 (lines bytes)) → length bytes ≤ limit
        → (text : List ℕ) → IsFront limit text bytes → IsAnswer limit text r
    short_answer limit bytes r h few text front =
        subst (λ t. IsAnswer limit t r) (sym (front.cut ∙ ap (λ (t : List ℕ). bytes ++ t) (front.whole few) ∙ append-nil bytes)) (whole_answer limit bytes r h few)
