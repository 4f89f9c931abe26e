-- Reading a text in portions of whole lines.
use Rattle.std.specs.Prelude.{◌&&◌, IfOk, IfSome}
use Rattle.std.proofs.Common.{◌≡◌, ◌+◌, ◌-◌, ◌<◌, ◌≤◌, ◌⊎◌, inl, inr, ℕ, Vec, Global, Bool, true, false, cond, eqb, List, [], ◌∷◌, ◌++◌, length, take, drop, get_or, Option, Some, None, Result, Ok, Err, refl, sym, ap, ◌∙◌, subst, arith, append_assoc, length-append}
use Rattle.std.proofs.lemmas.List.{append-nil, take-append-drop}
use Rattle.std.proofs.lemmas.Bool.Decides.{leb_tells}
use Rattle.std.proofs.lemmas.Str.{IsUtf8-nil}
use Rattle.std.proofs.Math.Seq.{take-append-add, take-append_seam, get_or-append_right, get_or-append_seam}
use Rattle.std.specs.List.{onto_first}
use Rattle.std.specs.Io.KnownBytes.{Consumes}
use Rattle.terms.specs.DataSet.{united, ListsUnite, ListsGrowAsDatasets}
use Rattle.devices.specs.Front.{IsFilled}
use Rattle.nquads_lines.specs.declared.stop.Line.{Line}
use Rattle.nquads_lines.specs.declared.stop.Line.TheVariants.{Nothing}
use Rattle.nquads_lines.specs.Lines.{lines, lines_after}
use Rattle.nquads_lines.specs.Line.{IsLine, nothing, at_end}
use Rattle.nquads_lines.specs.Reading.{LinesAreRead}
use Rattle.nquads_lines.proofs.Ends.{lines_first}
use Rattle.nquads.specs.declared.fault.BaseFault.{BaseFault}
use Rattle.nquads.specs.declared.fault.BaseFault.TheVariants as fault
use Rattle.nquads.specs.declared.reader.ReadText.{ReadText}
use Rattle.nquads.specs.declared.pieces.ReadPieces.{ReadPieces}
use Rattle.nquads.specs.declared.pieces.ReadPieces.TheVariants.{Only, Behind'}
use Rattle.nquads.specs.declared.portions.PartlyRead.{PartlyRead}
use Rattle.nquads.specs.Spelled.{AreLines, none, Spells, IsBad, IsFirstBad, IsFirstBadOf}
use Rattle.nquads.specs.Pieces.{ArePieces}
use Rattle.nquads.specs.Whole.{read_from, no_quads, ReadsText}
use Rattle.nquads.specs.Long.{front_within, but_last, ended_lines, counted_lines, IsAnswer}
use Rattle.nquads.specs.Checked.{first_bad, StopsAt}
use Rattle.nquads.specs.Portions.{IsReadText, EndsWithLine, IsFrontRead, AreRead, both, behind, all_behind, if_behind, as_one, ends_of, ends_in, IsPartlyRead, StopsBehind, StopsFurther, StopsWithin}
use Rattle.nquads.proofs.WholeLaws.{whole_found, no_bad_in}
use Rattle.nquads.proofs.LongLaws.{first_bad_is, all_good, within, beyond, front_within-front}
use Rattle.nquads.proofs.PieceLaws.{lines_before, are_both, in_parts, cut_spelled}

-- ---- how many lines there are

few_onto : (b : ℕ) (ls : List (List ℕ)) (n : ℕ) → length ls ≤ n + 1 → length (onto_first b ls) ≤ n + 1 + 1
few_onto b [] n h = omega arith
few_onto b (l ∷ ls) n h = let few : length (l ∷ ls) ≡ length ls + 1 = omega arith in let all : length ((b ∷ l) ∷ ls) ≡ length ls + 1 = omega arith in omega arith

-- one byte more in front, by whether it is an LF or a CR
few_by_byte : (n m cr : Bool) (b k : ℕ) (inner after : List (List ℕ)) → length inner ≤ k + 1 → length after ≤ k + 1
    → length (cond n (cond cr inner ([] ∷ inner)) (cond m ([] ∷ after) (onto_first b inner))) ≤ k + 1 + 1
few_by_byte true m true b k inner after h g = omega arith
few_by_byte true m false b k inner after h g = let e : length ([] ∷ inner) ≡ length inner + 1 = omega arith in omega arith
few_by_byte false true cr b k inner after h g = let e : length ([] ∷ after) ≡ length after + 1 = omega arith in omega arith
few_by_byte false false cr b k inner after h g = few_onto b inner k h

few_lines_after : (cr : Bool) (text : List ℕ) → length (lines_after cr text) ≤ length text + 1
few_lines_after cr [] = omega arith
few_lines_after cr (b ∷ bs) =
    let h = few_by_byte (eqb b 10) (eqb b 13) cr b (length bs) (lines_after false bs) (lines_after true bs) (few_lines_after false bs) (few_lines_after true bs) in
    let e : length (b ∷ bs) ≡ length bs + 1 = omega arith in
    subst (λ k. length (lines_after cr (b ∷ bs)) ≤ k + 1) (sym e) h

pub few_lines : (text : List ℕ) → length (lines text) ≤ length text + 1
few_lines text = few_lines_after false text

pub some_line : (text : List ℕ) → 1 ≤ length (lines text)
some_line text = rw (lines_first text) (omega arith)

pub few_ends : (text : List ℕ) (read : ReadText) → IsReadText text read → read.ends ≤ length text
few_ends text read is = let a : length (lines text) ≤ length text + 1 = few_lines text in let b : read.ends + 1 ≡ length (lines text) = is.ends in omega arith

pub parts_length : (text first rest : List ℕ) → ArePieces text first rest → length text ≡ length first + length rest
parts_length text first rest pieces = ap length pieces.2 ∙ length-append first rest

pub few_in_pieces : (text : List ℕ) (pieces : ReadPieces) → AreRead text pieces → ends_in pieces ≤ length text
few_in_pieces text (Only read) are = few_ends text read are
few_in_pieces text (Behind' p first last) are =
    let some : ends_in first ≤ length are.0 = few_in_pieces are.0 first are.3 in
    let more : last.ends ≤ length are.1 = few_ends are.1 last are.4 in
    let all : length text ≡ length are.0 + length are.1 = parts_length text are.0 are.1 are.2 in
    omega arith

-- the first bad line of a text is one of its lines
pub bad_within : (text : List ℕ) (n : ℕ) → IsFirstBad text n → n ≤ length text + 1
bad_within text n b =
    let all : length (lines text) ≡ length b.front + length (b.bad ∷ b.after) = ap length b.cut ∙ length-append b.front (b.bad ∷ b.after) in
    let others : length (b.bad ∷ b.after) ≡ length b.after + 1 = omega arith in
    let number : n ≡ length b.front + 1 = b.number in
    let few : length (lines text) ≤ length text + 1 = few_lines text in
    omega arith

-- ---- whole lines, and what follows them

record Before (front : List ℕ) (n : ℕ) : Type 0 where
  before : List (List ℕ)
  said : List Line
  cut : (ys : List ℕ) → lines (front ++ ys) ≡ before ++ lines ys
  each : AreLines before said
  number : length before ≡ n

module _ (read : LinesAreRead) where
  lines_of_front : (front : List ℕ) (text : ReadText) → EndsWithLine front → IsReadText front text → Before front text.ends
  lines_of_front front text ends is =
      let b = lines_before ends.0 false in
      let all : lines front ≡ b.0 ++ [] ∷ [] = ap lines ends.1 ∙ b.1 [] in
      let parts = in_parts b.0 ([] ∷ []) is.spelled.said (subst (λ ls. AreLines ls is.spelled.said) all is.spelled.each) in
      let many : length (lines front) ≡ length b.0 + 1 = ap length all ∙ length-append b.0 ([] ∷ []) in
      let number : text.ends + 1 ≡ length (lines front) = is.ends in
      record {
        before = b.0;
        said = parts.0;
        cut = λ ys. ap lines (ap (λ t. t ++ ys) ends.1 ∙ append_assoc ends.0 (10 ∷ []) ys) ∙ b.1 ys;
        each = parts.2;
        number = omega arith;
      }

  lines_read : (front : List ℕ) (text : Option ReadText) → IsFrontRead front text → Before front (ends_of text)
  lines_read front None is = record { before = []; said = []; cut = λ ys. ap (λ t. lines (t ++ ys)) is; each = none; number = refl }
  lines_read front (Some text) is = lines_of_front front text is.0 is.1

-- ---- two texts as one

lines_cut : (front : List ℕ) → EndsWithLine front → (before : List (List ℕ)) × ((ys : List ℕ) → lines (front ++ ys) ≡ before ++ lines ys)
lines_cut front ends =
    let b = lines_before ends.0 false in
    (b.0, λ ys. ap lines (ap (λ t. t ++ ys) ends.1 ∙ append_assoc ends.0 (10 ∷ []) ys) ∙ b.1 ys)

-- a text whose lines are those of its first part, but for the empty one behind it, and of the rest
pub cut_read : LinesAreRead → ListsUnite → (before : List (List ℕ)) (text first rest : List ℕ) (a b both : ReadText) → lines first ≡ before ++ [] ∷ [] → lines text ≡ before ++ lines rest
    → IsReadText first a → IsReadText rest b → both.dataset ≡ united a.dataset b.dataset → both.ends ≡ a.ends + b.ends → IsReadText text both
cut_read read unite before text first rest a b both alone whole is_a is_b dataset ends =
    let front : length (lines first) ≡ length before + 1 = ap length alone ∙ length-append before ([] ∷ []) in
    let many : length (lines text) ≡ length before + length (lines rest) = ap length whole ∙ length-append before (lines rest) in
    let number : a.ends + 1 ≡ length (lines first) = is_a.ends in
    let later : b.ends + 1 ≡ length (lines rest) = is_b.ends in
    record {
      spelled = subst (λ d. Spells text d) (sym dataset) (cut_spelled read unite before text first rest a.dataset b.dataset alone whole is_a.spelled is_b.spelled);
      ends = omega arith;
    }

pub both_read : LinesAreRead → ListsUnite → (text first rest : List ℕ) (a b both : ReadText) → ArePieces text first rest → IsReadText first a → IsReadText rest b
    → both.dataset ≡ united a.dataset b.dataset → both.ends ≡ a.ends + b.ends → IsReadText text both
both_read read unite text first rest a b both pieces is_a is_b dataset ends =
    let before = lines_cut first (pieces.0, pieces.1) in
    let alone : lines first ≡ before.0 ++ [] ∷ [] = ap lines (sym (append-nil first)) ∙ before.1 [] in
    cut_read read unite before.0 text first rest a b both alone (ap lines pieces.2 ∙ before.1 rest) is_a is_b dataset ends

pub then_read : LinesAreRead → ListsUnite → (front later both : ReadText) → both.dataset ≡ united front.dataset later.dataset → both.ends ≡ front.ends + later.ends
    → (whole text : List ℕ) → IsFrontRead whole (Some front) → IsReadText text later → IsReadText (whole ++ text) both
then_read read unite front later both dataset ends whole text is is_later =
    both_read read unite (whole ++ text) whole text front later both (is.0.0, is.0.1, refl) is.1 is_later dataset ends

pub counted_read : LinesAreRead → ListsGrowAsDatasets → (text : List ℕ) (r : Result ReadText BaseFault) → ReadsText r (read_from no_quads 0 (lines text)) → IfOk r (λ t. t.ends + 1 ≡ length (lines text)) → IfOk r (IsReadText text)
counted_read read grows text (Ok t) h e = record { spelled = whole_found read grows text t.dataset h; ends = e }
counted_read read grows text (Err f) h e = tt

-- ---- pieces behind whole lines

pub ended_behind : (whole text : List ℕ) → EndsWithLine text → EndsWithLine (whole ++ text)
ended_behind whole text ends = (whole ++ ends.0, ap (λ t. whole ++ t) ends.1 ∙ sym (append_assoc whole ends.0 (10 ∷ [])))

module _ (read : LinesAreRead) (unite : ListsUnite) where
  one_behind : (front : Option ReadText) (later : ReadText) (whole text : List ℕ) → IsFrontRead whole front → IsReadText text later → IsReadText (whole ++ text) (behind front later)
  one_behind None later whole text is is_later = subst (λ t. IsReadText (t ++ text) later) (sym is) is_later
  one_behind (Some front) later whole text is is_later = then_read read unite front later (both front later) refl refl whole text is is_later

  pub are_behind : (front : Option ReadText) (pieces : ReadPieces) (whole text : List ℕ) → IsFrontRead whole front → AreRead text pieces → IsReadText (whole ++ text) (all_behind front pieces)
  are_behind front (Only later) whole text is are = one_behind front later whole text is are
  are_behind front (Behind' p first last) whole text is are =
      let before = are_behind front first whole are.0 is are.3 in
      let ended = ended_behind whole are.0 (are.2.0, are.2.1) in
      subst (λ t. IsReadText t (both (all_behind front first) last)) (append_assoc whole are.0 are.1 ∙ ap (λ t. whole ++ t) (sym are.2.2))
      (then_read read unite (all_behind front first) last (both (all_behind front first) last) refl refl (whole ++ are.0) are.1 (ended, before) are.4)

pub both_are : (front later : ReadText) (r : Result ReadText BaseFault) → IfOk r (λ read. (read.dataset ≡ united front.dataset later.dataset) × (read.ends ≡ front.ends + later.ends)) → IfOk r (λ read. read ≡ both front later)
both_are front later (Ok read) is = λ i. record { dataset = is.0 i; ends = is.1 i }
both_are front later (Err e) is = tt

pub ends_behind : (front : Option ReadText) (pieces : ReadPieces) → (all_behind front pieces).ends ≡ ends_of front + ends_in pieces
ends_behind None (Only later) = omega arith
ends_behind (Some front) (Only later) = refl
ends_behind front (Behind' p first last) = let some : (all_behind front first).ends ≡ ends_of front + ends_in first = ends_behind front first in omega arith

pub ends_as_one : (front : Option ReadText) (behind : Option ReadPieces) (pieces : ReadPieces) → behind ≡ Some pieces → ends_of (if_behind front behind) ≡ ends_of front + ends_in pieces
ends_as_one front behind pieces e = ap (λ b. ends_of (if_behind front b)) e ∙ ends_behind front pieces

pub as_behind : (front : Option ReadText) (behind : Option ReadPieces) (pieces : ReadPieces) → behind ≡ Some pieces → if_behind front behind ≡ Some (all_behind front pieces)
as_behind front behind pieces e = ap (if_behind front) e

-- ---- bad lines among others

pub bad_in_front : (ls later : List (List ℕ)) (n : ℕ) → IsFirstBadOf ls n → IsFirstBadOf (ls ++ later) n
bad_in_front ls later n b = record {
  before = b.before;
  bad = b.bad;
  after = b.after ++ later;
  front = b.front;
  cut = ap (λ t. t ++ later) b.cut ∙ append_assoc b.front (b.bad ∷ b.after) later;
  good = b.good;
  here = b.here;
  number = b.number;
}

pub bad_behind : (before ls : List (List ℕ)) (said : List Line) (n : ℕ) → AreLines before said → IsFirstBadOf ls n → IsFirstBadOf (before ++ ls) (length before + n)
bad_behind before ls said n good b =
    let number : n ≡ length b.front + 1 = b.number in
    let all : length (before ++ b.front) ≡ length before + length b.front = length-append before b.front in
    record {
      before = said ++ b.before;
      bad = b.bad;
      after = b.after;
      front = before ++ b.front;
      cut = ap (λ t. before ++ t) b.cut ∙ sym (append_assoc before b.front (b.bad ∷ b.after));
      good = are_both good b.good;
      here = b.here;
      number = omega arith;
    }

head_is : (x y : List ℕ) (xs ys : List (List ℕ)) → x ∷ xs ≡ y ∷ ys → x ≡ y
head_is x y xs ys e = cc

tail_is : (x y : List ℕ) (xs ys : List (List ℕ)) → x ∷ xs ≡ y ∷ ys → xs ≡ ys
tail_is x y xs ys e = cc

not_more : (x y : List ℕ) (front after : List (List ℕ)) → [] ∷ [] ≡ x ∷ (front ++ y ∷ after) → ⊥
not_more x y [] after e = absurd cc
not_more x y (f ∷ front) after e = absurd cc

pub empty_says : IsLine [] Nothing
empty_says = record { utf8 = IsUtf8-nil; says = nothing (at_end (record { blanks = []; cut = refl; each = refl })) refl }

-- the empty line that comes last isn't bad
bad_before_last : (ls front : List (List ℕ)) (bad : List ℕ) (after : List (List ℕ)) → IsBad bad → ls ++ [] ∷ [] ≡ front ++ bad ∷ after → (rest : List (List ℕ)) × (ls ≡ front ++ bad ∷ rest)
bad_before_last [] [] bad after here e = absurd (here Nothing (subst (λ l. IsLine l Nothing) (head_is [] bad [] after e) empty_says))
bad_before_last [] (f ∷ front) bad after here e = absurd (not_more f bad front after e)
bad_before_last (l ∷ ls) [] bad after here e = (ls, ap (λ x. x ∷ ls) (head_is l bad (ls ++ [] ∷ []) after e))
bad_before_last (l ∷ ls) (f ∷ front) bad after here e =
    let r = bad_before_last ls front bad after here (tail_is l f (ls ++ [] ∷ []) (front ++ bad ∷ after) e) in
    (r.0, (λ i. head_is l f (ls ++ [] ∷ []) (front ++ bad ∷ after) e i ∷ r.1 i))

pub bad_but_last : (ls : List (List ℕ)) (n : ℕ) → IsFirstBadOf (ls ++ [] ∷ []) n → IsFirstBadOf ls n
bad_but_last ls n b =
    let r = bad_before_last ls b.front b.bad b.after b.here b.cut in
    record { before = b.before; bad = b.bad; after = r.0; front = b.front; cut = r.1; good = b.good; here = b.here; number = b.number }

-- ---- the front of a text that begins with whole lines

none_taken : (t : Bool) (rest : List ℕ) → take (cond t 0 0) rest ≡ []
none_taken true rest = refl
none_taken false rest = refl

taken_behind : (t : Bool) (front rest : List ℕ) (k : ℕ) → 1 ≤ k → take (cond t (length front + k - 1) (length front + k)) (front ++ rest) ≡ front ++ take (cond t (k - 1) k) rest
taken_behind true front rest k h =
    ap (λ n. take n (front ++ rest)) (let e : length front + k - 1 ≡ length front + (k - 1) = omega arith in e) ∙ take-append-add front rest (k - 1)
taken_behind false front rest k h = take-append-add front rest k

pub front_further : (front rest : List ℕ) (k : ℕ) → 1 ≤ k → front_within (length front + k) (front ++ rest) ≡ front ++ front_within k rest
front_further front rest k h =
    let a : get_or (front ++ rest) (length front + k - 1) 0 ≡ get_or rest (k - 1) 0 =
    get_or-append_right front rest (length front + k - 1) 0 (omega arith) ∙ ap (λ n. get_or rest n 0) (let e : length front + k - 1 - length front ≡ k - 1 = omega arith in e) in
    let b : get_or (front ++ rest) (length front + k) 0 ≡ get_or rest k 0 =
    get_or-append_right front rest (length front + k) 0 (omega arith) ∙ ap (λ n. get_or rest n 0) (let e : length front + k - length front ≡ k = omega arith in e) in
    ap (λ x. take (cond (eqb x 13 && eqb (get_or (front ++ rest) (length front + k) 0) 10) (length front + k - 1) (length front + k)) (front ++ rest)) a
    ∙ ap (λ x. take (cond (eqb (get_or rest (k - 1) 0) 13 && eqb x 10) (length front + k - 1) (length front + k)) (front ++ rest)) b
    ∙ taken_behind (eqb (get_or rest (k - 1) 0) 13 && eqb (get_or rest k 0) 10) front rest k h

-- nothing, or whole lines
abbrev AreWhole : List ℕ → Type 0
AreWhole front = (front ≡ []) ⊎ EndsWithLine front

ends_in_lf : (front rest : List ℕ) → EndsWithLine front → get_or (front ++ rest) (length front - 1) 0 ≡ 10
ends_in_lf front rest ends =
    let many : length front ≡ length ends.0 + 1 = ap length ends.1 ∙ length-append ends.0 (10 ∷ []) in
    ap (λ n. get_or (front ++ rest) n 0) (let e : length front - 1 ≡ length ends.0 = omega arith in e)
    ∙ ap (λ t. get_or t (length ends.0) 0) (ap (λ t. t ++ rest) ends.1 ∙ append_assoc ends.0 (10 ∷ []) rest)
    ∙ get_or-append_seam ends.0 10 rest 0

-- all of the front, which does not end with a CR
front_alone : (front rest : List ℕ) → EndsWithLine front → front_within (length front) (front ++ rest) ≡ front
front_alone front rest ends =
    ap (λ x. take (cond (eqb x 13 && eqb (get_or (front ++ rest) (length front) 0) 10) (length front - 1) (length front)) (front ++ rest)) (ends_in_lf front rest ends)
    ∙ take-append_seam front rest

pub nothing_within : (rest : List ℕ) → front_within 0 rest ≡ []
nothing_within rest = none_taken (eqb (get_or rest 0 0) 13 && eqb (get_or rest 0 0) 10) rest

pub front_behind : (front rest : List ℕ) (k : ℕ) → AreWhole front → front_within (length front + k) (front ++ rest) ≡ front ++ front_within k rest
front_behind front rest k whole = elim (leb_tells 1 k) [
  | inl h ↦ front_further front rest k h.1
  | inr h ↦ elim whole [
    | inl e ↦ let none : length front ≡ 0 = ap length e in
        ap (λ t. front_within (length front + k) (t ++ rest)) e ∙ ap (λ n. front_within n rest) (let same : length front + k ≡ k = omega arith in same) ∙ ap (λ t. t ++ front_within k rest) (sym e)
    | inr ends ↦ let zero : k ≡ 0 = omega arith in
        ap (λ n. front_within n (front ++ rest)) (let same : length front + k ≡ length front = omega arith in same) ∙ front_alone front rest ends
        ∙ sym (append-nil front) ∙ ap (λ t. front ++ t) (sym (ap (λ n. front_within n rest) zero ∙ nothing_within rest))
  ]
]

pub but_last_behind : (before : List (List ℕ)) (x : List ℕ) (xs : List (List ℕ)) → but_last (before ++ x ∷ xs) ≡ before ++ but_last (x ∷ xs)
but_last_behind [] x xs = refl
but_last_behind (l ∷ []) x xs = refl
but_last_behind (l ∷ k ∷ before) x xs = ap (λ t. l ∷ t) (but_last_behind (k ∷ before) x xs)

but_last_of : (before ls : List (List ℕ)) (x : List ℕ) (xs : List (List ℕ)) → ls ≡ x ∷ xs → but_last (before ++ ls) ≡ before ++ but_last ls
but_last_of before ls x xs e = rw e (but_last_behind before x xs)

pub ended_after : (before : List (List ℕ)) (text : List ℕ) → but_last (before ++ lines text) ≡ before ++ but_last (lines text)
ended_after before text = but_last_of before (lines text) _ _ (lines_first text)

whole_front : (front : List ℕ) (text : Option ReadText) → IsFrontRead front text → AreWhole front
whole_front front None is = inl is
whole_front front (Some text) is = inr is.0

-- the lines that count of a text that begins with whole lines, of which n bytes more count
ended_further : (front rest : List ℕ) (before : List (List ℕ)) (k : ℕ) → AreWhole front → ((ys : List ℕ) → lines (front ++ ys) ≡ before ++ lines ys)
    → ended_lines (length front + k) (front ++ rest) ≡ before ++ ended_lines k rest
ended_further front rest before k whole cut =
    ap (λ t. but_last (lines t)) (front_behind front rest k whole) ∙ ap but_last (cut (front_within k rest)) ∙ ended_after before (front_within k rest)

-- ---- what is answered

both_whole : (front more : List ℕ) → EndsWithLine more → AreWhole (front ++ more)
both_whole front more ends = inr (front ++ ends.0, ap (λ t. front ++ t) ends.1 ∙ sym (append_assoc front ends.0 (10 ∷ [])))

module _ (read : LinesAreRead) where
  -- a bad line in a portion of whole lines
  portion_bad : (limit : ℕ) (front more rest : List ℕ) (text : Option ReadText) (m : ℕ) → IsFrontRead front text → EndsWithLine more → length (front ++ more) ≤ limit
      → IsFirstBad more m → IsFirstBadOf (counted_lines limit ((front ++ more) ++ rest)) (ends_of text + m)
  portion_bad limit front more rest text m is ends few bad =
      let before = lines_read read front text is in
      let later = lines_cut more ends in
      let here : IsFirstBadOf later.0 m = bad_but_last later.0 m (subst (λ ls. IsFirstBadOf ls m) (ap lines (sym (append-nil more)) ∙ later.1 []) bad) in
      let cut : (ys : List ℕ) → lines ((front ++ more) ++ ys) ≡ (before.before ++ later.0) ++ lines ys =
      λ ys. ap lines (append_assoc front more ys) ∙ before.cut (more ++ ys) ∙ ap (λ t. before.before ++ t) (later.1 ys) ∙ sym (append_assoc before.before later.0 (lines ys)) in
      let found : (ls : List (List ℕ)) → IsFirstBadOf ((before.before ++ later.0) ++ ls) (ends_of text + m) =
      λ ls. subst (IsFirstBadOf ((before.before ++ later.0) ++ ls)) (ap (λ n. n + m) before.number)
      (bad_in_front (before.before ++ later.0) ls (length before.before + m) (bad_behind before.before later.0 before.said m before.each here)) in
      let k = limit - length (front ++ more) in
      let same : length (front ++ more) + k ≡ limit = omega arith in
      elim (leb_tells (length ((front ++ more) ++ rest)) limit) [
        | inl h ↦ subst (λ ls. IsFirstBadOf ls (ends_of text + m)) (sym (within ((front ++ more) ++ rest) limit h.1 ∙ cut rest)) (found (lines rest))
        | inr h ↦ subst (λ ls. IsFirstBadOf ls (ends_of text + m))
            (sym (beyond ((front ++ more) ++ rest) limit h.1 ∙ ap (λ n. ended_lines n ((front ++ more) ++ rest)) (sym same) ∙ ended_further (front ++ more) rest (before.before ++ later.0) k (both_whole front more ends) cut))
            (found (ended_lines k rest))
      ]

  -- what comes last, all of it
  last_bad : (limit : ℕ) (front last : List ℕ) (text : Option ReadText) (m : ℕ) → IsFrontRead front text → length (front ++ last) ≤ limit → IsFirstBad last m
      → IsFirstBadOf (counted_lines limit (front ++ last)) (ends_of text + m)
  last_bad limit front last text m is few bad =
      let before = lines_read read front text is in
      subst (λ ls. IsFirstBadOf ls (ends_of text + m)) (sym (within (front ++ last) limit few ∙ before.cut last))
      (subst (IsFirstBadOf (before.before ++ lines last)) (ap (λ n. n + m) before.number) (bad_behind before.before (lines last) before.said m before.each bad))

  answer_beyond : (limit k : ℕ) (front last later : List ℕ) (text : Option ReadText) (f : BaseFault) → limit < length ((front ++ last) ++ later)
      → (before : List (List ℕ)) (said : List Line) → AreLines before said → length before ≡ ends_of text → ended_lines limit ((front ++ last) ++ later) ≡ before ++ ended_lines k last
      → StopsWithin (ends_of text) k last f → IsAnswer limit ((front ++ last) ++ later) (Err f)
  answer_beyond limit k front last later text fault.OutOfMemory over before said each number counted stops = tt
  answer_beyond limit k front last later text (fault.BadLine n) over before said each number counted stops =
      subst (λ ls. IsFirstBadOf ls n) (sym (beyond ((front ++ last) ++ later) limit over ∙ counted))
      (subst (IsFirstBadOf (before ++ ended_lines k last)) (ap (λ n. n + stops.0) number ∙ sym stops.1) (bad_behind before (ended_lines k last) said stops.0 each stops.2))
  answer_beyond limit k front last later text fault.TooLong over before said each number counted stops = (
    over,
    λ n b. no_bad_in b.front b.bad b.after (said ++ stops.0) b.here
        (subst (λ ls. AreLines ls (said ++ stops.0)) (sym counted ∙ b.cut) (are_both each stops.1)),
  )
  answer_beyond limit k front last later text fault.Device over before said each number counted stops = absurd stops

  -- what comes last, and is too much
  long_fault : (limit k : ℕ) (front last later : List ℕ) (text : Option ReadText) (f : BaseFault) → IsFrontRead front text → length front + k ≡ limit → k < length last
      → StopsWithin (ends_of text) k last f → IsAnswer limit ((front ++ last) ++ later) (Err f)
  long_fault limit k front last later text f is same many stops =
      let before = lines_read read front text is in
      let whole : (front ++ last) ++ later ≡ front ++ (last ++ later) = append_assoc front last later in
      let longer : length ((front ++ last) ++ later) ≡ length front + length last + length later = length-append (front ++ last) later ∙ ap (λ n. n + length later) (length-append front last) in
      let over : limit < length ((front ++ last) ++ later) = omega arith in
      let counted : ended_lines limit ((front ++ last) ++ later) ≡ before.before ++ ended_lines k last =
      ap (ended_lines limit) whole ∙ ap (λ n. ended_lines n (front ++ (last ++ later))) (sym same) ∙ ended_further front (last ++ later) before.before k (whole_front front text is) before.cut
      ∙ ap (λ t. before.before ++ but_last (lines t)) (front_within-front last later k many) in
      answer_beyond limit k front last later text f over before.before before.said before.each before.number counted stops

-- ---- what has come

given_behind : (before between after : Option (List ℕ)) (first more : List ℕ) → Consumes before between first → Consumes between after more → Consumes before after (first ++ more)
given_behind None between after first more h k = tt
given_behind (Some xs) None after first more h k = absurd h
given_behind (Some xs) (Some ys) None first more h k = absurd k
given_behind (Some xs) (Some ys) (Some zs) first more h k = h ∙ ap (λ t. first ++ t) k ∙ sym (append_assoc first more zs)

-- more came behind what no line of ended
pub further_begun : (before old new : Option (List ℕ)) (limit : ℕ) (read : PartlyRead) (rest : Vec ℕ Global) (is_all : Bool) → IsPartlyRead before old read
    → IsFilled limit old new read.rest.items rest.items is_all → IsPartlyRead before new (record { lines = read.lines; len = read.len; rest = rest; spare = read.spare; is_all = is_all })
further_begun before old new limit read rest is_all is filled = record {
  front = is.front;
  taken = subst (Consumes before new) (append_assoc is.front read.rest.items filled.given ∙ ap (λ t. is.front ++ t) (sym filled.cut))
      (given_behind before old new (is.front ++ read.rest.items) filled.given is.taken filled.taken);
  said = is.said;
  count = is.count;
  all = filled.all;
}

-- whole lines were read, and more came behind the others
pub further_read : LinesAreRead → ListsUnite → (before old new : Option (List ℕ)) (limit : ℕ) (had : PartlyRead) (lines begun : List ℕ) (front : Option ReadText) (pieces : ReadPieces) (rest spare : Vec ℕ Global) (is_all : Bool)
    → IsPartlyRead before old had → ArePieces had.rest.items lines begun → IsFilled limit old new begun rest.items is_all → front ≡ as_one had.lines → AreRead lines pieces
    → IsPartlyRead before new (record { lines = record { front = front; behind = Some pieces }; len = had.len + length lines; rest = rest; spare = spare; is_all = is_all })
further_read read unite before old new limit had lines begun front pieces rest spare is_all is parts filled same are =
    let cut : (is.front ++ had.rest.items) ++ filled.given ≡ (is.front ++ lines) ++ rest.items =
    ap (λ t. (is.front ++ t) ++ filled.given) parts.2 ∙ ap (λ t. t ++ filled.given) (sym (append_assoc is.front lines begun)) ∙ append_assoc (is.front ++ lines) begun filled.given
    ∙ ap (λ t. (is.front ++ lines) ++ t) (sym filled.cut) in
    let number : had.len ≡ length is.front = is.count in
    let all : length (is.front ++ lines) ≡ length is.front + length lines = length-append is.front lines in
    record {
      front = is.front ++ lines;
      taken = subst (Consumes before new) cut (given_behind before old new (is.front ++ had.rest.items) filled.given is.taken filled.taken);
      said = (ended_behind is.front lines (parts.0, parts.1), are_behind read unite front pieces is.front lines (subst (IsFrontRead is.front) (sym same) is.said) are);
      count = omega arith;
      all = filled.all;
    }

module _ (read : LinesAreRead) where
  -- why whole lines were not read
  pub further_fault : (limit : ℕ) (text : List ℕ) (old : Option (List ℕ)) (had : PartlyRead) (lines begun : List ℕ) (f : BaseFault) → IsPartlyRead (Some text) old had → ArePieces had.rest.items lines begun
      → had.len + length had.rest.items ≤ limit → StopsFurther (ends_of (as_one had.lines)) lines f → IsAnswer limit text (Err f)
  further_fault limit text None had lines begun f is pieces few stops = absurd is.taken
  further_fault limit text (Some later) had lines begun fault.OutOfMemory is pieces few stops = tt
  further_fault limit text (Some later) had lines begun (fault.BadLine n) is pieces few stops =
      let cut : text ≡ (is.front ++ lines) ++ (begun ++ later) =
      is.taken ∙ ap (λ t. (is.front ++ t) ++ later) pieces.2 ∙ ap (λ t. t ++ later) (sym (append_assoc is.front lines begun)) ∙ append_assoc (is.front ++ lines) begun later in
      let number : had.len ≡ length is.front = is.count in
      let all : length (is.front ++ lines) ≡ length is.front + length lines = length-append is.front lines in
      let parts : length had.rest.items ≡ length lines + length begun = parts_length had.rest.items lines begun pieces in
      let within : length (is.front ++ lines) ≤ limit = omega arith in
      subst (λ t. IsFirstBadOf (counted_lines limit t) n) (sym cut)
      (subst (IsFirstBadOf (counted_lines limit ((is.front ++ lines) ++ (begun ++ later)))) (sym stops.1)
      (portion_bad read limit is.front lines (begun ++ later) (as_one had.lines) stops.0 is.said (pieces.0, pieces.1) within stops.2))
  further_fault limit text (Some later) had lines begun fault.TooLong is pieces few stops = absurd stops
  further_fault limit text (Some later) had lines begun fault.Device is pieces few stops = tt

  -- why what came last was not read
  pub last_fault : (limit : ℕ) (text : List ℕ) (now : Option (List ℕ)) (had : PartlyRead) (f : BaseFault) → IsPartlyRead (Some text) now had → had.is_all ≡ true → had.len + length had.rest.items ≤ limit
      → StopsBehind (ends_of (as_one had.lines)) had.rest.items f → IsAnswer limit text (Err f)
  last_fault limit text None had f is all few stops = absurd is.taken
  last_fault limit text (Some later) had fault.OutOfMemory is all few stops = tt
  last_fault limit text (Some later) had (fault.BadLine n) is all few stops =
      let whole : text ≡ is.front ++ had.rest.items = is.taken ∙ ap (λ t. (is.front ++ had.rest.items) ++ t) (is.all all) ∙ append-nil (is.front ++ had.rest.items) in
      let number : had.len ≡ length is.front = is.count in
      let many : length (is.front ++ had.rest.items) ≡ length is.front + length had.rest.items = length-append is.front had.rest.items in
      let within : length (is.front ++ had.rest.items) ≤ limit = omega arith in
      subst (λ t. IsFirstBadOf (counted_lines limit t) n) (sym whole)
      (subst (IsFirstBadOf (counted_lines limit (is.front ++ had.rest.items))) (sym stops.1) (last_bad read limit is.front had.rest.items (as_one had.lines) stops.0 is.said within stops.2))
  last_fault limit text (Some later) had fault.TooLong is all few stops = absurd stops
  last_fault limit text (Some later) had fault.Device is all few stops = absurd stops

  pub fault_beyond : (limit : ℕ) (text : List ℕ) (now : Option (List ℕ)) (had : PartlyRead) (f : BaseFault) → IsPartlyRead (Some text) now had → had.len ≤ limit → limit < had.len + length had.rest.items
      → StopsWithin (ends_of (as_one had.lines)) (limit - had.len) had.rest.items f → IsAnswer limit text (Err f)
  fault_beyond limit text None had f is few many stops = absurd is.taken
  fault_beyond limit text (Some later) had f is few many stops =
      let number : had.len ≡ length is.front = is.count in
      let k = limit - had.len in
      let same : length is.front + k ≡ limit = omega arith in
      let within : k < length had.rest.items = omega arith in
      subst (λ t. IsAnswer limit t (Err f)) (sym is.taken) (long_fault read limit k is.front had.rest.items later (as_one had.lines) f is.said same within stops)

-- all was read
pub last_answer : (limit : ℕ) (text : List ℕ) (now : Option (List ℕ)) (had : PartlyRead) (both : ReadText) → IsPartlyRead (Some text) now had → had.is_all ≡ true → had.len + length had.rest.items ≤ limit
    → ((front : List ℕ) → IsFrontRead front (as_one had.lines) → IsReadText (front ++ had.rest.items) both) → IsAnswer limit text (Ok both.dataset)
last_answer limit text None had both is all few said = absurd is.taken
last_answer limit text (Some later) had both is all few said =
    let whole : text ≡ is.front ++ had.rest.items = is.taken ∙ ap (λ t. (is.front ++ had.rest.items) ++ t) (is.all all) ∙ append-nil (is.front ++ had.rest.items) in
    let number : had.len ≡ length is.front = is.count in
    let many : length text ≡ length is.front + length had.rest.items = ap length whole ∙ length-append is.front had.rest.items in
    (subst (λ t. Spells t both.dataset) (sym whole) (said is.front is.said).spelled, let within : length text ≤ limit = omega arith in within)

-- ---- why a text is not read that is longer than the limit

few_but_last : (ls : List (List ℕ)) → length (but_last ls) ≤ length ls
few_but_last [] = omega arith
few_but_last (l ∷ []) = omega arith
few_but_last (l ∷ k ∷ ls) =
    let few : length (but_last (k ∷ ls)) ≤ length (k ∷ ls) = few_but_last (k ∷ ls) in
    let a : length (l ∷ but_last (k ∷ ls)) ≡ length (but_last (k ∷ ls)) + 1 = omega arith in
    let b : length (l ∷ k ∷ ls) ≡ length (k ∷ ls) + 1 = omega arith in
    omega arith

few_taken : (n : ℕ) (text : List ℕ) → length (take n text) ≤ length text
few_taken n text = let e : length text ≡ length (take n text) + length (drop n text) = ap length (sym (take-append-drop n text)) ∙ length-append (take n text) (drop n text) in omega arith

module _ (read : LinesAreRead) where
  pub within_bad : (limit : ℕ) (text front : List ℕ) (f : BaseFault) (n : ℕ) → front ≡ front_within limit text → f ≡ fault.BadLine n → StopsAt f (first_bad 0 (but_last (lines front))) → IsFirstBadOf (ended_lines limit text) n
  within_bad limit text front f n e is stops =
      subst (λ t. IsFirstBadOf (but_last (lines t)) n) e (first_bad_is read (but_last (lines front)) n (subst (λ f. StopsAt f (first_bad 0 (but_last (lines front)))) is stops))

  pub within_good : (limit : ℕ) (text front : List ℕ) → front ≡ front_within limit text → first_bad 0 (but_last (lines front)) ≡ None → (said : List Line) × AreLines (ended_lines limit text) said
  within_good limit text front e good = all_good read (ended_lines limit text) 0 (ap (λ t. first_bad 0 (but_last (lines t))) (sym e) ∙ good)

pub nothing_ends : (text : List ℕ) → (said : List Line) × AreLines (ended_lines 0 text) said
nothing_ends text = ([], subst (λ t. AreLines (but_last (lines t)) []) (sym (nothing_within text)) none)

pub few_within : (limit : ℕ) (text : List ℕ) (n : ℕ) → IsFirstBadOf (ended_lines limit text) n → n ≤ length text + 1
few_within limit text n b =
    let cut : length (ended_lines limit text) ≡ length b.front + length (b.bad ∷ b.after) = ap length b.cut ∙ length-append b.front (b.bad ∷ b.after) in
    let others : length (b.bad ∷ b.after) ≡ length b.after + 1 = omega arith in
    let number : n ≡ length b.front + 1 = b.number in
    let ended : length (ended_lines limit text) ≤ length (lines (front_within limit text)) = few_but_last (lines (front_within limit text)) in
    let all : length (lines (front_within limit text)) ≤ length (front_within limit text) + 1 = few_lines (front_within limit text) in
    let front : length (front_within limit text) ≤ length text = few_taken (cond (eqb (get_or text (limit - 1) 0) 13 && eqb (get_or text limit 0) 10) (limit - 1) limit) text in
    omega arith

-- ---- by equal numbers and texts

pub moved_within : (a b k : ℕ) (s t : List ℕ) (f : BaseFault) → a ≡ b → s ≡ t → StopsWithin a k s f → StopsWithin b k t f
moved_within a b k s t f e h stops = subst (λ n. StopsWithin n k t f) e (subst (λ x. StopsWithin a k x f) h stops)

pub moved_behind : (a b : ℕ) (s t : List ℕ) (f : BaseFault) → a ≡ b → s ≡ t → StopsBehind a s f → StopsBehind b t f
moved_behind a b s t f e h stops = subst (λ n. StopsBehind n t f) e (subst (λ x. StopsBehind a x f) h stops)

pub if_known : (known : Option (List ℕ)) (Q : List ℕ → Type 0) → ((text : List ℕ) → known ≡ Some text → Q text) → IfSome known Q
if_known None Q h = tt
if_known (Some text) Q h = h text refl

-- what is not more than the limit is all
pub all_came : (is_all : Bool) (limit n : ℕ) → (is_all ≡ false → limit < n) → n ≤ limit → is_all ≡ true
all_came true limit n many few = refl
all_came false limit n many few = absurd (let over : limit < n = many refl in omega arith)
