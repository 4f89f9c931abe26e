-- What more bytes leave as it was: the lines whose end is known stay the first ones, and so does why
-- a piece was refused.
use Rattle.std.specs.Prelude.{◌&&◌}
use Rattle.std.proofs.Common.{◌≡◌, ◌+◌, ◌-◌, ◌<◌, ◌≤◌, inl, inr, ℕ, Bool, true, false, cond, eqb, List, [], ◌∷◌, ◌++◌, length, take, get_or, suc, Err, refl, sym, ap, ◌∙◌, subst, arith, append_assoc, length-append}
use Rattle.std.proofs.lemmas.List.{append-nil, get_or_append_left}
use Rattle.std.proofs.lemmas.Bool.{eqb-true}
use Rattle.std.proofs.lemmas.Bool.Decides.{leb_tells}
use Rattle.std.proofs.Math.Seq.{take-suc, take-append-add, take-length}
use Rattle.std.specs.List.{onto_first}
use Rattle.nquads_lines.specs.Lines.{lines, lines_after}
use Rattle.nquads_lines.proofs.Ends.{lines_first}
use Rattle.nquads.specs.declared.fault.BaseFault.{BaseFault}
use Rattle.nquads.specs.declared.fault.BaseFault.TheVariants as fault
use Rattle.nquads.specs.Spelled.{IsFirstBadOf}
use Rattle.nquads.specs.Long.{front_within, but_last, counted_lines, IsAnswer}
use Rattle.nquads.specs.Fed.{without_last_cr, lines_that_ended, known_lines, NoneIsBad, Stops}
use Rattle.nquads.proofs.LongLaws.{front_within-front, within, beyond}
use Rattle.nquads.proofs.PortionLaws.{bad_in_front, but_last_behind}
use Rattle.nquads.proofs.KeptLaws.{without_behind, known_within, known_beyond}

-- ---- the lines of a text and of a longer one

-- all lines but the last of the short text are the first ones of the long text, which has more
record Grows (short long : List (List ℕ)) : Type 0 where
  before : List (List ℕ)
  last : List ℕ
  first : List ℕ
  later : List (List ℕ)
  alone : short ≡ before ++ last ∷ []
  behind : long ≡ before ++ first ∷ later

grows_more : (x : List ℕ) (short long : List (List ℕ)) → Grows short long → Grows (x ∷ short) (x ∷ long)
grows_more x short long g = record {
  before = x ∷ g.before;
  last = g.last;
  first = g.first;
  later = g.later;
  alone = ap (λ t. x ∷ t) g.alone;
  behind = ap (λ t. x ∷ t) g.behind;
}

onto_both : (b : ℕ) (before : List (List ℕ)) (last first : List ℕ) (later short long : List (List ℕ)) → short ≡ before ++ last ∷ [] → long ≡ before ++ first ∷ later → Grows (onto_first b short) (onto_first b long)
onto_both b [] last first later short long e h = record { before = []; last = b ∷ last; first = b ∷ first; later = later; alone = ap (onto_first b) e; behind = ap (onto_first b) h }
onto_both b (x ∷ xs) last first later short long e h = record { before = (b ∷ x) ∷ xs; last = last; first = first; later = later; alone = ap (onto_first b) e; behind = ap (onto_first b) h }

-- one byte more in front, by whether it is an LF or a CR
grows_by_byte : (n m cr : Bool) (b : ℕ) (inner after inners afters : List (List ℕ)) → Grows inner inners → Grows after afters
    → Grows (cond n (cond cr inner ([] ∷ inner)) (cond m ([] ∷ after) (onto_first b inner))) (cond n (cond cr inners ([] ∷ inners)) (cond m ([] ∷ afters) (onto_first b inners)))
grows_by_byte true m true b inner after inners afters g h = g
grows_by_byte true m false b inner after inners afters g h = grows_more [] inner inners g
grows_by_byte false true cr b inner after inners afters g h = grows_more [] after afters h
grows_by_byte false false cr b inner after inners afters g h = onto_both b g.before g.last g.first g.later inner inners g.alone g.behind

some_by_byte : (n m : Bool) (b : ℕ) (inner after : List (List ℕ)) (first : List ℕ) (later : List (List ℕ)) → inner ≡ first ∷ later
    → (x : List ℕ) × (xs : List (List ℕ)) × (cond n inner (cond m ([] ∷ after) (onto_first b inner)) ≡ x ∷ xs)
some_by_byte true m b inner after first later e = (first, later, e)
some_by_byte false true b inner after first later e = ([], after, refl)
some_by_byte false false b inner after first later e = (b ∷ first, later, ap (onto_first b) e)

some_after : (cr : Bool) (text : List ℕ) → (x : List ℕ) × (xs : List (List ℕ)) × (lines_after cr text ≡ x ∷ xs)
some_after false text = (_, _, lines_first text)
some_after true [] = ([], [], refl)
some_after true (b ∷ bs) = some_by_byte (eqb b 10) (eqb b 13) b (lines_after false bs) (lines_after true bs) _ _ (lines_first bs)

grows : (cr : Bool) (xs ys : List ℕ) → Grows (lines_after cr xs) (lines_after cr (xs ++ ys))
grows cr [] ys = let some = some_after cr ys in record { before = []; last = []; first = some.0; later = some.1; alone = refl; behind = some.2 }
grows cr (b ∷ bs) ys =
    grows_by_byte (eqb b 10) (eqb b 13) cr b (lines_after false bs) (lines_after true bs) (lines_after false (bs ++ ys)) (lines_after true (bs ++ ys)) (grows false bs ys) (grows true bs ys)

but_last_alone : (short long : List (List ℕ)) (g : Grows short long) → but_last short ≡ g.before
but_last_alone short long g = ap but_last g.alone ∙ but_last_behind g.before g.last [] ∙ append-nil g.before

-- a line that has an end is a line of each longer text
lines_longer : (xs ys : List ℕ) → (later : List (List ℕ)) × (lines (xs ++ ys) ≡ but_last (lines xs) ++ later)
lines_longer xs ys =
    let g = grows false xs ys in
    (g.first ∷ g.later, g.behind ∙ ap (λ t. t ++ g.first ∷ g.later) (sym (but_last_alone (lines xs) (lines (xs ++ ys)) g)))

-- and has its end there
ended_longer : (xs ys : List ℕ) → (later : List (List ℕ)) × (but_last (lines (xs ++ ys)) ≡ but_last (lines xs) ++ later)
ended_longer xs ys =
    let g = grows false xs ys in (
      but_last (g.first ∷ g.later),
      ap but_last g.behind ∙ but_last_behind g.before g.first g.later ∙ ap (λ t. t ++ but_last (g.first ∷ g.later)) (sym (but_last_alone (lines xs) (lines (xs ++ ys)) g)),
    )

-- ---- the bytes before a CR that comes last

last_cr : (text : List ℕ) → (end : List ℕ) × (text ≡ without_last_cr text ++ end)
last_cr [] = ([], refl)
last_cr (b ∷ []) = elim (eqb b 13) as (λ m. (end : List ℕ) × (b ∷ [] ≡ cond m [] (b ∷ []) ++ end)) [ true ↦ (b ∷ [], refl) | false ↦ ([], refl) ]
last_cr (b ∷ c ∷ bs) = let more = last_cr (c ∷ bs) in (more.0, ap (λ t. b ∷ t) more.1)

few_without : (text : List ℕ) → length (without_last_cr text) ≤ length text
few_without text =
    let cut = last_cr text in
    let all : length text ≡ length (without_last_cr text) + length cut.0 = ap length cut.1 ∙ length-append (without_last_cr text) cut.0 in
    omega arith

-- a CR that comes last is left out
less_by_cr : (text : List ℕ) (n : ℕ) → length text ≡ n + 1 → get_or text n 0 ≡ 13 → length (without_last_cr text) ≡ n
less_by_cr text n long cr =
    let whole : text ≡ take n text ++ 13 ∷ [] =
    sym (take-length text) ∙ ap (λ k. take k text) (let same : length text ≡ suc n = omega arith in same) ∙ take-suc text n 0 (omega arith) ∙ ap (λ b. take n text ++ b ∷ []) cr in
    let left : without_last_cr text ≡ take n text = ap without_last_cr whole ∙ without_behind (take n text) 13 [] ∙ append-nil (take n text) in
    let lone : List ℕ = 13 ∷ [] in
    let parts : length text ≡ length (take n text) + length lone = ap length whole ∙ length-append (take n text) lone in
    let one : length lone ≡ 1 = omega arith in
    let same : length (without_last_cr text) ≡ length (take n text) = ap length left in
    omega arith

taken_more : (k : ℕ) (xs ys : List ℕ) → length xs ≤ k → (more : List ℕ) × (take k (xs ++ ys) ≡ xs ++ more)
taken_more k xs ys few =
    let same : k ≡ length xs + (k - length xs) = omega arith in
    (take (k - length xs) ys, ap (λ n. take n (xs ++ ys)) same ∙ take-append-add xs ys (k - length xs))

-- how many bytes a front has that does not part a CR from its LF
few_in_front : (limit : ℕ) (all more : List ℕ) (cr lf : Bool) → length all ≤ limit → eqb (get_or (all ++ more) (limit - 1) 0) 13 ≡ cr → length (without_last_cr all) ≤ cond (cr && lf) (limit - 1) limit
few_in_front limit all more false lf few e = let less = few_without all in omega arith
few_in_front limit all more true false few e = let less = few_without all in omega arith
few_in_front limit all more true true few e = elim (leb_tells (length all) (limit - 1)) [
  | inl h ↦ let less = few_without all in omega arith
  | inr h ↦
      let last : get_or all (limit - 1) 0 ≡ 13 = sym (get_or_append_left all more 0 (limit - 1) h.1) ∙ eqb-true (get_or (all ++ more) (limit - 1) 0) 13 e in
      let left : length (without_last_cr all) ≡ limit - 1 = less_by_cr all (limit - 1) (omega arith) last in
      omega arith
]

front_longer : (limit : ℕ) (all more : List ℕ) → length all ≤ limit → (later : List ℕ) × (front_within limit (all ++ more) ≡ without_last_cr all ++ later)
front_longer limit all more few =
    let cut = last_cr all in
    let cr : Bool = eqb (get_or (all ++ more) (limit - 1) 0) 13 in
    let lf : Bool = eqb (get_or (all ++ more) limit 0) 10 in
    let k : ℕ = cond (cr && lf) (limit - 1) limit in
    let taken = taken_more k (without_last_cr all) (cut.0 ++ more) (few_in_front limit all more cr lf few refl) in
    (taken.0, ap (take k) (ap (λ t. t ++ more) cut.1 ∙ append_assoc (without_last_cr all) cut.0 more) ∙ taken.1)

-- ---- the lines whose end is known

known_same : (limit : ℕ) (all more : List ℕ) → limit < length all → known_lines limit (all ++ more) ≡ known_lines limit all
known_same limit all more many =
    let long : length (all ++ more) ≡ length all + length more = length-append all more in
    known_beyond limit (all ++ more) (omega arith) ∙ ap (λ t. but_last (lines t)) (front_within-front all more limit many) ∙ sym (known_beyond limit all many)

ended_further : (all more : List ℕ) → (later : List (List ℕ)) × (lines_that_ended (all ++ more) ≡ lines_that_ended all ++ later)
ended_further all [] = ([], ap lines_that_ended (append-nil all) ∙ sym (append-nil (lines_that_ended all)))
ended_further all (b ∷ bs) =
    let cut = last_cr all in
    let whole : without_last_cr (all ++ b ∷ bs) ≡ without_last_cr all ++ (cut.0 ++ without_last_cr (b ∷ bs)) =
    without_behind all b bs ∙ ap (λ t. t ++ without_last_cr (b ∷ bs)) cut.1 ∙ append_assoc (without_last_cr all) cut.0 (without_last_cr (b ∷ bs)) in
    let longer = ended_longer (without_last_cr all) (cut.0 ++ without_last_cr (b ∷ bs)) in
    (longer.0, ap (λ t. but_last (lines t)) whole ∙ longer.1)

known_longer : (limit : ℕ) (all more : List ℕ) → (later : List (List ℕ)) × (known_lines limit (all ++ more) ≡ known_lines limit all ++ later)
known_longer limit all more = elim (leb_tells (length all) limit) [
  | inr h ↦ ([], known_same limit all more h.1 ∙ sym (append-nil (known_lines limit all)))
  | inl h ↦ elim (leb_tells (length (all ++ more)) limit) [
    | inl g ↦
        let further = ended_further all more in
        (further.0, known_within limit (all ++ more) g.1 ∙ further.1 ∙ ap (λ t. t ++ further.0) (sym (known_within limit all h.1)))
    | inr g ↦
        let front = front_longer limit all more h.1 in
        let longer = ended_longer (without_last_cr all) front.0 in (
          longer.0,
          known_beyond limit (all ++ more) g.1 ∙ ap (λ t. but_last (lines t)) front.1 ∙ longer.1 ∙ ap (λ t. t ++ longer.0) (sym (known_within limit all h.1)),
        )
  ]
]

-- each of them counts
counted_longer : (limit : ℕ) (all : List ℕ) → (later : List (List ℕ)) × (counted_lines limit all ≡ known_lines limit all ++ later)
counted_longer limit all = elim (leb_tells (length all) limit) [
  | inl h ↦
      let cut = last_cr all in
      let longer = lines_longer (without_last_cr all) cut.0 in
      (longer.0, within all limit h.1 ∙ ap lines cut.1 ∙ longer.1 ∙ ap (λ t. t ++ longer.0) (sym (known_within limit all h.1)))
  | inr h ↦ ([], beyond all limit h.1 ∙ sym (known_beyond limit all h.1) ∙ sym (append-nil (known_lines limit all)))
]

-- ---- why a piece was refused

bad_longer : (short long later : List (List ℕ)) (n : ℕ) → long ≡ short ++ later → IsFirstBadOf short n → IsFirstBadOf long n
bad_longer short long later n e b = subst (λ ls. IsFirstBadOf ls n) (sym e) (bad_in_front short later n b)

pub stops_longer : (limit : ℕ) (all more : List ℕ) (f : BaseFault) → Stops limit all f → Stops limit (all ++ more) f
stops_longer limit all more fault.OutOfMemory stops = tt
stops_longer limit all more (fault.BadLine n) stops =
    let longer = known_longer limit all more in
    bad_longer (known_lines limit all) (known_lines limit (all ++ more)) longer.0 n longer.1 stops
stops_longer limit all more fault.TooLong stops =
    let long : length (all ++ more) ≡ length all + length more = length-append all more in
    let over : limit < length all = stops.0 in
    (let h : limit < length (all ++ more) = omega arith in h, subst NoneIsBad (sym (known_same limit all more over)) stops.1)
stops_longer limit all more fault.Device stops = absurd stops

-- it is what all bytes at once are answered
pub stops_answered : (limit : ℕ) (all : List ℕ) (f : BaseFault) → Stops limit all f → IsAnswer limit all (Err f)
stops_answered limit all fault.OutOfMemory stops = tt
stops_answered limit all (fault.BadLine n) stops =
    let longer = counted_longer limit all in
    bad_longer (known_lines limit all) (counted_lines limit all) longer.0 n longer.1 stops
stops_answered limit all fault.TooLong stops = (stops.0, subst NoneIsBad (known_beyond limit all stops.0) stops.1)
stops_answered limit all fault.Device stops = absurd stops
