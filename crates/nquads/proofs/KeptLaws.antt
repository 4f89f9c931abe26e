-- What is kept of a base that comes in pieces: its whole lines, and what they say.
use Rattle.std.specs.Prelude.{◌&&◌, ◌||◌, IfErr, MatchOption}
use Rattle.std.proofs.Common.{◌≡◌, ◌+◌, ◌-◌, ◌<◌, ◌≤◌, ◌⊎◌, inl, inr, ℕ, Bool, true, false, cond, eqb, not, List, [], ◌∷◌, ◌++◌, length, take, drop, get_or, zero, suc, Result, Ok, Err, refl, sym, ap, ◌∙◌, subst, arith, append_assoc, length-append, Some, None}
use Rattle.std.proofs.lemmas.List.{append-nil, take-append-drop, length-take-le}
use Rattle.std.proofs.lemmas.Bool.{le-leb, lt-leb}
use Rattle.std.proofs.lemmas.Bool.Decides.{leb_tells}
use Rattle.std.proofs.Math.Seq.{take-suc, drop-cons, drop-length, take-append_seam, get_or-append_seam}
use Rattle.std.specs.List.{onto_first}
use Rattle.datasets.specs.Dataset.{Dataset}
use Rattle.terms.specs.declared.term.Term.{Term}
use Rattle.terms.specs.DataSet.{dataset_of, united, ListsUnite, ListsGrowAsDatasets}
use Rattle.nquads_lines.specs.declared.stop.Line.{Line}
use Rattle.nquads_lines.specs.declared.stop.Line.TheVariants.{Nothing, Graph, Statement}
use Rattle.nquads_lines.specs.Lines.{lines, lines_after, is_inner}
use Rattle.nquads_lines.specs.Reading.{line_of, LinesAreRead}
use Rattle.std.specs.Option.{option_map_or, option_to_list}
use Rattle.datasets.specs.declared.quad.Quad.{Quad}
use Rattle.nquads.specs.declared.fault.BaseFault.{BaseFault}
use Rattle.nquads.specs.declared.fault.BaseFault.TheVariants as fault
use Rattle.nquads.specs.declared.reader.ReadText.{ReadText}
use Rattle.nquads.specs.declared.kept.Kept.{Kept}
use Rattle.nquads.specs.Spelled.{AreLines, none, more, stated, declared, Spells, IsFirstBadOf}
use Rattle.nquads.specs.Long.{front_within, but_last, ended_lines, IsAnswer}
use Rattle.nquads.specs.Portions.{IsReadText, both, StopsBehind, StopsWithin}
use Rattle.nquads.specs.Fed.{without_last_cr, lines_that_ended, known_lines, NoneIsBad, Stops}
use Rattle.nquads.specs.Feeding.{EndsByCr, EndsBefore, AreEnded, is_begun, Keeps, IsSame, HasMore, StopsAmong}
use Rattle.nquads.specs.Whole.{no_quads, keep, read_from, Faults}
use Rattle.nquads.proofs.WholeLaws.{no_bad_in, bad_line, declared_too, whole_found}
use Rattle.nquads.proofs.LongLaws.{within}
use Rattle.nquads.proofs.PieceLaws.{lines_before, lines_before_cr, are_both, in_parts, cut_spelled}
use Rattle.nquads.proofs.PortionLaws.{cut_read, empty_says, bad_in_front, bad_behind, bad_but_last, front_further, front_behind, nothing_within, ended_after}

-- ---- whole lines, and what follows them

abbrev begins_with_lf : List ℕ → Bool
begins_with_lf [] = false
begins_with_lf (b ∷ bs) = eqb b 10

-- whole lines that end with a CR or don't
pub record Cut (front : List ℕ) : Type 0 where
  pub cr : Bool
  pub before : List (List ℕ)
  pub alone : lines front ≡ before ++ [] ∷ []
  pub behind : (ys : List ℕ) → lines (front ++ ys) ≡ before ++ lines_after cr ys

-- what follows is not the LF of a CR
abbrev pub Apart : Bool → List ℕ → Type 0
Apart cr ys = cr ≡ true → begins_with_lf ys ≡ false

cut_of : (front rest : List ℕ) → AreEnded front rest → (c : Cut front) × Apart c.cr rest
cut_of front rest (inl e) = (record { cr = false; before = []; alone = ap lines e; behind = λ ys. ap (λ t. lines (t ++ ys)) e }, λ h. absurd cc)
cut_of front rest (inr (inl ends)) =
    let b = lines_before ends.0 false in
    (record { cr = false; before = b.0; alone = ap lines ends.1 ∙ b.1 []; behind = λ ys. ap lines (ap (λ t. t ++ ys) ends.1 ∙ append_assoc ends.0 (10 ∷ []) ys) ∙ b.1 ys }, λ h. absurd cc)
cut_of front rest (inr (inr e)) =
    let b = lines_before_cr e.0 false in
    (record { cr = true; before = b.0; alone = ap lines e.3 ∙ b.1 []; behind = λ ys. ap lines (ap (λ t. t ++ ys) e.3 ∙ append_assoc e.0 (13 ∷ []) ys) ∙ b.1 ys }, λ h. ap begins_with_lf e.4 ∙ e.5)

no_lf : (cr : Bool) (ys : List ℕ) → Apart cr ys → lines_after cr ys ≡ lines ys
no_lf false ys h = refl
no_lf true [] h = refl
no_lf true (b ∷ bs) h = let e : eqb b 10 ≡ false = h refl in rw e refl

lines_behind : (front ys : List ℕ) (c : Cut front) → Apart c.cr ys → lines (front ++ ys) ≡ c.before ++ lines ys
lines_behind front ys c h = c.behind ys ∙ ap (λ t. c.before ++ t) (no_lf c.cr ys h)

first_of_prefix : (xs ys : List ℕ) → begins_with_lf (xs ++ ys) ≡ false → begins_with_lf xs ≡ false
first_of_prefix [] ys h = refl
first_of_prefix (x ∷ xs) ys h = h

first_taken : (n : ℕ) (text : List ℕ) → begins_with_lf text ≡ false → begins_with_lf (take n text) ≡ false
first_taken n text h = first_of_prefix (take n text) (drop n text) (ap begins_with_lf (take-append-drop n text) ∙ h)

first_without : (text : List ℕ) → begins_with_lf text ≡ false → begins_with_lf (without_last_cr text) ≡ false
first_without [] h = refl
first_without (b ∷ []) h = elim (eqb b 13) as (λ m. begins_with_lf (cond m [] (b ∷ [])) ≡ false) [ true ↦ refl | false ↦ h ]
first_without (b ∷ c ∷ bs) h = h

pub ended_more : (front rest later : List ℕ) → AreEnded front rest → AreEnded front (rest ++ later)
ended_more front rest later (inl e) = inl e
ended_more front rest later (inr (inl e)) = inr (inl e)
ended_more front rest later (inr (inr e)) = inr (inr (e.0, e.1, e.2 ++ later, e.3, ap (λ t. t ++ later) e.4, e.5))

ended_both : (front text rest : List ℕ) → EndsBefore text rest → AreEnded (front ++ text) rest
ended_both front text rest (inl e) = inr (inl (front ++ e.0, ap (λ t. front ++ t) e.1 ∙ sym (append_assoc front e.0 (10 ∷ []))))
ended_both front text rest (inr e) = inr (inr (front ++ e.0, e.1, e.2, ap (λ t. front ++ t) e.3 ∙ sym (append_assoc front e.0 (13 ∷ [])), e.4, e.5))

-- ---- the lines whose end is known

pub without_behind : (xs : List ℕ) (b : ℕ) (bs : List ℕ) → without_last_cr (xs ++ b ∷ bs) ≡ xs ++ without_last_cr (b ∷ bs)
without_behind [] b bs = refl
without_behind (x ∷ []) b bs = refl
without_behind (x ∷ y ∷ xs) b bs = ap (λ t. x ∷ t) (without_behind (y ∷ xs) b bs)

without_front : (front rest : List ℕ) → AreEnded front rest → without_last_cr (front ++ rest) ≡ front ++ without_last_cr rest
without_front front (b ∷ bs) ended = without_behind front b bs
without_front front [] (inl e) = ap (λ t. without_last_cr (t ++ [])) e ∙ sym (ap (λ t. t ++ []) e)
without_front front [] (inr (inl ends)) =
    let whole : front ++ [] ≡ ends.0 ++ 10 ∷ [] = append-nil front ∙ ends.1 in
    ap without_last_cr whole ∙ without_behind ends.0 10 [] ∙ sym whole
without_front front [] (inr (inr e)) = let h : [] ≡ e.1 ∷ e.2 = e.4 in absurd cc

known_front : (front rest : List ℕ) (ended : AreEnded front rest) → lines_that_ended (front ++ rest) ≡ (cut_of front rest ended).0.before ++ lines_that_ended rest
known_front front rest ended =
    let c = cut_of front rest ended in
    ap (λ t. but_last (lines t)) (without_front front rest ended)
    ∙ ap but_last (lines_behind front (without_last_cr rest) c.0 (λ h. first_without rest (c.1 h)))
    ∙ ended_after c.0.before (without_last_cr rest)

inner_of : (n m : Bool) → not n ≡ true → m ≡ false → not (n || m) ≡ true
inner_of true m h e = absurd cc
inner_of false true h e = absurd cc
inner_of false false h e = refl

inner_case : (n m : Bool) (lf cr inner : List (List ℕ)) → not (n || m) ≡ true → cond n lf (cond m cr inner) ≡ inner
inner_case true m lf cr inner h = absurd cc
inner_case false true lf cr inner h = absurd cc
inner_case false false lf cr inner h = refl

not_true : (n : Bool) → not n ≡ true → n ≡ false
not_true true h = absurd cc
not_true false h = refl

inner_not : (n m : Bool) → not (n || m) ≡ true → n ≡ false
inner_not true m h = absurd cc
inner_not false m h = refl

both_true : (x y : Bool) → (x && y) ≡ true → (x ≡ true) × (y ≡ true)
both_true true true h = (refl, refl)
both_true true false h = absurd cc
both_true false y h = absurd cc

true_both : (x y : Bool) → x ≡ true → y ≡ true → (x && y) ≡ true
true_both true true h g = refl
true_both true false h g = absurd cc
true_both false y h g = absurd cc

inner_line : (b : ℕ) (bs : List ℕ) → is_inner b ≡ true → lines (b ∷ bs) ≡ onto_first b (lines bs)
inner_line b bs h = inner_case (eqb b 10) (eqb b 13) ([] ∷ lines bs) ([] ∷ lines_after true bs) (onto_first b (lines bs)) h

one_begun : (b : ℕ) → not (eqb b 10) ≡ true → lines (without_last_cr (b ∷ [])) ≡ without_last_cr (b ∷ []) ∷ []
one_begun b h =
    elim (eqb b 13) as (λ m. eqb b 13 ≡ m → lines (cond m [] (b ∷ [])) ≡ cond m [] (b ∷ []) ∷ []) [
      | true ↦ λ e. refl
      | false ↦ λ e. inner_line b [] (inner_of (eqb b 10) (eqb b 13) h e)
    ] refl

begun_line : (rest : List ℕ) → is_begun rest ≡ true → lines (without_last_cr rest) ≡ without_last_cr rest ∷ []
begun_line [] h = refl
begun_line (b ∷ []) h = one_begun b h
begun_line (b ∷ c ∷ bs) h =
    let i = both_true (is_inner b) (is_begun (c ∷ bs)) h in
    inner_line b (without_last_cr (c ∷ bs)) i.0 ∙ ap (onto_first b) (begun_line (c ∷ bs) i.1)

known_begun : (rest : List ℕ) → is_begun rest ≡ true → lines_that_ended rest ≡ []
known_begun rest h = ap but_last (begun_line rest h)

-- ---- looking for a known end

begun_first : (b : ℕ) (bs : List ℕ) → is_begun (b ∷ bs) ≡ true → eqb b 10 ≡ false
begun_first b [] h = not_true (eqb b 10) h
begun_first b (c ∷ bs) h = inner_not (eqb b 10) (eqb b 13) (both_true (is_inner b) (is_begun (c ∷ bs)) h).0

begun_with : (b : ℕ) (bs : List ℕ) → eqb b 10 ≡ false → (eqb b 13 ≡ false) ⊎ (bs ≡ []) → is_begun bs ≡ true → is_begun (b ∷ bs) ≡ true
begun_with b [] e f h = ap not e
begun_with b (c ∷ bs) e (inl f) h = true_both (is_inner b) (is_begun (c ∷ bs)) (inner_of (eqb b 10) (eqb b 13) (ap not e) f) h
begun_with b (c ∷ bs) e (inr f) h = absurd cc

begun_joined : (n : ℕ) (bytes : List ℕ) → is_begun (take (suc n) bytes) ≡ true → is_begun (drop n bytes) ≡ true → is_begun bytes ≡ true
begun_joined zero bytes g h = h
begun_joined (suc n) [] g h = refl
begun_joined (suc n) (b ∷ []) g h = g
begun_joined (suc n) (b ∷ c ∷ bs) g h =
    let i = both_true (is_inner b) (is_begun (c ∷ take n bs)) g in
    true_both (is_inner b) (is_begun (c ∷ bs)) i.0 (begun_joined n (c ∷ bs) i.1 h)

pub begun_found : (bytes : List ℕ) (from end : ℕ) → from ≤ end + 1 → (from ≡ 0 → end ≡ 0) → (1 ≤ from → end < from) → is_begun (drop end bytes) ≡ true
    → is_begun (take from bytes) ≡ true → is_begun bytes ≡ true
begun_found bytes zero end near first some h g = subst (λ n. is_begun (drop n bytes) ≡ true) (first refl) h
begun_found bytes (suc n) end near first some h g =
    let last : end < suc n = some (omega arith) in
    begun_joined n bytes g (subst (λ m. is_begun (drop m bytes) ≡ true) (let e : end ≡ n = omega arith in e) h)

pub ends_by_lf : (bytes : List ℕ) (end : ℕ) → 1 ≤ end → end ≤ length bytes → get_or bytes (end - 1) 0 ≡ 10 → EndsBefore (take end bytes) (drop end bytes)
ends_by_lf bytes end some few e =
    subst (λ m. EndsBefore (take m bytes) (drop m bytes)) (let same : suc (end - 1) ≡ end = omega arith in same)
    (inl (take (end - 1) bytes, take-suc bytes (end - 1) 0 (omega arith) ∙ ap (λ b. take (end - 1) bytes ++ b ∷ []) e))

pub ends_by_cr : (bytes : List ℕ) (end : ℕ) → 1 ≤ end → end < length bytes → get_or bytes (end - 1) 0 ≡ 13 → is_begun (drop end bytes) ≡ true → EndsBefore (take end bytes) (drop end bytes)
ends_by_cr bytes end some few e begun =
    let cut : take end bytes ≡ take (end - 1) bytes ++ 13 ∷ [] =
    ap (λ n. take n bytes) (let same : end ≡ suc (end - 1) = omega arith in same) ∙ take-suc bytes (end - 1) 0 (omega arith) ∙ ap (λ b. take (end - 1) bytes ++ b ∷ []) e in
    let follows : drop end bytes ≡ get_or bytes end 0 ∷ drop (suc end) bytes = drop-cons bytes end 0 few in
    inr (take (end - 1) bytes, get_or bytes end 0, drop (suc end) bytes, cut, follows, begun_first (get_or bytes end 0) (drop (suc end) bytes) (ap is_begun (sym follows) ∙ begun))

none_left : (xs : List ℕ) (n : ℕ) → n ≡ length xs → drop n xs ≡ []
none_left xs n e = ap (λ n. drop n xs) e ∙ drop-length xs

pub begun_back : (bytes : List ℕ) (end : ℕ) → 1 ≤ end → end ≤ length bytes → eqb (get_or bytes (end - 1) 0) 10 ≡ false → (eqb (get_or bytes (end - 1) 0) 13 ≡ false) ⊎ (end ≡ length bytes)
    → is_begun (drop end bytes) ≡ true → is_begun (drop (end - 1) bytes) ≡ true
begun_back bytes end some few lf cr begun =
    let follows : drop (end - 1) bytes ≡ get_or bytes (end - 1) 0 ∷ drop end bytes =
    drop-cons bytes (end - 1) 0 (omega arith) ∙ ap (λ n. get_or bytes (end - 1) 0 ∷ drop n bytes) (let same : suc (end - 1) ≡ end = omega arith in same) in
    let last : (eqb (get_or bytes (end - 1) 0) 13 ≡ false) ⊎ (drop end bytes ≡ []) =
    elim cr [ inl h ↦ inl h | inr h ↦ inr (none_left bytes end h) ] in
    ap is_begun follows ∙ begun_with (get_or bytes (end - 1) 0) (drop end bytes) lf last begun

-- ---- what is kept

good_before : (front : List ℕ) (c : Cut front) (text : ReadText) → IsReadText front text → (said : List Line) × AreLines c.before said × (length c.before ≡ text.ends)
good_before front c text is =
    let parts = in_parts c.before ([] ∷ []) is.spelled.said (subst (λ ls. AreLines ls is.spelled.said) c.alone is.spelled.each) in
    let many : length (lines front) ≡ length c.before + 1 = ap length c.alone ∙ length-append c.before ([] ∷ []) in
    let number : text.ends + 1 ≡ length (lines front) = is.ends in
    (parts.0, parts.2, omega arith)

none_bad_of : (all : List (List ℕ)) (said : List Line) → AreLines all said → NoneIsBad all
none_bad_of all said each n b = no_bad_in b.front b.bad b.after said b.here (subst (λ ls. AreLines ls said) b.cut each)

pub kept_good : (bytes : List ℕ) (kept : Kept) → Keeps bytes kept → NoneIsBad (lines_that_ended bytes)
kept_good bytes kept is =
    let c = (cut_of is.front kept.rest.items is.ended).0 in
    let good = good_before is.front c kept.read is.said in
    let known : lines_that_ended bytes ≡ c.before =
    ap lines_that_ended is.cut ∙ known_front is.front kept.rest.items is.ended ∙ ap (λ t. c.before ++ t) (known_begun kept.rest.items is.begun) ∙ append-nil c.before in
    none_bad_of (lines_that_ended bytes) good.0 (subst (λ ls. AreLines ls good.0) (sym known) good.1)

pub kept_length : (bytes : List ℕ) (kept : Kept) → Keeps bytes kept → length bytes ≡ kept.len + length kept.rest.items
kept_length bytes kept is =
    let all : length bytes ≡ length is.front + length kept.rest.items = ap length is.cut ∙ length-append is.front kept.rest.items in
    let number : kept.len ≡ length is.front = is.count in
    omega arith

pub kept_same : (bytes : List ℕ) (old new : Kept) → IsSame old new → Keeps bytes old → Keeps bytes new
kept_same bytes old new same is = record {
  front = is.front;
  cut = is.cut ∙ ap (λ t. is.front ++ t) (sym same.rest);
  ended = subst (AreEnded is.front) (sym same.rest) is.ended;
  said = subst (IsReadText is.front) (sym same.read) is.said;
  begun = ap is_begun same.rest ∙ is.begun;
  count = same.len ∙ is.count;
}

-- more came, and no line's end is known with it
pub kept_more : (bytes piece : List ℕ) (old new : Kept) → new.read ≡ old.read → new.len ≡ old.len → new.rest.items ≡ old.rest.items ++ piece → is_begun new.rest.items ≡ true
    → Keeps bytes old → Keeps (bytes ++ piece) new
kept_more bytes piece old new read len rest begun is = record {
  front = is.front;
  cut = ap (λ t. t ++ piece) is.cut ∙ append_assoc is.front old.rest.items piece ∙ ap (λ t. is.front ++ t) (sym rest);
  ended = subst (AreEnded is.front) (sym rest) (ended_more is.front old.rest.items piece is.ended);
  said = subst (IsReadText is.front) (sym read) is.said;
  begun = begun;
  count = len ∙ is.count;
}

-- what came with a piece behind the whole lines, which ends some more
record Came (bytes piece : List ℕ) (old mid : Kept) : Type 0 where
  front : List ℕ
  cut : bytes ++ piece ≡ front ++ mid.rest.items
  ended : AreEnded front mid.rest.items
  said : IsReadText front mid.read
  count : mid.len ≡ length front

came : (bytes piece : List ℕ) (old mid : Kept) → mid.read ≡ old.read → mid.len ≡ old.len → mid.rest.items ≡ old.rest.items ++ piece → Keeps bytes old → Came bytes piece old mid
came bytes piece old mid read len rest is = record {
  front = is.front;
  cut = ap (λ t. t ++ piece) is.cut ∙ append_assoc is.front old.rest.items piece ∙ ap (λ t. is.front ++ t) (sym rest);
  ended = subst (AreEnded is.front) (sym rest) (ended_more is.front old.rest.items piece is.ended);
  said = subst (IsReadText is.front) (sym read) is.said;
  count = len ∙ is.count;
}

-- the first bytes of what came are whole lines, and were read
pub kept_lines : LinesAreRead → ListsUnite → (bytes piece : List ℕ) (old mid new : Kept) (end : ℕ) → mid.read ≡ old.read → mid.len ≡ old.len → mid.rest.items ≡ old.rest.items ++ piece
    → end ≤ length mid.rest.items → EndsBefore (take end mid.rest.items) (drop end mid.rest.items) → is_begun (drop end mid.rest.items) ≡ true
    → ((front : List ℕ) → IsReadText front mid.read → HasMore (take end mid.rest.items) mid.read new.read) → new.len ≡ mid.len + end → new.rest.items ≡ drop end mid.rest.items
    → Keeps bytes old → Keeps (bytes ++ piece) new
kept_lines read unite bytes piece old mid new end same_read same_len same_rest few ended begun reads later left kept =
    let is = came bytes piece old mid same_read same_len same_rest kept in
    let all : List ℕ = mid.rest.items in
    let text : List ℕ = take end all in
    let rest : List ℕ = drop end all in
    let c = cut_of is.front all is.ended in
    let parts : text ++ rest ≡ all = take-append-drop end all in
    let long : length text ≡ end = length-take-le end all few in
    let many : length (is.front ++ text) ≡ length is.front + length text = length-append is.front text in
    let number : mid.len ≡ length is.front = is.count in
    let said = reads is.front is.said in
    record {
      front = is.front ++ text;
      cut = is.cut ∙ ap (λ t. is.front ++ t) (sym parts) ∙ sym (append_assoc is.front text rest) ∙ ap (λ t. (is.front ++ text) ++ t) (sym left);
      ended = subst (AreEnded (is.front ++ text)) (sym left) (ended_both is.front text rest ended);
      said = subst (IsReadText (is.front ++ text)) (sym said.2)
          (cut_read read unite c.0.before (is.front ++ text) is.front text mid.read said.0 (both mid.read said.0) c.0.alone
          (lines_behind is.front text c.0 (λ h. first_taken end all (c.1 h))) is.said said.1 refl refl);
      begun = ap is_begun left ∙ begun;
      count = omega arith;
    }

-- or one of them is bad
pub stops_among : (bytes piece : List ℕ) (old mid : Kept) (end : ℕ) (f : BaseFault) → mid.read ≡ old.read → mid.len ≡ old.len → mid.rest.items ≡ old.rest.items ++ piece
    → EndsBefore (take end mid.rest.items) (drop end mid.rest.items) → StopsBehind mid.read.ends (take end mid.rest.items) f
    → Keeps bytes old → StopsAmong (bytes ++ piece) f
stops_among bytes piece old mid end fault.OutOfMemory same_read same_len same_rest ended stops kept = tt
stops_among bytes piece old mid end (fault.BadLine n) same_read same_len same_rest ended stops kept =
    let is = came bytes piece old mid same_read same_len same_rest kept in
    let all : List ℕ = mid.rest.items in
    let text : List ℕ = take end all in
    let rest : List ℕ = drop end all in
    let c = (cut_of is.front all is.ended).0 in
    let k = (cut_of text rest (inr ended)).0 in
    let good = good_before is.front c mid.read is.said in
    let known : lines_that_ended (bytes ++ piece) ≡ c.before ++ (k.before ++ lines_that_ended rest) =
    ap lines_that_ended is.cut ∙ known_front is.front all is.ended
    ∙ ap (λ t. c.before ++ t) (ap lines_that_ended (sym (take-append-drop end all)) ∙ known_front text rest (inr ended)) in
    let here : IsFirstBadOf k.before stops.0 = bad_but_last k.before stops.0 (subst (λ ls. IsFirstBadOf ls stops.0) k.alone stops.2) in
    subst (λ ls. IsFirstBadOf ls n) (sym known)
    (subst (IsFirstBadOf (c.before ++ (k.before ++ lines_that_ended rest))) (ap (λ m. m + stops.0) good.2 ∙ sym stops.1)
    (bad_behind c.before (k.before ++ lines_that_ended rest) good.0 stops.0 good.1 (bad_in_front k.before (lines_that_ended rest) stops.0 here)))
stops_among bytes piece old mid end fault.TooLong same_read same_len same_rest ended stops kept = absurd stops
stops_among bytes piece old mid end fault.Device same_read same_len same_rest ended stops kept = absurd stops

-- ---- the limit

pub known_within : (limit : ℕ) (all : List ℕ) → length all ≤ limit → known_lines limit all ≡ lines_that_ended all
known_within limit all h = rw (le-leb (length all) limit h) refl

pub known_beyond : (limit : ℕ) (all : List ℕ) → limit < length all → known_lines limit all ≡ ended_lines limit all
known_beyond limit all h = rw (lt-leb (length all) limit h) refl

pub stops_within : (limit : ℕ) (all : List ℕ) (f : BaseFault) → length all ≤ limit → StopsAmong all f → Stops limit all f
stops_within limit all fault.OutOfMemory few stops = tt
stops_within limit all (fault.BadLine n) few stops = subst (λ ls. IsFirstBadOf ls n) (sym (known_within limit all few)) stops
stops_within limit all fault.TooLong few stops = absurd stops
stops_within limit all fault.Device few stops = absurd stops

never_both : (x : Bool) → (x && false) ≡ false
never_both true = refl
never_both false = refl

cr_alone : (front rest : List ℕ) → EndsByCr front rest → front_within (length front) (front ++ rest) ≡ front
cr_alone front rest e =
    let follows : get_or (front ++ rest) (length front) 0 ≡ e.1 = ap (λ t. get_or (front ++ t) (length front) 0) e.4 ∙ get_or-append_seam front e.1 e.2 0 in
    let other : eqb (get_or (front ++ rest) (length front) 0) 10 ≡ false = ap (λ b. eqb b 10) follows ∙ e.5 in
    ap (λ x. take (cond (eqb (get_or (front ++ rest) (length front - 1) 0) 13 && x) (length front - 1) (length front)) (front ++ rest)) other
    ∙ ap (λ x. take (cond x (length front - 1) (length front)) (front ++ rest)) (never_both (eqb (get_or (front ++ rest) (length front - 1) 0) 13))
    ∙ take-append_seam front rest

front_ahead : (front rest : List ℕ) (k : ℕ) → AreEnded front rest → front_within (length front + k) (front ++ rest) ≡ front ++ front_within k rest
front_ahead front rest k (inl e) = front_behind front rest k (inl e)
front_ahead front rest k (inr (inl e)) = front_behind front rest k (inr e)
front_ahead front rest k (inr (inr e)) = elim (leb_tells 1 k) [
  | inl h ↦ front_further front rest k h.1
  | inr h ↦ let zero : k ≡ 0 = omega arith in
      ap (λ n. front_within n (front ++ rest)) (let same : length front + k ≡ length front = omega arith in same) ∙ cr_alone front rest e
      ∙ sym (append-nil front) ∙ ap (λ t. front ++ t) (sym (ap (λ n. front_within n rest) zero ∙ nothing_within rest))
]

ended_ahead : (front rest : List ℕ) (k : ℕ) (ended : AreEnded front rest) → ended_lines (length front + k) (front ++ rest) ≡ (cut_of front rest ended).0.before ++ ended_lines k rest
ended_ahead front rest k ended =
    let c = cut_of front rest ended in
    ap (λ t. but_last (lines t)) (front_ahead front rest k ended)
    ∙ ap but_last (lines_behind front (front_within k rest) c.0 (λ h. first_taken (cond (eqb (get_or rest (k - 1) 0) 13 && eqb (get_or rest k 0) 10) (k - 1) k) rest (c.1 h)))
    ∙ ended_after c.0.before (front_within k rest)

stops_by : (limit : ℕ) (all : List ℕ) (f : BaseFault) (before ls : List (List ℕ)) (said : List Line) (ends : ℕ) → limit < length all → ended_lines limit all ≡ before ++ ls
    → AreLines before said → length before ≡ ends → (k : ℕ) (text : List ℕ) → ls ≡ ended_lines k text → StopsWithin ends k text f → Stops limit all f
stops_by limit all fault.OutOfMemory before ls said ends many e good number k text same stops = tt
stops_by limit all (fault.BadLine n) before ls said ends many e good number k text same stops =
    subst (λ ls. IsFirstBadOf ls n) (sym (known_beyond limit all many ∙ e))
    (subst (IsFirstBadOf (before ++ ls)) (ap (λ m. m + stops.0) number ∙ sym stops.1) (bad_behind before ls said stops.0 good (subst (λ ls. IsFirstBadOf ls stops.0) (sym same) stops.2)))
stops_by limit all fault.TooLong before ls said ends many e good number k text same stops = (
  many,
  none_bad_of (known_lines limit all) (said ++ stops.0)
      (subst (λ ls. AreLines ls (said ++ stops.0)) (sym (known_beyond limit all many ∙ e)) (are_both good (subst (λ ls. AreLines ls stops.0) (sym same) stops.1))),
)
stops_by limit all fault.Device before ls said ends many e good number k text same stops = absurd stops

pub stops_beyond : (limit : ℕ) (bytes piece : List ℕ) (kept : Kept) (f : BaseFault) → kept.len ≤ limit → limit < kept.len + length kept.rest.items + length piece
    → StopsWithin kept.read.ends (limit - kept.len) (kept.rest.items ++ piece) f → Keeps bytes kept → Stops limit (bytes ++ piece) f
stops_beyond limit bytes piece kept f few many stops is =
    let text : List ℕ = kept.rest.items ++ piece in
    let ended : AreEnded is.front text = ended_more is.front kept.rest.items piece is.ended in
    let c = (cut_of is.front text ended).0 in
    let good = good_before is.front c kept.read is.said in
    let k : ℕ = limit - kept.len in
    let number : kept.len ≡ length is.front = is.count in
    let same : length is.front + k ≡ limit = omega arith in
    let cut : bytes ++ piece ≡ is.front ++ text = ap (λ t. t ++ piece) is.cut ∙ append_assoc is.front kept.rest.items piece in
    let long : length (bytes ++ piece) ≡ length bytes + length piece = length-append bytes piece in
    let all : length bytes ≡ kept.len + length kept.rest.items = kept_length bytes kept is in
    let over : limit < length (bytes ++ piece) = omega arith in
    let known : ended_lines limit (bytes ++ piece) ≡ c.before ++ ended_lines k text =
    ap (ended_lines limit) cut ∙ ap (λ n. ended_lines n (is.front ++ text)) (sym same) ∙ ended_ahead is.front text k ended in
    stops_by limit (bytes ++ piece) f c.before (ended_lines k text) good.0 kept.read.ends over known good.1 good.2 k text refl stops

-- ---- nothing, and all

pub nothing_read : (read : ReadText) → read.dataset ≡ no_quads → read.ends ≡ 0 → IsReadText [] read
nothing_read read e n = record {
  spelled = record { said = Nothing ∷ []; each = more empty_says none; quads = ap (λ (d : Dataset Term). d.quads) e; names = ap (λ (d : Dataset Term). d.names) e };
  ends = ap (λ n. n + 1) n;
}

pub nothing_keeps : (kept : Kept) → kept.read.dataset ≡ no_quads → kept.read.ends ≡ 0 → kept.len ≡ 0 → kept.rest.items ≡ [] → Keeps [] kept
nothing_keeps kept dataset ends len rest = record {
  front = [];
  cut = sym rest;
  ended = inl refl;
  said = nothing_read kept.read dataset ends;
  begun = ap is_begun rest;
  count = len;
}

pub all_answered : LinesAreRead → ListsUnite → (limit : ℕ) (bytes : List ℕ) (kept : Kept) (last : ReadText) (d : Dataset Term) → IsReadText kept.rest.items last → d ≡ united kept.read.dataset last.dataset
    → Keeps bytes kept → length bytes ≤ limit → IsAnswer limit bytes (Ok d)
all_answered read unite limit bytes kept last d said e is few =
    let c = cut_of is.front kept.rest.items is.ended in
    let whole : lines bytes ≡ c.0.before ++ lines kept.rest.items = ap lines is.cut ∙ lines_behind is.front kept.rest.items c.0 c.1 in (
      subst (Spells bytes) (sym e) (cut_spelled read unite c.0.before bytes is.front kept.rest.items kept.read.dataset last.dataset c.0.alone whole is.said.spelled said.spelled),
      few,
    )

pub all_stopped : (limit : ℕ) (bytes : List ℕ) (kept : Kept) (f : BaseFault) → StopsBehind kept.read.ends kept.rest.items f → Keeps bytes kept → length bytes ≤ limit → IsAnswer limit bytes (Err f)
all_stopped limit bytes kept fault.OutOfMemory stops is few = tt
all_stopped limit bytes kept (fault.BadLine n) stops is few =
    let c = cut_of is.front kept.rest.items is.ended in
    let good = good_before is.front c.0 kept.read is.said in
    let whole : lines bytes ≡ c.0.before ++ lines kept.rest.items = ap lines is.cut ∙ lines_behind is.front kept.rest.items c.0 c.1 in
    subst (λ ls. IsFirstBadOf ls n) (sym (within bytes limit few ∙ whole))
    (subst (IsFirstBadOf (c.0.before ++ lines kept.rest.items)) (ap (λ m. m + stops.0) good.2 ∙ sym stops.1) (bad_behind c.0.before (lines kept.rest.items) good.0 stops.0 good.1 stops.2))
all_stopped limit bytes kept fault.TooLong stops is few = absurd stops
all_stopped limit bytes kept fault.Device stops is few = absurd stops

-- ---- by the parts of a call

-- where no known end was found
pub begun_still : (old piece all : List ℕ) (n : ℕ) → all ≡ old ++ piece → n ≡ length old → is_begun old ≡ true → (is_begun (take n all) ≡ true → is_begun all ≡ true) → is_begun all ≡ true
begun_still old piece all n e same begun h =
    h (ap is_begun (ap (λ t. take n t) e ∙ ap (λ m. take m (old ++ piece)) same ∙ take-append_seam old piece) ∙ begun)

pub all_within : {A : Type 0} (r : Result A BaseFault) (limit : ℕ) (piece : List ℕ) (kept : Kept) → kept.len + length kept.rest.items + length piece ≤ limit
    → IfErr r (λ e. (bytes : List ℕ) → Keeps bytes kept → StopsAmong (bytes ++ piece) e) → IfErr r (λ e. (bytes : List ℕ) → Keeps bytes kept → Stops limit (bytes ++ piece) e)
all_within (Ok x) limit piece kept few h = tt
all_within (Err e) limit piece kept few h = λ bytes is.
    let long : length (bytes ++ piece) ≡ length bytes + length piece = length-append bytes piece in
    let all : length bytes ≡ kept.len + length kept.rest.items = kept_length bytes kept is in
    stops_within limit (bytes ++ piece) e (omega arith) (h bytes is)

-- ---- a lone line

module _ (read : LinesAreRead) (grows : ListsGrowAsDatasets) (unite : ListsUnite) where
  -- what one line more says
  one_more : (quads : List (Quad Term)) (names : List Term) (said : Line) → keep (dataset_of quads names) said ≡ united (dataset_of quads names) (keep no_quads said)
  one_more quads names Nothing = (λ i. dataset_of (sym (append-nil quads) i) (sym (append-nil names) i)) ∙ unite quads [] names []
  one_more quads names (Graph g) =
      declared_too read grows quads names g ∙ (λ i. dataset_of (sym (append-nil quads) i) (names ++ g ∷ [])) ∙ unite quads [] names (g ∷ []) ∙ ap (united (dataset_of quads names)) (sym (declared_too read grows [] [] g))
  one_more quads names (Statement q) =
      sym (grows quads names q) ∙ unite quads (q ∷ []) names (option_to_list q.graph) ∙ ap (united (dataset_of quads names)) (grows [] [] q)

  -- a text of one line
  line_text : (text line : List ℕ) (said : Line) (single : ReadText) → lines text ≡ line ∷ [] ∷ [] → line_of line ≡ Some said → single.dataset ≡ keep no_quads said → single.ends ≡ 1 → IsReadText text single
  line_text text line said single cut is dataset ends =
      let found : read_from no_quads 0 (lines text) ≡ Ok (keep no_quads said) =
      ap (read_from no_quads 0) cut ∙ ap (λ o. option_map_or (λ said. read_from (keep no_quads said) 1 ([] ∷ [])) o (Err 1)) is
      ∙ ap (λ o. option_map_or (λ s. read_from (keep (keep no_quads said) s) 2 []) o (Err 2)) ((read [] Nothing).1 empty_says) in
      let many : length (lines text) ≡ length (line ∷ [] ∷ []) = ap length cut in
      record {
        spelled = subst (Spells text) (sym dataset) (whole_found read grows text (keep no_quads said) found);
        ends = ap (λ n. n + 1) ends ∙ sym many;
      }

  said_by : (d : Dataset Term) (text : List ℕ) (said : Line) → Spells text d → keep d said ≡ united d (keep no_quads said)
  said_by d text said spelled =
      let same : d ≡ dataset_of (stated spelled.said) (declared spelled.said) = λ i. record { quads = spelled.quads i; names = spelled.names i } in
      ap (λ d. keep d said) same ∙ one_more (stated spelled.said) (declared spelled.said) said ∙ ap (λ d. united d (keep no_quads said)) (sym same)

  pub line_more : (text line front : List ℕ) (old new : ReadText) → lines text ≡ line ∷ [] ∷ [] → MatchOption (line_of line) ⊥ (λ said. new.dataset ≡ keep old.dataset said) → new.ends ≡ old.ends + 1
      → IsReadText front old → HasMore text old new
  line_more text line front old new cut kept ends is =
      elim (line_of line) as (λ o. line_of line ≡ o → MatchOption o ⊥ (λ said. new.dataset ≡ keep old.dataset said) → HasMore text old new) [
        | None ↦ λ e h. absurd h
        | Some said ↦ λ e h.
            let single : ReadText = record { dataset = keep no_quads said; ends = 1 } in
            let dataset : new.dataset ≡ united old.dataset single.dataset = h ∙ said_by old.dataset front said is.spelled in
            (single, line_text text line said single cut e refl refl, λ i. record { dataset = dataset i; ends = ends i })
      ] refl kept

  -- or it is bad
  pub line_bad : (text line : List ℕ) (ends : ℕ) (f : BaseFault) → lines text ≡ line ∷ [] ∷ [] → Faults f (ends + 1) (line_of line) → StopsBehind ends text f
  line_bad text line ends fault.OutOfMemory cut faults = tt
  line_bad text line ends (fault.BadLine n) cut faults =
      (1, faults.0, subst (λ ls. IsFirstBadOf ls 1) (sym cut) (record { before = []; bad = line; after = [] ∷ []; front = []; cut = refl; good = none; here = bad_line read line faults.1; number = refl }))
  line_bad text line ends fault.TooLong cut faults = absurd faults
  line_bad text line ends fault.Device cut faults = absurd faults
