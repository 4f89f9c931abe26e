-- Entries and lines.
use Rattle.std.specs.Prelude.{ℕ, ◌==◌, ◌≢◌, ◌+◌, nat_eq, All, Result, Ok, Err, IfOk, MatchResult}
use Rattle.std.proofs.Common.{◌≡◌, Bool, true, false, cond, List, [], ◌∷◌, ◌++◌, Some, None, refl, sym, ap, ◌∙◌, subst, length, take, drop, append_assoc, arith, inl, inr}
use Rattle.std.specs.List.{flat_map, starts_with, AllByRecursion}
use Rattle.std.specs.Cmp.Lexicographic.{pointwise, same_text}
use Rattle.std.proofs.lemmas.Bool.{eqb-true}
use Rattle.std.proofs.lemmas.Cmp.{nat_list_eq_equiv}
use Rattle.std.proofs.lemmas.List.{append-nil, append_cancel_left, length-append, take-append-drop}
use Rattle.std.proofs.lemmas.List.Elements.{recursion_from_All, All-from_recursion, All-append}
use Rattle.std.proofs.lemmas.Option.{same_Some, cond_some}
use Rattle.iris.specs.Runs.{run_of, rest_of, IsRun, RunsAreLongest}
use Rattle.iris.specs.Bracketed.{◌>>=◌}
use Rattle.iris.proofs.Options.{bind_some}
use Rattle.nquads_lines.specs.Lines.{is_inner}
use Rattle.canonical_nquads.specs.Tag.{mark_of}
use Rattle.journal.specs.declared.fault.JournalFault.{JournalFault}
use Rattle.journal.specs.declared.fault.JournalFault.TheVariants as fault
use Rattle.journal.specs.declared.lines.Line.{Line}
use Rattle.journal.specs.Text.{line_body, line_text, first_line}
use Rattle.journal.specs.Lines.{IsLine}
use Rattle.journal.specs.Journal.{IsJournal, IsBad, IsBadBehind, IsFirstBad}
use Rattle.journal.specs.Reading.{line_of}
use Rattle.journal.specs.Entry.{after_lf, line_at, entry_at, has_line, Faults, IsCutShort}
use Rattle.journal.proofs.LineLaws.{TermsArePieces, body_piece}

-- a line's text and what follows it
ended : (tag : ℕ) (l : Line) (rest : List ℕ) → line_text tag l ++ rest ≡ line_body tag l ++ 10 ∷ rest
ended tag l rest = append_assoc (line_body tag l) (10 ∷ []) rest

after_lf_is : (text rest : List ℕ) → after_lf text ≡ Some rest → text ≡ 10 ∷ rest
after_lf_is [] rest e = absurd cc
after_lf_is (b ∷ bs) rest e =
    let h = cond_some (b == 10) bs rest e in
    let first : b ≡ 10 = eqb-true b 10 h.0 in
    let same : bs ≡ rest = h.1 in
    λ i. first i ∷ same i

line_found : (tag : ℕ) (mark bytes : List ℕ) (l : Line) → line_at tag mark bytes ≡ Some l → line_body tag l ≡ bytes
unfolding line_at
line_found tag mark bytes l e =
    let m = bind_some (line_of mark bytes) (λ l. cond (pointwise nat_eq (line_body tag l) bytes) (Some l) None) l e in
    let h = cond_some (pointwise nat_eq (line_body tag m.0) bytes) m.0 l m.2 in
    ap (line_body tag) (sym h.1) ∙ same_text (line_body tag m.0) bytes (sym h.0)

pub entry_found : RunsAreLongest → (tag : ℕ) (text rest : List ℕ) (l : Line) → entry_at tag (mark_of tag) text ≡ Some (l, rest) → text ≡ line_text tag l ++ rest
unfolding entry_at
entry_found runs tag text rest l e =
    let r = bind_some (after_lf (rest_of is_inner text)) (λ rest. line_at tag (mark_of tag) (run_of is_inner text) >>= λ l. Some (l, rest)) (l, rest) e in
    let m = bind_some (line_at tag (mark_of tag) (run_of is_inner text)) (λ l. Some (l, r.0)) (l, rest) r.2 in
    let same = same_Some (m.0, r.0) (l, rest) m.2 in
    let is : IsRun is_inner text (run_of is_inner text) (rest_of is_inner text) = (runs is_inner text (run_of is_inner text) (rest_of is_inner text)).0 (refl, refl) in
    let body : line_body tag l ≡ run_of is_inner text = line_found tag (mark_of tag) (run_of is_inner text) l (m.1 ∙ ap (λ (x : Line × List ℕ). Some x.0) same) in
    let later : rest_of is_inner text ≡ 10 ∷ rest = after_lf_is (rest_of is_inner text) rest (r.1 ∙ ap (λ (x : Line × List ℕ). Some x.1) same) in
    is.cut ∙ (λ i. sym body i ++ later i) ∙ sym (ended tag l rest)

abbrev LinesAreRead : Type 0
LinesAreRead = (tag : ℕ) (l : Line) → IsLine (mark_of tag) l → line_of (mark_of tag) (line_body tag l) ≡ Some l

line_again : LinesAreRead → (tag : ℕ) (l : Line) → IsLine (mark_of tag) l → line_at tag (mark_of tag) (line_body tag l) ≡ Some l
unfolding line_at
line_again lines tag l is = rw (lines tag l is, nat_list_eq_equiv.refl (line_body tag l)) refl

pub entry_again : RunsAreLongest → TermsArePieces → LinesAreRead → (tag : ℕ) (rest : List ℕ) (l : Line) → IsLine (mark_of tag) l
    → entry_at tag (mark_of tag) (line_text tag l ++ rest) ≡ Some (l, rest)
unfolding entry_at
entry_again runs pieces lines tag rest l is =
    let h = (runs is_inner (line_text tag l ++ rest) (line_body tag l) (10 ∷ rest)).1
    (record { cut = ended tag l rest; all = (body_piece pieces tag (mark_of tag) l is).inner; stops = refl }) in
    rw (h.0, h.1, line_again lines tag l is) refl

-- ---- whole journals

abbrev EntriesAreRead : Type 0
EntriesAreRead = (tag : ℕ) (rest : List ℕ) (l : Line) → IsLine (mark_of tag) l → entry_at tag (mark_of tag) (line_text tag l ++ rest) ≡ Some (l, rest)

no_text : (tag : ℕ) (l : Line) (rest : List ℕ) → line_text tag l ++ rest ≡ [] → ⊥
no_text tag l rest e = absurd (omega (arith, length-append (line_body tag l) (10 ∷ rest), ap length (sym (ended tag l rest) ∙ e)))

same_first : EntriesAreRead → (tag : ℕ) (l m : Line) (r s : List ℕ) → IsLine (mark_of tag) l → IsLine (mark_of tag) m → line_text tag l ++ r ≡ line_text tag m ++ s → (l ≡ m) × (r ≡ s)
same_first entries tag l m r s a b e =
    let same = same_Some (l, r) (m, s) (sym (entries tag r l a) ∙ ap (entry_at tag (mark_of tag)) e ∙ entries tag s m b) in
    (ap (λ (x : Line × List ℕ). x.0) same, ap (λ (x : Line × List ℕ). x.1) same)

same_lines : EntriesAreRead → (tag : ℕ) (ls ms : List Line) → AllByRecursion (IsLine (mark_of tag)) ls → AllByRecursion (IsLine (mark_of tag)) ms
    → flat_map (line_text tag) ls ≡ flat_map (line_text tag) ms → ls ≡ ms
same_lines entries tag [] [] a b e = refl
same_lines entries tag [] (m ∷ ms) a b e = absurd (no_text tag m (flat_map (line_text tag) ms) (sym e))
same_lines entries tag (l ∷ ls) [] a b e = absurd (no_text tag l (flat_map (line_text tag) ls) e)
same_lines entries tag (l ∷ ls) (m ∷ ms) a b e =
    let h = same_first entries tag l m (flat_map (line_text tag) ls) (flat_map (line_text tag) ms) a.0 b.0 e in
    let first = h.0 in
    let later = same_lines entries tag ls ms a.1 b.1 h.1 in
    λ i. first i ∷ later i

pub one_journal : EntriesAreRead → (tag : ℕ) (bytes : List ℕ) (a b : List Line) → IsJournal tag bytes a → IsJournal tag bytes b → a ≡ b
one_journal entries tag bytes a b p q =
    same_lines entries tag a b (recursion_from_All (IsLine (mark_of tag)) a p.each) (recursion_from_All (IsLine (mark_of tag)) b q.each)
    (append_cancel_left first_line (flat_map (line_text tag) a) (flat_map (line_text tag) b) (sym p.text ∙ q.text))

-- what stands behind some lines is no line's text
bad_behind : EntriesAreRead → (tag : ℕ) (ls ms : List Line) (rest : List ℕ) → AllByRecursion (IsLine (mark_of tag)) ls → AllByRecursion (IsLine (mark_of tag)) ms
    → rest ≢ [] → IsBad tag rest → flat_map (line_text tag) ls ++ rest ≡ flat_map (line_text tag) ms → ⊥
bad_behind entries tag [] [] rest a b more bad e = more e
bad_behind entries tag [] (m ∷ ms) rest a b more bad e = bad m (flat_map (line_text tag) ms) b.0 e
bad_behind entries tag (l ∷ ls) [] rest a b more bad e =
    no_text tag l (flat_map (line_text tag) ls ++ rest) (sym (append_assoc (line_text tag l) (flat_map (line_text tag) ls) rest) ∙ e)
bad_behind entries tag (l ∷ ls) (m ∷ ms) rest a b more bad e =
    let h = same_first entries tag l m (flat_map (line_text tag) ls ++ rest) (flat_map (line_text tag) ms) a.0 b.0 (sym (append_assoc (line_text tag l) (flat_map (line_text tag) ls) rest) ∙ e) in
    bad_behind entries tag ls ms rest a.1 b.1 more bad h.1

pub no_journal : EntriesAreRead → (tag : ℕ) (bytes : List ℕ) (n : ℕ) (a : List Line) → IsFirstBad tag bytes n → IsJournal tag bytes a → ⊥
no_journal entries tag bytes n a (inl foreign) p = foreign.1 (flat_map (line_text tag) a) p.text
no_journal entries tag bytes n a (inr bad) p =
    bad_behind entries tag bad.before a bad.rest (recursion_from_All (IsLine (mark_of tag)) bad.before bad.each) (recursion_from_All (IsLine (mark_of tag)) a p.each) bad.more bad.here
    (append_cancel_left first_line (flat_map (line_text tag) bad.before ++ bad.rest) (flat_map (line_text tag) a)
    (sym (append_assoc first_line (flat_map (line_text tag) bad.before) bad.rest) ∙ sym bad.text ∙ p.text))

-- ---- reading on

-- one more line
pub more_text : (tag : ℕ) (before after : List Line) (l : Line) (text rest later : List ℕ) → text ≡ flat_map (line_text tag) before ++ rest → rest ≡ line_text tag l ++ later
    → after ≡ before ++ l ∷ [] → text ≡ flat_map (line_text tag) after ++ later
more_text tag before after l text rest later e f g =
    e ∙ ap (λ (r : List ℕ). flat_map (line_text tag) before ++ r) f ∙ sym (append_assoc (flat_map (line_text tag) before) (line_text tag l) later)
    ∙ ap (λ (t : List ℕ). t ++ later) (sym (one_more tag before l)) ∙ ap (λ (ls : List Line). flat_map (line_text tag) ls ++ later) (sym g)
  where
    one_more : (tag : ℕ) (before : List Line) (l : Line) → flat_map (line_text tag) (before ++ l ∷ []) ≡ flat_map (line_text tag) before ++ line_text tag l
    one_more tag [] l = append-nil (line_text tag l)
    one_more tag (x ∷ before) l =
        ap (λ (t : List ℕ). line_text tag x ++ t) (one_more tag before l) ∙ sym (append_assoc (line_text tag x) (flat_map (line_text tag) before) (line_text tag l))

pub more_lines : (mark own : List ℕ) (before after : List Line) (l : Line) → own ≡ mark → All (IsLine mark) before → IsLine own l → after ≡ before ++ l ∷ [] → All (IsLine mark) after
more_lines mark own before after l same each is g =
    subst (All (IsLine mark)) (sym g) (All-append (IsLine mark) before (l ∷ []) each (All-from_recursion (IsLine mark) (l ∷ []) (subst (λ (m : List ℕ). IsLine m l) same is, tt)))

-- the entry behind some lines is bad
pub bad_here : (tag : ℕ) (text rest : List ℕ) (before : List Line) (number : ℕ) (e : JournalFault) (n : ℕ) → text ≡ flat_map (line_text tag) before ++ rest → All (IsLine (mark_of tag)) before
    → rest ≢ [] → number ≡ length before + 1 → Faults tag rest number e → e ≡ fault.BadEntry n → IsBadBehind tag (first_line ++ text) n
bad_here tag text rest before number fault.OutOfMemory n cut each more count why same = absurd cc
bad_here tag text rest before number (fault.BadEntry m) n cut each more count why same = record {
  before = before;
  rest = rest;
  text = ap (λ (t : List ℕ). first_line ++ t) cut ∙ sym (append_assoc first_line (flat_map (line_text tag) before) rest);
  each = each;
  number = (let eq : n ≡ m = cc in eq) ∙ why.0 ∙ count;
  more = more;
  here = why.1;
}
bad_here tag text rest before number (fault.Illegal m) n cut each more count why same = absurd why

-- memory ran out behind some lines
cut_short : (tag : ℕ) (text rest : List ℕ) (before : List Line) → text ≡ flat_map (line_text tag) before ++ rest → All (IsLine (mark_of tag)) before → has_line rest ≡ true
    → IsCutShort tag (first_line ++ text)
cut_short tag text rest before cut each here = record {
  before = before;
  rest = rest;
  text = ap (λ (t : List ℕ). first_line ++ t) cut ∙ sym (append_assoc first_line (flat_map (line_text tag) before) rest);
  each = each;
  here = here;
}

-- while the entry there was read
pub cut_short_there : (tag : ℕ) (text rest : List ℕ) (before : List Line) (number : ℕ) (e : JournalFault) → text ≡ flat_map (line_text tag) before ++ rest → All (IsLine (mark_of tag)) before
    → Faults tag rest number e → e ≡ fault.OutOfMemory → IsCutShort tag (first_line ++ text)
cut_short_there tag text rest before number fault.OutOfMemory cut each why same = cut_short tag text rest before cut each why
cut_short_there tag text rest before number (fault.BadEntry m) cut each why same = absurd cc
cut_short_there tag text rest before number (fault.Illegal m) cut each why same = absurd cc

-- as the entry there was put to the others
pub cut_short_behind : {A : Type 0} (tag : ℕ) (text rest : List ℕ) (before : List Line) (number : ℕ) (read : Result A JournalFault) (x : A) → text ≡ flat_map (line_text tag) before ++ rest
    → All (IsLine (mark_of tag)) before → (has_line rest ≡ false → read ≡ Err (fault.BadEntry number)) → read ≡ Ok x → IsCutShort tag (first_line ++ text)
cut_short_behind tag text rest before number read x cut each none is = cut_short tag text rest before cut each (by (has_line rest) none)
  where
    by : (b : Bool) → (b ≡ false → read ≡ Err (fault.BadEntry number)) → b ≡ true
    by true none = refl
    by false none = absurd (let both : Ok x ≡ Err (fault.BadEntry number) = sym is ∙ none refl in cc)

-- what begins with the first line
pub begun : (bytes rest : List ℕ) → starts_with nat_eq bytes first_line ≡ true → rest ≡ drop (length first_line) bytes → first_line ++ rest ≡ bytes
begun bytes rest e f =
    ap (λ (t : List ℕ). first_line ++ t) f ∙ ap (λ (t : List ℕ). t ++ drop (length first_line) bytes) (same_text first_line (take (length first_line) bytes) (sym e))
    ∙ take-append-drop (length first_line) bytes

-- an answer that tells only what is so is the one
pub only_lines : {V : Type 0} (items : V → List Line) (r : Result V JournalFault) (tag : ℕ) (bytes : List ℕ)
    → ((tag : ℕ) (bytes : List ℕ) (a b : List Line) → IsJournal tag bytes a → IsJournal tag bytes b → a ≡ b)
    → ((tag : ℕ) (bytes : List ℕ) (n : ℕ) (a : List Line) → IsFirstBad tag bytes n → IsJournal tag bytes a → ⊥)
    → IfOk r (λ v. IsJournal tag bytes (items v)) → ((n : ℕ) → r ≡ Err (fault.BadEntry n) → IsFirstBad tag bytes n) → ((n : ℕ) → r ≡ Err (fault.Illegal n) → ⊥)
    → (lines : List Line) → IsJournal tag bytes lines → MatchResult r (λ v. items v ≡ lines) (λ e. e ≡ fault.OutOfMemory)
only_lines items (Ok v) tag bytes one none ok bad legal lines is = one tag bytes (items v) lines ok is
only_lines items (Err fault.OutOfMemory) tag bytes one none ok bad legal lines is = refl
only_lines items (Err (fault.BadEntry n)) tag bytes one none ok bad legal lines is = absurd (none tag bytes n lines (bad n refl) is)
only_lines items (Err (fault.Illegal n)) tag bytes one none ok bad legal lines is = absurd (legal n refl)
