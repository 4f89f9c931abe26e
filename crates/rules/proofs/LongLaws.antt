-- Reading a long text step by step, and what it is refused for.
use Rattle.std.proofs.Common.{◌≡◌, ℕ, ◌++◌, ◌<◌, ◌^◌, Bool, true, false, List, [], length, Option, Some, None, Result, Ok, Err, refl, sym, ap, ◌∙◌, subst}
use Rattle.std.proofs.lemmas.Bool.{lt-ltb, both_ways}
use Rattle.std.proofs.lemmas.List.{append_assoc, nil_from_length}
use Rattle.std.specs.Prelude.{nat_lt, ◌||◌}
use Rattle.lexer.specs.Cut.{end}
use Rattle.meaning.specs.declared.reply.Refusal.{Refusal}
use Rattle.meaning.specs.declared.reply.Refusal.TheVariants as refusal
use Rattle.syntax_trees.specs.declared.tree.Step.{Step}
use Rattle.syntax_trees.specs.declared.tree.Syntax.{Syntax}
use Rattle.grammar.specs.Reads.{Reads, nothing, IsParsed}
use Rattle.grammar.specs.Fronts.{ReadsText, IsFront, IsFrontRead}
use Rattle.faults.specs.declared.kinds.Kinds.{Kinds}
use Rattle.faults.specs.declared.walk.Walk.{Walk}
use Rattle.faults.specs.Faults.{operation_count}
use Rattle.faults.specs.Kinds.{AreKindsIn, is_among}
use Rattle.faults.specs.Walk.{kinds_with}
use Rattle.lexer.specs.declared.stop.Stop.{Stop}
use Rattle.lexer.specs.declared.stop.Stop.TheVariants as stop
use Rattle.std.specs.Borrow.{Bor}
use Rattle.rules.specs.Refusal.{IsRefusal, IsFirst}
use Rattle.rules.specs.Long.{IsFrontSeen, IsSeen}
use Rattle.rules.proofs.VerdictLaws.{first_fault_is, judged_is, unread_checked}

reads_text : {text : List ℕ} {s : Syntax} → Reads text s → ReadsText text s.steps
reads_text r = record { tokens = r.tokens; cut = r.cut; request = r.request }

-- the steps before rest were seen
pub record IsSeenSoFar (text : List ℕ) (w : Walk) (rest : List ℕ) : Type 0 where
  pub before : List Step
  pub more : (later : List Step) → ReadsText rest later → ReadsText text (before ++ later)
  pub only : (all : List Step) → ReadsText text all → (later : List Step) × (all ≡ before ++ later) × ReadsText rest later
  pub kinds : (later : List Step) (s : Syntax) → s.steps ≡ before ++ later → 2 ^ 20 < s.length → AreKindsIn s (kinds_with w later)

pub seen_start : (text : List ℕ) (w : Walk) → ((s : Syntax) → 2 ^ 20 < s.length → AreKindsIn s (kinds_with w s.steps)) → IsSeenSoFar text w text
seen_start text w kinds = record {
  before = [];
  more = λ later r. r;
  only = λ all r. (all, refl, r);
  kinds = λ later s is long. subst (λ (ss : List Step). AreKindsIn s (kinds_with w ss)) is (kinds s long);
}

pub seen_more : (text : List ℕ) (w w' : Walk) (rest after : List ℕ) (front : List Step) → IsSeenSoFar text w rest → IsFront rest front after
    → ((later : List Step) → kinds_with w' later ≡ kinds_with w (front ++ later)) → IsSeenSoFar text w' after
seen_more text w w' rest after front so_far is further = record {
  before = so_far.before ++ front;
  more = λ later r. subst (λ (ss : List Step). ReadsText text ss) (sym (append_assoc so_far.before front later)) (so_far.more (front ++ later) (is.more later r));
  only = λ all r.
      let o = so_far.only all r in
      let f = is.only o.0 o.2 in
      (f.0, o.1 ∙ ap (λ (ss : List Step). so_far.before ++ ss) f.1 ∙ sym (append_assoc so_far.before front f.0), f.2);
  kinds = λ later s same long.
      subst (λ (ks : Kinds). AreKindsIn s ks) (sym (further later)) (so_far.kinds (front ++ later) s (same ∙ append_assoc so_far.before front later) long);
}

pub seen_stuck : (text : List ℕ) (w : Walk) (rest : List ℕ) → IsSeenSoFar text w rest → ((all : List Step) → ReadsText rest all → ⊥) → IsParsed text None
seen_stuck text w rest so_far none other reads = let o = so_far.only other.steps (reads_text reads) in none o.0 o.2

pub seen_done : ((text : List ℕ) (s t : Syntax) → Reads text s → Reads text t → s ≡ t) → (text : List ℕ) (w : Walk) (rest : List ℕ) (kinds : Kinds) → IsSeenSoFar text w rest → length rest ≡ 0
    → 2 ^ 20 < length text → kinds ≡ kinds_with w [] → (s : Syntax) × IsParsed text (Some s) × AreKindsIn s kinds
seen_done one_reading text w rest kinds so_far at_end long are =
    let none : rest ≡ [] = nil_from_length rest at_end in
    let read : ReadsText text (so_far.before ++ []) = so_far.more [] (subst (λ (r : List ℕ). ReadsText r []) (sym none) (record { tokens = []; cut = end; request = nothing })) in
    let s : Syntax = record { steps = so_far.before ++ []; length = length text } in
    let reads : Reads text s = record { tokens = read.tokens; cut = read.cut; request = read.request; bytes = refl } in
    (s, (reads, λ other r. one_reading text other s r reads), subst (λ (ks : Kinds). AreKindsIn s ks) (sym are) (so_far.kinds [] s refl long))

-- ---- the refusal

pub refused : (text : List ℕ) (s : Syntax) (kinds : Kinds) (o : Option Refusal) (k : Refusal) → IsParsed text (Some s) → AreKindsIn s kinds → IsFirst (is_among kinds) o → o ≡ Some k → IsRefusal text k
refused text s kinds o k parsed are first is = judged_is text s parsed (Some k) (first_fault_is s kinds (Some k) are (subst (λ (o : Option Refusal). IsFirst (is_among kinds) o) is first))

-- a long text has the last kind, if no other
pub never_free : (text : List ℕ) (s : Syntax) (kinds : Kinds) (o : Option Refusal) → 2 ^ 20 < length text → IsParsed text (Some s) → AreKindsIn s kinds → IsFirst (is_among kinds) o → o ≡ None → ⊥
never_free text s kinds o long parsed are first is =
    let free : (k : Refusal) → is_among kinds k ≡ false = subst (λ (o : Option Refusal). IsFirst (is_among kinds) o) is first in
    let over : nat_lt (2 ^ 20) s.length ≡ true = lt-ltb (2 ^ 20) s.length (subst (λ (n : ℕ). 2 ^ 20 < n) (sym parsed.0.bytes) long) in
    both_ways kinds.limit (free refusal.Limit) (are.limit ∙ ap (λ (b : Bool). b || nat_lt 256 (operation_count s.steps)) over)

-- ---- what ends early

abbrev failed : Stop → Result (Bor (List ℕ)) Stop
failed e = Err e

unseen_by : (text : List ℕ) (w w' : Walk) (f : Stop) → IsFrontRead text (Err f) → IsFrontSeen text w w' (Err f)
unseen_by text w w' stop.Memory none = tt
unseen_by text w w' stop.NoReading none = none

pub unseen : (text : List ℕ) (w w' : Walk) (r : Result (Bor (List ℕ)) Stop) (e f : Stop) → r ≡ Err e → e ≡ f → IsFrontRead text (Err f) → IsFrontSeen text w w' r
unseen text w w' r e f r-is e-is none = subst (λ r. IsFrontSeen text w w' r) (sym (r-is ∙ ap failed e-is)) (unseen_by text w w' f none)

abbrev pub given_up : Stop → Result Kinds Stop
given_up e = Err e

stuck_by : (text : List ℕ) (w w' v : Walk) (rest : List ℕ) (f : Stop) → IsSeenSoFar text v rest → IsFrontSeen rest w w' (Err f) → IsSeen text (Err f)
stuck_by text w w' v rest stop.Memory so_far none = tt
stuck_by text w w' v rest stop.NoReading so_far none = seen_stuck text v rest so_far none

pub stuck : (text : List ℕ) (w w' v : Walk) (rest : List ℕ) (r : Result Kinds Stop) (e f : Stop) → r ≡ Err e → e ≡ f → IsSeenSoFar text v rest → IsFrontSeen rest w w' (Err f) → IsSeen text r
stuck text w w' v rest r e f r-is e-is so_far none = subst (λ r. IsSeen text r) (sym (r-is ∙ ap given_up e-is)) (stuck_by text w w' v rest f so_far none)

-- ---- what a long text is refused for

pub seen_refused : (text : List ℕ) (r : Result Kinds Stop) (kinds : Kinds) (o : Option Refusal) (k : Refusal) → IsSeen text r → r ≡ Ok kinds → IsFirst (is_among kinds) o → o ≡ Some k → IsRefusal text k
seen_refused text r kinds o k seen r-is first is =
    let s : IsSeen text (Ok kinds) = subst (λ (r : Result Kinds Stop). IsSeen text r) r-is seen in
    refused text s.0 kinds o k s.1 s.2 first is

pub seen_never_free : (text : List ℕ) (r : Result Kinds Stop) (kinds : Kinds) (o : Option Refusal) → 2 ^ 20 < length text → IsSeen text r → r ≡ Ok kinds → IsFirst (is_among kinds) o → o ≡ None → ⊥
seen_never_free text r kinds o long seen r-is first is =
    let s : IsSeen text (Ok kinds) = subst (λ (r : Result Kinds Stop). IsSeen text r) r-is seen in
    never_free text s.0 kinds o long s.1 s.2 first is

pub seen_unread : (text : List ℕ) (r : Result Kinds Stop) → IsSeen text r → r ≡ Err stop.NoReading → IsRefusal text refusal.Syntax
seen_unread text r seen r-is =
    let none : IsSeen text (Err stop.NoReading) = subst (λ (r : Result Kinds Stop). IsSeen text r) r-is seen in
    unread_checked text None none refl
