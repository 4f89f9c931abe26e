-- Requests: what the loop reads is the request, and a text has one reading.
use Rattle.std.proofs.Common.{◌≡◌, ℕ, zero, suc, ◌<◌, List, [], ◌∷◌, ◌++◌, length, Some, None, Result, Ok, Err, refl, sym, ap, ◌∙◌, subst, arith, append_assoc}
use Rattle.std.specs.Option.{option_map_or}
use Rattle.std.proofs.lemmas.List.{append-nil, nil_from_length}
use Rattle.std.proofs.lemmas.Option.{same_Some, none-some}
use Rattle.lexer.specs.Cut.{Cuts}
use Rattle.lexer.specs.declared.token.Token.{Token}
use Rattle.lexer.specs.declared.token.Token.TheVariants as token
use Rattle.lexer.specs.declared.token.Sign.TheVariants as signs
use Rattle.lexer.specs.declared.stop.Stop.{Stop}
use Rattle.lexer.specs.declared.stop.Stop.TheVariants as stop
use Rattle.syntax_trees.specs.declared.tree.Step.{Step}
use Rattle.syntax_trees.specs.declared.tree.Step.TheVariants as step
use Rattle.syntax_trees.specs.declared.tree.Syntax.{Syntax}
use Rattle.productions.specs.Steps.{Fails}
use Rattle.productions.proofs.KeywordLaws.{keyword_takes}
use Rattle.grammar.specs.Reads.{ReadsRequest, nothing, prefix, last, next, Reads}
use Rattle.grammar.specs.Reading.{operation_at, transferred_at, update_at, done_at, step_at, AreRead}
use Rattle.grammar.specs.Below.{Below}
use Rattle.grammar.proofs.OperationLaws.{no_tokens}
use Rattle.grammar.proofs.StepLaws.{StepAt, declares, ends, goes_on, step_found, step_again, step_shorter}

-- ---- the loop

-- the tokens are read as the steps so far and those of what is left
pub record IsReadSoFar (tokens : List Token) (before : List Step) (rest : List Token) : Type 0 where
  pub more : (later : List Step) → ReadsRequest rest later → ReadsRequest tokens (before ++ later)
  pub only : (all : List Step) → ReadsRequest tokens all → (later : List Step) × (all ≡ before ++ later) × ReadsRequest rest later

pub read_start : (tokens : List Token) → IsReadSoFar tokens [] tokens
read_start tokens = record { more = λ later r. r; only = λ all r. (all, refl, r) }

no_step : step_at [] ≡ None
unfolding step_at done_at operation_at transferred_at update_at
no_step = refl

-- the first step of a reading, or there is none
data BeginsWith (ts : List Token) (all : List Step) : Type 0 where
  begins : (s : Step) (rest : List Token) (ss : List Step) → StepAt ts s rest → ReadsRequest rest ss → all ≡ s ∷ ss → BeginsWith ts all
  is_done : ts ≡ [] → all ≡ [] → BeginsWith ts all

first_step : {ts : List Token} {all : List Step} → ReadsRequest ts all → BeginsWith ts all
first_step nothing = is_done refl refl
first_step (prefix {ts} {rest} {p} {i} {steps} word r) = begins (step.Declare p i) rest steps (declares word) r refl
first_step (last {ts} {x} is) = begins (step.Do x) [] [] (ends is) nothing refl
first_step (next {ts} {rest} {x} {steps} is r) = begins (step.Do x) rest steps (goes_on is) r refl

pub passes_on : (tokens : List Token) (r : Result (List Step) Stop) (e f : Stop) → r ≡ Err e → e ≡ f → AreRead tokens (Err f) → AreRead tokens r
passes_on tokens r e f r-is e-is fails = subst (λ (r : Result (List Step) Stop). AreRead tokens r) (sym (r-is ∙ ap (λ (e : Stop). let r : Result (List Step) Stop = Err e in r) e-is)) fails

module _ (below : Below) where
  pub nothing_left : {ss : List Step} → ReadsRequest [] ss → ss ≡ []
  nothing_left nothing = refl
  nothing_left (prefix word r) = absurd (let taken = keyword_takes word in omega arith)
  nothing_left (last is) = absurd (no_tokens below is)
  nothing_left (next is r) = absurd (no_tokens below is)

  with_step : {ts rest : List Token} {s : Step} {ss : List Step} → StepAt ts s rest → ReadsRequest rest ss → ReadsRequest ts (s ∷ ss)
  with_step (declares word) r = prefix word r
  with_step {ss = ss} (ends {ts} {x} is) r = subst (λ (ss : List Step). ReadsRequest ts (step.Do x ∷ ss)) (sym (nothing_left r)) (last is)
  with_step (goes_on is) r = next is r

  first_is : (rest : List Token) (s : Step) (after : List Token) (all : List Step) → step_at rest ≡ Some (s, after) → BeginsWith rest all → (later : List Step) × (all ≡ s ∷ later) × ReadsRequest after later
  first_is rest s after all e (begins t r ss at request all-is) =
      let same : (t, r) ≡ (s, after) = same_Some (t, r) (s, after) (sym (step_again below at) ∙ e) in
      (ss, all-is ∙ ap (λ (x : Step). x ∷ ss) (ap (λ (y : Step × List Token). y.0) same), subst (λ (r : List Token). ReadsRequest r ss) (ap (λ (y : Step × List Token). y.1) same) request)
  first_is rest s after all e (is_done none all-is) = absurd (none-some (s, after) (sym no_step ∙ ap step_at (sym none) ∙ e))

  pub read_more : (tokens : List Token) (before : List Step) (rest : List Token) (s : Step) (after : List Token) → IsReadSoFar tokens before rest → step_at rest ≡ Some (s, after) → IsReadSoFar tokens (before ++ s ∷ []) after
  read_more tokens before rest s after so_far e = record {
    more = λ later r. subst (λ (ss : List Step). ReadsRequest tokens ss) (sym (append_assoc before (s ∷ []) later)) (so_far.more (s ∷ later) (with_step (step_found below rest (s, after) e) r));
    only = λ all r.
        let o = so_far.only all r in
        let f = first_is rest s after o.0 e (first_step o.2) in
        (f.0, o.1 ∙ ap (λ (ss : List Step). before ++ ss) f.1 ∙ sym (append_assoc before (s ∷ []) f.0), f.2);
  }

  pub read_smaller : (rest : List Token) (s : Step) (after : List Token) → step_at rest ≡ Some (s, after) → length after < length rest
  read_smaller rest s after e = step_shorter below (step_found below rest (s, after) e)

  stuck : (rest : List Token) (all : List Step) → 0 < length rest → step_at rest ≡ None → BeginsWith rest all → ⊥
  stuck rest all some e (begins s r ss at request all-is) = none-some (s, r) (sym e ∙ step_again below at)
  stuck rest all some e (is_done none all-is) = let at-end : length rest ≡ 0 = ap length none in omega arith

  read_stuck : (tokens : List Token) (before : List Step) (rest : List Token) → IsReadSoFar tokens before rest → 0 < length rest → step_at rest ≡ None → (ss : List Step) → ReadsRequest tokens ss → ⊥
  read_stuck tokens before rest so_far some e ss r =
      let o = so_far.only ss r in
      stuck rest o.0 some e (first_step o.2)

  pub read_fails : (tokens : List Token) (before : List Step) (rest : List Token) (e : Stop) → IsReadSoFar tokens before rest → 0 < length rest → Fails e (step_at rest) → AreRead tokens (Err e)
  read_fails tokens before rest stop.Memory so_far some fails = tt
  read_fails tokens before rest stop.NoReading so_far some fails = read_stuck tokens before rest so_far some fails

  pub read_done : (tokens : List Token) (before : List Step) (rest : List Token) → IsReadSoFar tokens before rest → length rest ≡ 0 → AreRead tokens (Ok before)
  read_done tokens before rest so_far at-end =
      let none : rest ≡ [] = nil_from_length rest at-end in (
        subst (λ (ss : List Step). ReadsRequest tokens ss) (append-nil before) (so_far.more [] (subst (λ (r : List Token). ReadsRequest r []) (sym none) nothing)),
        λ ss r.
            let o = so_far.only ss r in
            o.1 ∙ ap (λ (later : List Step). before ++ later) (nothing_left (subst (λ (r : List Token). ReadsRequest r o.0) none o.2)) ∙ append-nil before,
      )

  -- ---- one reading

  done_only : (ts : List Token) (us : List Step) → ts ≡ [] → BeginsWith ts us → us ≡ []
  done_only ts us none (begins s rest later at request us-is) = absurd (none-some (s, rest) (sym no_step ∙ ap step_at (sym none) ∙ step_again below at))
  done_only ts us none (is_done same us-is) = us-is

  one_from : (n : ℕ) (ts : List Token) (ss us : List Step) → length ts < n → BeginsWith ts ss → BeginsWith ts us → ss ≡ us
  one_from zero ts ss us less a b = absurd (omega arith)
  one_from (suc n) ts ss us less (is_done none ss-is) b = ss-is ∙ sym (done_only ts us none b)
  one_from (suc n) ts ss us less (begins s rest later at request ss-is) b =
      let o = first_is ts s rest us (step_again below at) b in
      let shorter = step_shorter below at in
      ss-is ∙ ap (λ (x : List Step). s ∷ x) (one_from n rest later o.0 (omega arith) (first_step request) (first_step o.2)) ∙ sym o.1

  one_request : (ts : List Token) (ss us : List Step) → ReadsRequest ts ss → ReadsRequest ts us → ss ≡ us
  one_request ts ss us a b = one_from (suc (length ts)) ts ss us (omega arith) (first_step a) (first_step b)

  -- a text has at most one reading
  pub one_reading : ((text : List ℕ) (ts us : List Token) → Cuts text ts → Cuts text us → ts ≡ us) → (text : List ℕ) (s t : Syntax) → Reads text s → Reads text t → s ≡ t
  one_reading one_cut text s t a b =
      let tokens : a.tokens ≡ b.tokens = one_cut text a.tokens b.tokens a.cut b.cut in
      let steps : s.steps ≡ t.steps = one_request b.tokens s.steps t.steps (subst (λ (ts : List Token). ReadsRequest ts s.steps) tokens a.request) b.request in
      let bytes : s.length ≡ t.length = a.bytes ∙ sym b.bytes in
      λ i. record { steps = steps i; length = bytes i }
