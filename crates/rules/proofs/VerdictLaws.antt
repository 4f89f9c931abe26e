-- The first fault of a reading, and what it says of the text.
use Rattle.std.proofs.Common.{◌≡◌, ℕ, ◌+◌, ◌++◌, ◌<◌, ◌≤◌, ◌^◌, Bool, true, false, List, [], ◌∷◌, length, get_or, drop, Option, Some, None, Result, Ok, Err, refl, sym, ap, ◌∙◌, subst, suc, add-one, arith, eqb, cond, inl, inr}
use Rattle.std.proofs.lemmas.Bool.{cases_order, or_parts, cases_lt, lt-ltb, both_ways}
use Rattle.std.proofs.lemmas.List.{append-nil, append_assoc, drop_more}
use Rattle.std.proofs.Math.ListN.{drop_of_length-le}
use Rattle.std.specs.Prelude.{nat_lt, IfOk, ◌||◌}
use Rattle.std.specs.declared.alloc.AllocError.{AllocError}
use Rattle.terms.specs.declared.term.Term.{Term}
use Rattle.algebra.specs.declared.update.Operation.{Operation}
use Rattle.meaning.specs.declared.reply.Refusal.{Refusal}
use Rattle.meaning.specs.declared.reply.Refusal.TheVariants as refusal
use Rattle.syntax_trees.specs.declared.tree.Operation.{Operation as Written}
use Rattle.syntax_trees.specs.declared.tree.Step.{Step}
use Rattle.syntax_trees.specs.declared.tree.Step.TheVariants as step
use Rattle.syntax_trees.specs.declared.tree.Syntax.{Syntax}
use Rattle.grammar.specs.Reads.{Reads, IsParsed}
use Rattle.names.specs.Names.{Prefixes, declare}
use Rattle.translation.specs.Translation.{operation_of, translated_after, translated}
use Rattle.faults.specs.declared.kinds.Kinds.{Kinds}
use Rattle.faults.specs.declared.walk.Walk.{Walk}
use Rattle.faults.specs.Faults.{operation_count, has_fault}
use Rattle.faults.specs.Kinds.{AreKindsIn, is_among}
use Rattle.faults.specs.Walk.{kinds_with}
use Rattle.rules.specs.Refusal.{place_of, Holds, no_reading, fault, IsRefusal, IsChecked, IsJudged, IsFirst, IsFirstFault, IsVerdict, IsAccepted}

-- ---- the first kind

pub is_Syntax : (kinds : Kinds) → kinds.syntax ≡ true → IsFirst (is_among kinds) (Some refusal.Syntax)
is_Syntax kinds holds = (holds, below)
  where
    below : (j : Refusal) → place_of j < 0 → is_among kinds j ≡ false
    below refusal.Syntax lt = absurd (omega (arith, lt))
    below refusal.Prefix lt = absurd (omega (arith, lt))
    below refusal.VariableInData lt = absurd (omega (arith, lt))
    below refusal.BlankInDelete lt = absurd (omega (arith, lt))
    below refusal.LabelReused lt = absurd (omega (arith, lt))
    below refusal.Limit lt = absurd (omega (arith, lt))

pub is_Prefix : (kinds : Kinds) → kinds.syntax ≡ false → kinds.prefix ≡ true → IsFirst (is_among kinds) (Some refusal.Prefix)
is_Prefix kinds h0 holds = (holds, below)
  where
    below : (j : Refusal) → place_of j < 1 → is_among kinds j ≡ false
    below refusal.Syntax lt = h0
    below refusal.Prefix lt = absurd (omega (arith, lt))
    below refusal.VariableInData lt = absurd (omega (arith, lt))
    below refusal.BlankInDelete lt = absurd (omega (arith, lt))
    below refusal.LabelReused lt = absurd (omega (arith, lt))
    below refusal.Limit lt = absurd (omega (arith, lt))

pub is_VariableInData : (kinds : Kinds) → kinds.syntax ≡ false → kinds.prefix ≡ false → kinds.variable_in_data ≡ true → IsFirst (is_among kinds) (Some refusal.VariableInData)
is_VariableInData kinds h0 h1 holds = (holds, below)
  where
    below : (j : Refusal) → place_of j < 2 → is_among kinds j ≡ false
    below refusal.Syntax lt = h0
    below refusal.Prefix lt = h1
    below refusal.VariableInData lt = absurd (omega (arith, lt))
    below refusal.BlankInDelete lt = absurd (omega (arith, lt))
    below refusal.LabelReused lt = absurd (omega (arith, lt))
    below refusal.Limit lt = absurd (omega (arith, lt))

pub is_BlankInDelete : (kinds : Kinds) → kinds.syntax ≡ false → kinds.prefix ≡ false → kinds.variable_in_data ≡ false → kinds.blank_in_delete ≡ true → IsFirst (is_among kinds) (Some refusal.BlankInDelete)
is_BlankInDelete kinds h0 h1 h2 holds = (holds, below)
  where
    below : (j : Refusal) → place_of j < 3 → is_among kinds j ≡ false
    below refusal.Syntax lt = h0
    below refusal.Prefix lt = h1
    below refusal.VariableInData lt = h2
    below refusal.BlankInDelete lt = absurd (omega (arith, lt))
    below refusal.LabelReused lt = absurd (omega (arith, lt))
    below refusal.Limit lt = absurd (omega (arith, lt))

pub is_LabelReused : (kinds : Kinds) → kinds.syntax ≡ false → kinds.prefix ≡ false → kinds.variable_in_data ≡ false → kinds.blank_in_delete ≡ false → kinds.label_reused ≡ true → IsFirst (is_among kinds) (Some refusal.LabelReused)
is_LabelReused kinds h0 h1 h2 h3 holds = (holds, below)
  where
    below : (j : Refusal) → place_of j < 4 → is_among kinds j ≡ false
    below refusal.Syntax lt = h0
    below refusal.Prefix lt = h1
    below refusal.VariableInData lt = h2
    below refusal.BlankInDelete lt = h3
    below refusal.LabelReused lt = absurd (omega (arith, lt))
    below refusal.Limit lt = absurd (omega (arith, lt))

pub is_Limit : (kinds : Kinds) → kinds.syntax ≡ false → kinds.prefix ≡ false → kinds.variable_in_data ≡ false → kinds.blank_in_delete ≡ false → kinds.label_reused ≡ false → kinds.limit ≡ true → IsFirst (is_among kinds) (Some refusal.Limit)
is_Limit kinds h0 h1 h2 h3 h4 holds = (holds, below)
  where
    below : (j : Refusal) → place_of j < 5 → is_among kinds j ≡ false
    below refusal.Syntax lt = h0
    below refusal.Prefix lt = h1
    below refusal.VariableInData lt = h2
    below refusal.BlankInDelete lt = h3
    below refusal.LabelReused lt = h4
    below refusal.Limit lt = absurd (omega (arith, lt))

pub is_free : (kinds : Kinds) → kinds.syntax ≡ false → kinds.prefix ≡ false → kinds.variable_in_data ≡ false → kinds.blank_in_delete ≡ false → kinds.label_reused ≡ false → kinds.limit ≡ false → IsFirst (is_among kinds) None
is_free kinds h0 h1 h2 h3 h4 h5 refusal.Syntax = h0
is_free kinds h0 h1 h2 h3 h4 h5 refusal.Prefix = h1
is_free kinds h0 h1 h2 h3 h4 h5 refusal.VariableInData = h2
is_free kinds h0 h1 h2 h3 h4 h5 refusal.BlankInDelete = h3
is_free kinds h0 h1 h2 h3 h4 h5 refusal.LabelReused = h4
is_free kinds h0 h1 h2 h3 h4 h5 refusal.Limit = h5

pub ruleset first_kinds = (is_Syntax, is_Prefix, is_VariableInData, is_BlankInDelete, is_LabelReused, is_Limit, is_free)

-- ---- of a reading

among_is : (s : Syntax) (kinds : Kinds) → AreKindsIn s kinds → (k : Refusal) → has_fault k s ≡ is_among kinds k
among_is s kinds are refusal.Syntax = sym are.syntax
among_is s kinds are refusal.Prefix = sym are.prefix
among_is s kinds are refusal.VariableInData = sym are.variable_in_data
among_is s kinds are refusal.BlankInDelete = sym are.blank_in_delete
among_is s kinds are refusal.LabelReused = sym are.label_reused
among_is s kinds are refusal.Limit = sym are.limit

pub first_fault_is : (s : Syntax) (kinds : Kinds) (o : Option Refusal) → AreKindsIn s kinds → IsFirst (is_among kinds) o → IsFirstFault s o
first_fault_is s kinds None are first = λ k. among_is s kinds are k ∙ first k
first_fault_is s kinds (Some kind) are first = (among_is s kinds are kind ∙ first.0, λ j lt. among_is s kinds are j ∙ first.1 j lt)

-- ---- of a walk

-- nothing was found
abbrev pub IsFree : Walk → Type 0
IsFree w = (k : Refusal) → is_among (kinds_with w []) k ≡ false

left_out : (found left : Bool) → (found || left) ≡ false → (found || false) ≡ false
left_out true left e = e
left_out false left e = refl

-- what isn't found or left wasn't found
not_found : (w : Walk) (steps : List Step) (k : Refusal) → is_among (kinds_with w steps) k ≡ false → is_among (kinds_with w []) k ≡ false
not_found w steps refusal.Syntax e = left_out w.kinds.syntax _ e
not_found w steps refusal.Prefix e = left_out w.kinds.prefix _ e
not_found w steps refusal.VariableInData e = left_out w.kinds.variable_in_data _ e
not_found w steps refusal.BlankInDelete e = left_out w.kinds.blank_in_delete _ e
not_found w steps refusal.LabelReused e = left_out w.kinds.label_reused _ e
not_found w steps refusal.Limit e = e

-- what was made, with what is still to come behind it, a step further in a request
pub made_stepped : (all made made' : List (Operation Term)) (xs steps : List Step) (i : ℕ) (x y : Step) (w w' : Walk) → xs ≡ steps → i < length xs → x ≡ get_or xs i x → x ≡ y
    → ((rest : List Step) → kinds_with w' rest ≡ kinds_with w (y ∷ rest))
    → (IsFree w' → made ++ translated_after w.prefixes (y ∷ drop (i + 1) steps) ≡ made' ++ translated_after w'.prefixes (drop (i + 1) steps))
    → (IsFree w → made ++ translated_after w.prefixes (drop i steps) ≡ all) → IsFree w' → made' ++ translated_after w'.prefixes (drop (i + 1) steps) ≡ all
made_stepped all made made' xs steps i x y w w' same lt is e further moved before free =
    let rest : drop i steps ≡ y ∷ drop (i + 1) steps =
    ap (drop i) (sym same) ∙ drop_more xs i x lt ∙ (let first = sym is ∙ e in λ j. first j ∷ drop (i + 1) (same j)) in
    sym (moved free) ∙ ap (λ (ss : List Step). made ++ translated_after w.prefixes ss) (sym rest)
    ∙ before (λ k. not_found w (y ∷ []) k (ap (λ (ks : Kinds). is_among ks k) (sym (further [])) ∙ free k))

pub declared_made : (made made' : List (Operation Term)) (ds ds' : Prefixes) (prefix iri : List ℕ) (rest : List Step) → ds' ≡ declare prefix iri ds → made' ≡ made
    → made ++ translated_after ds (step.Declare prefix iri ∷ rest) ≡ made' ++ translated_after ds' rest
declared_made made made' ds ds' prefix iri rest declared same = let same = sym same in let declared = sym declared in λ i. same i ++ translated_after (declared i) rest

pub done_made : (made made' : List (Operation Term)) (ds ds' : Prefixes) (op : Written) (rest : List Step) → ds' ≡ ds → made' ≡ made ++ operation_of ds op ∷ []
    → made ++ translated_after ds (step.Do op ∷ rest) ≡ made' ++ translated_after ds' rest
done_made made made' ds ds' op rest same more =
    sym (append_assoc made (operation_of ds op ∷ []) (translated_after ds rest)) ∙ (let same = sym same in let more = sym more in λ i. more i ++ translated_after (same i) rest)

-- where no step is left
module _ (s : Syntax) (w : Walk) (xs : List Step) (i : ℕ) (kinds : Kinds) (o : Option Refusal) (same : xs ≡ s.steps) (le : length xs ≤ i)
    (found : AreKindsIn s (kinds_with w (drop i s.steps))) (are : kinds ≡ kinds_with w []) (first : IsFirst (is_among kinds) o) where
  none_left : drop i s.steps ≡ []
  none_left = ap (drop i) (sym same) ∙ drop_of_length-le xs le

  first_in : IsFirstFault s o
  first_in = first_fault_is s kinds o (subst (λ (ks : Kinds). AreKindsIn s ks) (ap (kinds_with w) none_left ∙ sym are) found) first

  pub is_refused : (k : Refusal) → o ≡ Some k → IsVerdict s (Err k)
  is_refused k is = subst (λ (o : Option Refusal). IsFirstFault s o) is first_in

  pub is_accepted : (update : List (Operation Term)) → (IsFree w → update ++ translated_after w.prefixes (drop i s.steps) ≡ translated s.steps) → o ≡ None → IsVerdict s (Ok update)
  is_accepted update made is =
      let free = subst (λ (o : Option Refusal). IsFirst (is_among kinds) o) is first in (
        subst (λ (o : Option Refusal). IsFirstFault s o) is first_in,
        sym (append-nil update) ∙ ap (λ (ss : List Step). update ++ translated_after w.prefixes ss) (sym none_left) ∙ made (λ k. ap (λ (ks : Kinds). is_among ks k) (sym are) ∙ free k),
      )

-- ---- of a text

-- a kind that holds of a text is a fault of its one reading
holds_means : {k : Refusal} {text : List ℕ} (s : Syntax) → Reads text s → ((other : Syntax) → Reads text other → other ≡ s) → Holds k text → has_fault k s ≡ true
holds_means s reads one (no_reading none) = absurd (none s reads)
holds_means s reads one (fault {k} {text} {s = t} other e) = subst (λ (t : Syntax). has_fault k t ≡ true) (one t other) e

verdict_is : (text : List ℕ) (s : Syntax) → IsParsed text (Some s) → (r : Result (List (Operation Term)) Refusal) → IsVerdict s r → IsChecked text r
verdict_is text s parsed (Ok operations) v = record { syntax = s; reads = parsed.0; free = v.0; is = v.1 }
verdict_is text s parsed (Err k) v = record {
  holds = fault parsed.0 v.0;
  first = λ j lt holds. both_ways (has_fault j s) (v.1 j lt) (holds_means s parsed.0 parsed.1 holds);
}

pub verdict_checked : (text : List ℕ) (o : Option Syntax) (s : Syntax) (r : Result (Result (List (Operation Term)) Refusal) AllocError) → IsParsed text o → o ≡ Some s → IfOk r (IsVerdict s) → IfOk r (IsChecked text)
verdict_checked text o s (Ok v) parsed is verdict = verdict_is text s (subst (λ (o : Option Syntax). IsParsed text o) is parsed) v verdict
verdict_checked text o s (Err e) parsed is verdict = verdict

pub unread_checked : (text : List ℕ) (o : Option Syntax) → IsParsed text o → o ≡ None → IsRefusal text refusal.Syntax
unread_checked text o parsed is = record {
  holds = no_reading (subst (λ (o : Option Syntax). IsParsed text o) is parsed);
  first = λ j lt holds. let zero : place_of j < 0 = lt in absurd (omega arith);
}

-- ---- the same without the update

pub judged_is : (text : List ℕ) (s : Syntax) → IsParsed text (Some s) → (r : Option Refusal) → IsFirstFault s r → IsJudged text r
judged_is text s parsed None v = (translated s.steps, record { syntax = s; reads = parsed.0; free = v; is = refl })
judged_is text s parsed (Some k) v = record {
  holds = fault parsed.0 v.0;
  first = λ j lt holds. both_ways (has_fault j s) (v.1 j lt) (holds_means s parsed.0 parsed.1 holds);
}

pub verdict_judged : (text : List ℕ) (o : Option Syntax) (s : Syntax) (r : Result (Option Refusal) AllocError) → IsParsed text o → o ≡ Some s → IfOk r (IsFirstFault s) → IfOk r (IsJudged text)
verdict_judged text o s (Ok v) parsed is verdict = judged_is text s (subst (λ (o : Option Syntax). IsParsed text o) is parsed) v verdict
verdict_judged text o s (Err e) parsed is verdict = verdict

-- ---- few operations

translated_length : (ds : Prefixes) (steps : List Step) → length (translated_after ds steps) ≡ operation_count steps
translated_length ds [] = refl
translated_length ds (step.Declare p i ∷ steps) = translated_length (declare p i ds) steps
translated_length ds (step.Do op ∷ steps) = ap suc (translated_length ds steps) ∙ sym (add-one (operation_count steps))

not_above : (m n : ℕ) → nat_lt m n ≡ false → n ≤ m
not_above m n e = elim (cases_lt m n) [ inl lt ↦ absurd (let t : true ≡ false = sym (lt-ltb m n lt) ∙ e in cc) | inr ge ↦ ge ]

accepted_short : (text : List ℕ) (update : List (Operation Term)) → IsAccepted text update → length update ≤ 256
accepted_short text update a =
    let parts = or_parts (nat_lt (2 ^ 20) a.syntax.length) (nat_lt 256 (operation_count a.syntax.steps)) (a.free refusal.Limit) in
    let few : operation_count a.syntax.steps ≤ 256 = not_above 256 (operation_count a.syntax.steps) parts.1 in
    let same : length update ≡ operation_count a.syntax.steps = ap length a.is ∙ translated_length [] a.syntax.steps in
    omega (arith, few, same)

pub requests_are_short : (text : List ℕ) (c : Result (List (Operation Term)) Refusal) → IsChecked text c → IfOk c (λ operations. length operations ≤ 256)
requests_are_short text (Ok update) accepted = accepted_short text update accepted
requests_are_short text (Err kind) refused = tt

-- ---- one answer

kind_at : ℕ → Refusal
kind_at n = cond (eqb n 0) refusal.Syntax (cond (eqb n 1) refusal.Prefix (cond (eqb n 2) refusal.VariableInData (cond (eqb n 3) refusal.BlankInDelete (cond (eqb n 4) refusal.LabelReused refusal.Limit))))

kind_is : (k : Refusal) → kind_at (place_of k) ≡ k
unfolding kind_at
kind_is refusal.Syntax = refl
kind_is refusal.Prefix = refl
kind_is refusal.VariableInData = refl
kind_is refusal.BlankInDelete = refl
kind_is refusal.LabelReused = refl
kind_is refusal.Limit = refl

-- where a text has at most one reading
module _ (one_reading : (text : List ℕ) (s t : Syntax) → Reads text s → Reads text t → s ≡ t) where
  not_both : (text : List ℕ) (update : List (Operation Term)) (k : Refusal) → IsAccepted text update → IsRefusal text k → ⊥
  not_both text update k a r = both_ways (has_fault k a.syntax) (a.free k) (holds_means a.syntax a.reads (λ other reads. one_reading text other a.syntax reads a.reads) r.holds)

  -- a text is at most one request
  pub one_answer : (text : List ℕ) (c d : Result (List (Operation Term)) Refusal) → IsChecked text c → IsChecked text d → c ≡ d
  one_answer text (Ok x) (Ok y) a b =
      let steps : translated a.syntax.steps ≡ translated b.syntax.steps = ap (λ (s : Syntax). translated s.steps) (one_reading text a.syntax b.syntax a.reads b.reads) in
      ap (λ (z : List (Operation Term)). let r : Result (List (Operation Term)) Refusal = Ok z in r) (a.is ∙ steps ∙ sym b.is)
  one_answer text (Ok x) (Err k) a b = absurd (not_both text x k a b)
  one_answer text (Err k) (Ok y) a b = absurd (not_both text y k b a)
  one_answer text (Err k) (Err j) a b =
      elim (cases_order (place_of k) (place_of j)) [
        | inl e ↦ ap (λ (z : Refusal). let r : Result (List (Operation Term)) Refusal = Err z in r) (sym (kind_is k) ∙ ap kind_at e ∙ kind_is j)
        | inr h ↦ elim h [ inl lt ↦ absurd (b.first k lt a.holds) | inr lt ↦ absurd (a.first j lt b.holds) ]
      ]
