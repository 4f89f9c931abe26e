-- What a walk has found, and what those steps that are left are refused for.
use Rattle.std.proofs.Common.{◌≡◌, ℕ, ◌+◌, ◌<◌, ◌≤◌, ◌++◌, Bool, true, false, List, [], ◌∷◌, length, get_or, drop, refl, sym, ap, subst, ◌∙◌}
use Rattle.std.proofs.lemmas.List.{append-nil, drop_more}
use Rattle.std.proofs.Math.ListN.{drop_of_length-le}
use Rattle.std.specs.Prelude.{◌||◌}
use Rattle.meaning.specs.declared.reply.Refusal.TheVariants as refusal
use Rattle.syntax_trees.specs.declared.tree.Operation.{Operation}
use Rattle.syntax_trees.specs.declared.tree.Step.{Step}
use Rattle.syntax_trees.specs.declared.tree.Step.TheVariants as step
use Rattle.syntax_trees.specs.declared.tree.Syntax.{Syntax}
use Rattle.names.specs.Numbers.{with_labels}
use Rattle.faults.specs.declared.kinds.Kinds.{Kinds}
use Rattle.faults.specs.declared.walk.Walk.{Walk}
use Rattle.faults.specs.Faults.{any_refused, is_reused_after, inserted_labels}
use Rattle.faults.specs.Kinds.{AreKindsAt, AreKindsIn}
use Rattle.faults.specs.Walk.{kinds_with}

next : (before here fault after : Bool) → here ≡ fault → ((before || here) || after) ≡ (before || (fault || after))
next true here fault after e = refl
next false here fault after e = ap (λ b. b || after) e

no_more : (before more : Bool) → more ≡ false → (before || more) ≡ before
no_more true more e = refl
no_more false more e = e

-- an operation was seen
pub seen_is : (w w' : Walk) (op : Operation) (more : Kinds) (steps : List Step) → AreKindsAt w.prefixes w.seen op more
    → w'.kinds ≡ record { syntax = w.kinds.syntax || more.syntax; prefix = w.kinds.prefix || more.prefix; variable_in_data = w.kinds.variable_in_data || more.variable_in_data; blank_in_delete = w.kinds.blank_in_delete || more.blank_in_delete; label_reused = w.kinds.label_reused || more.label_reused; limit = w.kinds.limit || more.limit }
    → w'.prefixes ≡ w.prefixes → w'.seen ≡ with_labels (inserted_labels op) w.seen → kinds_with w' steps ≡ kinds_with w (step.Do op ∷ steps)
seen_is w w' op more steps are is same_prefixes more_seen =
    let kept : kinds_with w' steps ≡ record { syntax = w'.kinds.syntax || any_refused refusal.Syntax w.prefixes steps; prefix = w'.kinds.prefix || any_refused refusal.Prefix w.prefixes steps; variable_in_data = w'.kinds.variable_in_data || any_refused refusal.VariableInData w.prefixes steps; blank_in_delete = w'.kinds.blank_in_delete || any_refused refusal.BlankInDelete w.prefixes steps; label_reused = w'.kinds.label_reused || is_reused_after (with_labels (inserted_labels op) w.seen) steps; limit = w'.kinds.limit } =
    λ i. record { syntax = w'.kinds.syntax || any_refused refusal.Syntax (same_prefixes i) steps; prefix = w'.kinds.prefix || any_refused refusal.Prefix (same_prefixes i) steps; variable_in_data = w'.kinds.variable_in_data || any_refused refusal.VariableInData (same_prefixes i) steps; blank_in_delete = w'.kinds.blank_in_delete || any_refused refusal.BlankInDelete (same_prefixes i) steps; label_reused = w'.kinds.label_reused || is_reused_after (more_seen i) steps; limit = w'.kinds.limit } in
    let syntax = ap (λ (k : Kinds). k.syntax || any_refused refusal.Syntax w.prefixes steps) is ∙ next w.kinds.syntax more.syntax _ (any_refused refusal.Syntax w.prefixes steps) are.syntax in
    let prefix = ap (λ (k : Kinds). k.prefix || any_refused refusal.Prefix w.prefixes steps) is ∙ next w.kinds.prefix more.prefix _ (any_refused refusal.Prefix w.prefixes steps) are.prefix in
    let variable_in_data = ap (λ (k : Kinds). k.variable_in_data || any_refused refusal.VariableInData w.prefixes steps) is
    ∙ next w.kinds.variable_in_data more.variable_in_data _ (any_refused refusal.VariableInData w.prefixes steps) are.variable_in_data in
    let blank_in_delete = ap (λ (k : Kinds). k.blank_in_delete || any_refused refusal.BlankInDelete w.prefixes steps) is
    ∙ next w.kinds.blank_in_delete more.blank_in_delete _ (any_refused refusal.BlankInDelete w.prefixes steps) are.blank_in_delete in
    let label_reused = ap (λ (k : Kinds). k.label_reused || is_reused_after (with_labels (inserted_labels op) w.seen) steps) is
    ∙ next w.kinds.label_reused more.label_reused _ (is_reused_after (with_labels (inserted_labels op) w.seen) steps) are.label_reused in
    let limit = ap (λ (k : Kinds). k.limit) is ∙ no_more w.kinds.limit more.limit are.limit in
    kept ∙ (λ i. record { syntax = syntax i; prefix = prefix i; variable_in_data = variable_in_data i; blank_in_delete = blank_in_delete i; label_reused = label_reused i; limit = limit i })

-- a step further in a request
pub stepped : (s : Syntax) (xs : List Step) (i : ℕ) (x y : Step) (w w' : Walk) → xs ≡ s.steps → i < length xs → x ≡ get_or xs i x → x ≡ y
    → ((steps : List Step) → kinds_with w' steps ≡ kinds_with w (y ∷ steps)) → AreKindsIn s (kinds_with w (drop i s.steps)) → AreKindsIn s (kinds_with w' (drop (i + 1) s.steps))
stepped s xs i x y w w' all lt is e further are =
    let rest : drop i s.steps ≡ y ∷ drop (i + 1) s.steps =
    ap (drop i) (sym all) ∙ drop_more xs i x lt ∙ (let first = sym is ∙ e in λ j. first j ∷ drop (i + 1) (all j)) in
    subst (λ (k : Kinds). AreKindsIn s k) (ap (kinds_with w) rest ∙ sym (further (drop (i + 1) s.steps))) are

-- a step further in steps that others follow
pub steps_further : (xs : List Step) (i : ℕ) (x y : Step) (w w' : Walk) → i < length xs → x ≡ get_or xs i x → x ≡ y → ((steps : List Step) → kinds_with w' steps ≡ kinds_with w (y ∷ steps))
    → (rest : List Step) → kinds_with w' (drop (i + 1) xs ++ rest) ≡ kinds_with w (drop i xs ++ rest)
steps_further xs i x y w w' lt is e further rest =
    let left : drop i xs ≡ y ∷ drop (i + 1) xs = drop_more xs i x lt ∙ ap (λ (s : Step). s ∷ drop (i + 1) xs) (sym is ∙ e) in
    further (drop (i + 1) xs ++ rest) ∙ sym (ap (λ (ss : List Step). kinds_with w (ss ++ rest)) left)

pub steps_done : (xs : List Step) (i : ℕ) (w : Walk) → length xs ≤ i → (rest : List Step) → kinds_with w rest ≡ kinds_with w (drop i xs ++ rest)
steps_done xs i w le rest = sym (ap (λ (ss : List Step). kinds_with w (ss ++ rest)) (drop_of_length-le xs le))

-- all steps of a request
pub all_seen : (s : Syntax) (w w' : Walk) (xs : List Step) (kinds : Kinds) → xs ≡ s.steps → AreKindsIn s (kinds_with w s.steps) → ((rest : List Step) → kinds_with w' rest ≡ kinds_with w (xs ++ rest))
    → kinds ≡ kinds_with w' [] → AreKindsIn s kinds
all_seen s w w' xs kinds same are further is = subst (λ (k : Kinds). AreKindsIn s k) (sym (is ∙ further [] ∙ ap (kinds_with w) (append-nil xs ∙ same))) are

-- nothing is left
none_left : (found : Bool) → found ≡ (found || false)
none_left true = refl
none_left false = refl

pub kinds_are : (w : Walk) → w.kinds ≡ kinds_with w []
kinds_are w =
    let syntax = none_left w.kinds.syntax in
    let prefix = none_left w.kinds.prefix in
    let variable_in_data = none_left w.kinds.variable_in_data in
    let blank_in_delete = none_left w.kinds.blank_in_delete in
    let label_reused = none_left w.kinds.label_reused in
    λ i. record { syntax = syntax i; prefix = prefix i; variable_in_data = variable_in_data i; blank_in_delete = blank_in_delete i; label_reused = label_reused i; limit = w.kinds.limit }
