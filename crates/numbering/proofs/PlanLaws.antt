-- Patterns and expressions that are lists: their terms, and their renaming.
use Rattle.std.proofs.Common.{◌≡◌, ◌<◌, ◌+◌, ℕ, Bool, true, List, [], ◌∷◌, ◌++◌, length, get_or, drop, map, refl, sym, ap, ◌∙◌}
use Rattle.std.specs.Prelude.{◌&&◌}
use Rattle.std.specs.List.{list_all}
use Rattle.std.proofs.lemmas.Bool.{and_parts, and_from}
use Rattle.std.specs.Global.{Vec, Box}
use Rattle.std.proofs.Math.Bool.{and-true, and_assoc}
use Rattle.algebra.specs.declared.expression.TwoOperator.{TwoOperator}
use Rattle.algebra.specs.declared.expression.Expression.{Expression as KeptExpression}
use Rattle.algebra.specs.declared.expression.Expression.TheVariants as kept_expression
use Rattle.algebra.specs.declared.plan.Link.{Link}
use Rattle.algebra.specs.declared.plan.Link.TheVariants as link
use Rattle.algebra.specs.declared.plan.Plan.{Plan as Kept}
use Rattle.algebra.specs.declared.plan.Plan.TheVariants as kept
use Rattle.algebra.specs.Expressions.{Expression, Two, chained, expression_of, steps_of}
use Rattle.algebra.specs.Plans.{Plan, Union, nothing, linked, linked_all, filtered, united, united_with, parts_of, plan_of}
use Rattle.algebra.proofs.Folds.{group_is, union_is, chain_is}
use Rattle.meaning_laws.specs.Renaming.{renamed_expression, renamed_plan, expression_known, plan_known}
use Rattle.numbering.specs.Parts.{part_known}
use Rattle.store.proofs.Loops.{drop_next}

module _ {A : Type 0} (k : A → Bool) where
  one_known : (before : Plan A) (l : Link A) (p : Plan A) → plan_known k (linked before l p) ≡ (plan_known k before && part_known k (l, p))
  one_known before link.Join p = ap (λ b. plan_known k before && b) (sym (and-true (plan_known k p)))
  one_known before (link.LeftJoin es) p = refl
  one_known before link.Minus p = ap (λ b. plan_known k before && b) (sym (and-true (plan_known k p)))

  pub linked_known : (before : Plan A) (parts : List (Link A × Plan A)) → plan_known k (linked_all before parts) ≡ (plan_known k before && list_all (part_known k) parts)
  linked_known before [] = sym (and-true (plan_known k before))
  linked_known before (p ∷ ps) =
      linked_known (linked before p.0 p.1) ps ∙ ap (λ b. b && list_all (part_known k) ps) (one_known before p.0 p.1)
      ∙ and_assoc (plan_known k before) (part_known k p) (list_all (part_known k) ps)

  pub filtered_known : (es : List (Expression A)) (p : Plan A) → plan_known k (filtered es p) ≡ (list_all (expression_known k) es && plan_known k p)
  filtered_known [] p = refl
  filtered_known (e ∷ es) p = refl

  united_with_known : (p : Plan A) (ps : List (Plan A)) → plan_known k (united_with p ps) ≡ (plan_known k p && list_all (plan_known k) ps)
  united_with_known p [] = sym (and-true (plan_known k p))
  united_with_known p (q ∷ qs) = united_with_known (Union p q) qs ∙ and_assoc (plan_known k p) (plan_known k q) (list_all (plan_known k) qs)

  pub united_known : (ps : List (Plan A)) → plan_known k (united ps) ≡ list_all (plan_known k) ps
  united_known [] = refl
  united_known (p ∷ ps) = united_with_known p ps

  pub chained_known : (e : Expression A) (steps : List (TwoOperator × Expression A)) → expression_known k (chained e steps) ≡ (expression_known k e && list_all (λ (s : TwoOperator × Expression A). expression_known k s.1) steps)
  chained_known e [] = sym (and-true (expression_known k e))
  chained_known e (s ∷ ss) = chained_known (Two s.0 e s.1) ss ∙ and_assoc (expression_known k e) (expression_known k s.1) (list_all (λ (s : TwoOperator × Expression A). expression_known k s.1) ss)

  -- what is known of a group, of a union and of a chain
  pub group_known : (parts : Vec (Link A × Kept A)) (es : Vec (KeptExpression A)) → plan_known k (plan_of (kept.Group parts es)) ≡ (list_all (expression_known k) (map expression_of es.items) && list_all (part_known k) (parts_of parts.items))
  group_known parts es =
      ap (plan_known k) (group_is parts es) ∙ filtered_known (map expression_of es.items) (linked_all nothing (parts_of parts.items))
      ∙ ap (λ b. list_all (expression_known k) (map expression_of es.items) && b) (linked_known nothing (parts_of parts.items))

  pub union_known : (ps : Vec (Kept A)) → plan_known k (plan_of (kept.Union ps)) ≡ list_all (plan_known k) (map plan_of ps.items)
  union_known ps = ap (plan_known k) (union_is ps) ∙ united_known (map plan_of ps.items)

  pub chain_known : (e : Box (KeptExpression A)) (steps : Vec (TwoOperator × KeptExpression A)) → expression_known k (expression_of (kept_expression.Chain e steps)) ≡ (expression_known k (expression_of e.value) && list_all (λ (s : TwoOperator × Expression A). expression_known k s.1) (steps_of steps.items))
  chain_known e steps = ap (expression_known k) (chain_is e steps) ∙ chained_known (expression_of e.value) (steps_of steps.items)

-- what holds of each of a list, and of one more
pub all_push : {A B : Type 0} (p : B → Bool) (f : A → B) (xs : List A) (x : A) → list_all p (map f xs) ≡ true → p (f x) ≡ true → list_all p (map f (xs ++ x ∷ [])) ≡ true
all_push p f [] x h k = and_from (p (f x)) true k refl
all_push p f (y ∷ ys) x h k =
    let parts = and_parts (p (f y)) (list_all p (map f ys)) h in
    and_from (p (f y)) (list_all p (map f (ys ++ x ∷ []))) parts.0 (all_push p f ys x parts.1 k)

module _ {A B : Type 0} (f : A → B) where
  chained_push : (e : Expression A) (ss : List (TwoOperator × KeptExpression A)) (o : TwoOperator) (x : KeptExpression A) → chained e (steps_of (ss ++ (o, x) ∷ [])) ≡ Two o (chained e (steps_of ss)) (expression_of x)
  chained_push e [] o x = refl
  chained_push e (s ∷ ss) o x = chained_push (Two s.0 e (expression_of s.1)) ss o x

  -- a step that is renamed, at the end of those that are
  pub step_renamed : (e : Expression A) (ss : List (TwoOperator × KeptExpression A)) (o : TwoOperator) (x : KeptExpression A) (y : KeptExpression B) (rest : List (TwoOperator × KeptExpression B))
      → renamed_expression f (expression_of x) ≡ expression_of y
      → chained (renamed_expression f (chained e (steps_of (ss ++ (o, x) ∷ [])))) (steps_of rest) ≡ chained (renamed_expression f (chained e (steps_of ss))) (steps_of ((o, y) ∷ rest))
  step_renamed e ss o x y rest is =
      ap (λ t. chained (renamed_expression f t) (steps_of rest)) (chained_push e ss o x)
      ∙ ap (λ z. chained (Two o (renamed_expression f (chained e (steps_of ss))) z) (steps_of rest)) is

  linked_push : (before : Plan A) (ps : List (Link A × Kept A)) (l : Link A) (p : Kept A) → linked_all before (parts_of (ps ++ (l, p) ∷ [])) ≡ linked (linked_all before (parts_of ps)) l (plan_of p)
  linked_push before [] l p = refl
  linked_push before (q ∷ ps) l p = linked_push (linked before q.0 (plan_of q.1)) ps l p

  -- a part that is renamed, at the end of those that are
  pub part_renamed : (before : Plan A) (ps : List (Link A × Kept A)) (l : Link A) (p : Kept A) (m : Link B) (q : Kept B) (rest : List (Link B × Kept B))
      → ((before p : Plan A) → renamed_plan f (linked before l p) ≡ linked (renamed_plan f before) m (renamed_plan f p)) → renamed_plan f (plan_of p) ≡ plan_of q
      → linked_all (renamed_plan f (linked_all before (parts_of (ps ++ (l, p) ∷ [])))) (parts_of rest) ≡ linked_all (renamed_plan f (linked_all before (parts_of ps))) (parts_of ((m, q) ∷ rest))
  part_renamed before ps l p m q rest link is =
      ap (λ t. linked_all (renamed_plan f t) (parts_of rest)) (linked_push before ps l p)
      ∙ ap (λ t. linked_all t (parts_of rest)) (link (linked_all before (parts_of ps)) (plan_of p) ∙ ap (linked (renamed_plan f (linked_all before (parts_of ps))) m) is)

  pub filtered_renamed : (es : List (Expression A)) (p : Plan A) → renamed_plan f (filtered es p) ≡ filtered (map (renamed_expression f) es) (renamed_plan f p)
  filtered_renamed [] p = refl
  filtered_renamed (e ∷ es) p = refl

  united_with_renamed : (p : Plan A) (ps : List (Plan A)) → renamed_plan f (united_with p ps) ≡ united_with (renamed_plan f p) (map (renamed_plan f) ps)
  united_with_renamed p [] = refl
  united_with_renamed p (q ∷ qs) = united_with_renamed (Union p q) qs

  pub united_renamed : (ps : List (Plan A)) → renamed_plan f (united ps) ≡ united (map (renamed_plan f) ps)
  united_renamed [] = refl
  united_renamed (p ∷ ps) = united_with_renamed p ps

pub ruleset folded = (group_is, union_is, chain_is, filtered_renamed, united_renamed)

-- ---- what is known of the parts of what is known

module _ {A : Type 0} (k : A → Bool) (e : Box (KeptExpression A)) (steps : Vec (TwoOperator × KeptExpression A)) (all : KeptExpression A) where
  chain_parts : all ≡ kept_expression.Chain e steps → expression_known k (expression_of all) ≡ true
      → (expression_known k (expression_of e.value) ≡ true) × (list_all (λ (s : TwoOperator × Expression A). expression_known k s.1) (steps_of steps.items) ≡ true)
  chain_parts is h =
      and_parts (expression_known k (expression_of e.value)) (list_all (λ (s : TwoOperator × Expression A). expression_known k s.1) (steps_of steps.items))
      (sym (ap (λ x. expression_known k (expression_of x)) is ∙ chain_known k e steps) ∙ h)

  pub first_known : (x : KeptExpression A) → all ≡ kept_expression.Chain e steps → x ≡ e.value → expression_known k (expression_of all) ≡ true → expression_known k (expression_of x) ≡ true
  first_known x is there h = ap (λ y. expression_known k (expression_of y)) there ∙ (chain_parts is h).0

  pub steps_known : (xs : List (TwoOperator × KeptExpression A)) → all ≡ kept_expression.Chain e steps → xs ≡ steps.items → expression_known k (expression_of all) ≡ true
      → list_all (λ (s : TwoOperator × Expression A). expression_known k s.1) (steps_of xs) ≡ true
  steps_known xs is there h = ap (λ ys. list_all (λ (s : TwoOperator × Expression A). expression_known k s.1) (steps_of ys)) there ∙ (chain_parts is h).1

pub step_known : {A : Type 0} (k : A → Bool) (xs : List (TwoOperator × KeptExpression A)) (i : ℕ) (x : TwoOperator × KeptExpression A) → i < length xs → x ≡ get_or xs i x
    → list_all (λ (s : TwoOperator × Expression A). expression_known k s.1) (steps_of (drop i xs)) ≡ true → expression_known k (expression_of x.1) ≡ true
step_known k xs i x lt is h =
    (and_parts (expression_known k (expression_of x.1)) (list_all (λ (s : TwoOperator × Expression _). expression_known k s.1) (steps_of (drop (i + 1) xs)))
    (ap (λ ys. list_all (λ (s : TwoOperator × Expression _). expression_known k s.1) (steps_of ys)) (sym (drop_next xs i x lt is)) ∙ h)).0

module _ {A : Type 0} (k : A → Bool) (parts : Vec (Link A × Kept A)) (es : Vec (KeptExpression A)) (all : Kept A) where
  group_parts : all ≡ kept.Group parts es → plan_known k (plan_of all) ≡ true
      → (list_all (expression_known k) (map expression_of es.items) ≡ true) × (list_all (part_known k) (parts_of parts.items) ≡ true)
  group_parts is h =
      and_parts (list_all (expression_known k) (map expression_of es.items)) (list_all (part_known k) (parts_of parts.items))
      (sym (ap (λ x. plan_known k (plan_of x)) is ∙ group_known k parts es) ∙ h)

  pub parts_known : (xs : List (Link A × Kept A)) → all ≡ kept.Group parts es → xs ≡ parts.items → plan_known k (plan_of all) ≡ true → list_all (part_known k) (parts_of xs) ≡ true
  parts_known xs is there h = ap (λ ys. list_all (part_known k) (parts_of ys)) there ∙ (group_parts is h).1

pub plans_known : {A : Type 0} (k : A → Bool) (ps : Vec (Kept A)) (all : Kept A) (xs : List (Kept A)) → all ≡ kept.Union ps → xs ≡ ps.items → plan_known k (plan_of all) ≡ true → list_all (plan_known k) (map plan_of xs) ≡ true
plans_known k ps all xs is there h =
    ap (λ ys. list_all (plan_known k) (map plan_of ys)) there ∙ sym (ap (λ x. plan_known k (plan_of x)) is ∙ union_known k ps) ∙ h
