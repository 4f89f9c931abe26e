-- The terms of patterns and expressions that are lists.
use Rattle.std.proofs.Common.{◌≡◌, List, [], ◌∷◌, ◌++◌, map, refl, sym, ap, ◌∙◌}
use Rattle.std.proofs.lemmas.List.{append_assoc, append-nil}
use Rattle.std.specs.List.{flat_map}
use Rattle.std.specs.Global.{Vec, Box}
use Rattle.terms.specs.declared.term.Term.{Term}
use Rattle.algebra.specs.declared.expression.TwoOperator.{TwoOperator}
use Rattle.algebra.specs.declared.expression.Expression.{Expression as KeptExpression, fold-roll-Expression}
use Rattle.algebra.specs.declared.expression.Expression.TheOpen.{Expression-F}
use Rattle.algebra.specs.declared.expression.Expression.TheVariants as kept_expression
use Rattle.algebra.specs.declared.expression.Expression.TheVariants.{rolls-Two}
use Rattle.algebra.specs.declared.plan.Link.{Link}
use Rattle.algebra.specs.declared.plan.Link.TheVariants as link
use Rattle.algebra.specs.declared.pattern.Place.{Place}
use Rattle.algebra.specs.declared.plan.Plan.{Plan as Kept, fold-roll-Plan}
use Rattle.algebra.specs.declared.plan.Plan.TheOpen.{Plan-F}
use Rattle.algebra.specs.declared.plan.Plan.TheVariants as kept
use Rattle.algebra.specs.declared.plan.Plan.TheVariants.{rolls-InGraph}
use Rattle.algebra.specs.Expressions.{Expression, Two, chained, expression_of, expression_step, steps_of}
use Rattle.algebra.specs.Plans.{Plan, Union, nothing, linked, linked_all, filtered, united, united_with, parts_of, plan_of, plan_step}
use Rattle.algebra.proofs.Folds.{group_is, union_is, chain_is}
use Rattle.rules.specs.Terms.{terms_of_place, terms_of_expression, terms_of_plan}
use Rattle.rules.specs.Parts.{terms_of_link, terms_of_part}

link_terms : (before : Plan Term) (l : Link Term) (p : Plan Term) → terms_of_plan (linked before l p) ≡ terms_of_plan before ++ (terms_of_plan p ++ terms_of_link l)
link_terms before link.Join p = ap (λ (xs : List Term). terms_of_plan before ++ xs) (sym (append-nil (terms_of_plan p)))
link_terms before (link.LeftJoin es) p = append_assoc (terms_of_plan before) (terms_of_plan p) (flat_map terms_of_expression (map expression_of es.items))
link_terms before link.Minus p = ap (λ (xs : List Term). terms_of_plan before ++ xs) (sym (append-nil (terms_of_plan p)))

linked_terms : (before : Plan Term) (parts : List (Link Term × Plan Term)) → terms_of_plan (linked_all before parts) ≡ terms_of_plan before ++ flat_map terms_of_part parts
linked_terms before [] = sym (append-nil (terms_of_plan before))
linked_terms before (p ∷ parts) =
    linked_terms (linked before p.0 p.1) parts ∙ ap (λ (xs : List Term). xs ++ flat_map terms_of_part parts) (link_terms before p.0 p.1)
    ∙ append_assoc (terms_of_plan before) (terms_of_part p) (flat_map terms_of_part parts)

filtered_terms : (es : List (Expression Term)) (p : Plan Term) → terms_of_plan (filtered es p) ≡ terms_of_plan p ++ flat_map terms_of_expression es
filtered_terms [] p = sym (append-nil (terms_of_plan p))
filtered_terms (e ∷ es) p = refl

united_with_terms : (p : Plan Term) (ps : List (Plan Term)) → terms_of_plan (united_with p ps) ≡ terms_of_plan p ++ flat_map terms_of_plan ps
united_with_terms p [] = sym (append-nil (terms_of_plan p))
united_with_terms p (q ∷ qs) = united_with_terms (Union p q) qs ∙ append_assoc (terms_of_plan p) (terms_of_plan q) (flat_map terms_of_plan qs)

united_terms : (ps : List (Plan Term)) → terms_of_plan (united ps) ≡ flat_map terms_of_plan ps
united_terms [] = refl
united_terms (p ∷ ps) = united_with_terms p ps

chained_terms : (e : Expression Term) (steps : List (TwoOperator × KeptExpression Term)) → terms_of_expression (chained e (steps_of steps)) ≡ terms_of_expression e ++ flat_map (λ (s : TwoOperator × KeptExpression Term). terms_of_expression (expression_of s.1)) steps
chained_terms e [] = sym (append-nil (terms_of_expression e))
chained_terms e (s ∷ ss) =
    chained_terms (Two s.0 e (expression_of s.1)) ss
    ∙ append_assoc (terms_of_expression e) (terms_of_expression (expression_of s.1)) (flat_map (λ (s : TwoOperator × KeptExpression Term). terms_of_expression (expression_of s.1)) ss)

pub group_terms : (parts : Vec (Link Term × Kept Term)) (es : Vec (KeptExpression Term)) → terms_of_plan (plan_of (kept.Group parts es)) ≡ flat_map terms_of_part (parts_of parts.items) ++ flat_map terms_of_expression (map expression_of es.items)
group_terms parts es =
    ap terms_of_plan (group_is parts es) ∙ filtered_terms (map expression_of es.items) (linked_all nothing (parts_of parts.items))
    ∙ ap (λ (xs : List Term). xs ++ flat_map terms_of_expression (map expression_of es.items)) (linked_terms nothing (parts_of parts.items))

pub union_terms : (ps : Vec (Kept Term)) → terms_of_plan (plan_of (kept.Union ps)) ≡ flat_map terms_of_plan (map plan_of ps.items)
union_terms ps = ap terms_of_plan (union_is ps) ∙ united_terms (map plan_of ps.items)

pub chain_terms : (e : Box (KeptExpression Term)) (steps : Vec (TwoOperator × KeptExpression Term)) → terms_of_expression (expression_of (kept_expression.Chain e steps)) ≡ terms_of_expression (expression_of e.value) ++ flat_map (λ (s : TwoOperator × KeptExpression Term). terms_of_expression (expression_of s.1)) steps.items
chain_terms e steps = ap terms_of_expression (chain_is e steps) ∙ chained_terms (expression_of e.value) steps.items

pub graph_terms : (n : Place Term) (p : Box (Kept Term)) → terms_of_plan (plan_of (kept.InGraph n p)) ≡ terms_of_place n ++ terms_of_plan (plan_of p.value)
graph_terms n p = ap terms_of_plan (ap plan_of (sym (rolls-InGraph n p)) ∙ fold-roll-Plan Term (Plan Term) plan_step (Plan-F.InGraph n p))

pub two_terms : (o : TwoOperator) (l r : Box (KeptExpression Term)) → terms_of_expression (expression_of (kept_expression.Two o l r)) ≡ terms_of_expression (expression_of l.value) ++ terms_of_expression (expression_of r.value)
two_terms o l r = ap terms_of_expression (ap expression_of (sym (rolls-Two o l r)) ∙ fold-roll-Expression Term (Expression Term) expression_step (Expression-F.Two o l r))

pub ruleset folded = (group_terms, union_terms, chain_terms)
