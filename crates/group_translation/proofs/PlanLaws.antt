-- Patterns and expressions that grow at their end.
use Rattle.std.proofs.Common.{◌≡◌, List, [], ◌∷◌, ◌++◌, reverse, refl, sym, ap, ◌∙◌}
use Rattle.std.proofs.lemmas.List.{reverse-append, map_push}
use Rattle.terms.specs.declared.term.Term.{Term}
use Rattle.algebra.specs.declared.expression.TwoOperator.{TwoOperator}
use Rattle.algebra.specs.declared.expression.Expression.{Expression as Made}
use Rattle.algebra.specs.declared.plan.Link.{Link}
use Rattle.algebra.specs.declared.plan.Plan.{Plan as Kept}
use Rattle.algebra.specs.Expressions as made
use Rattle.algebra.specs.Expressions.{Expression, chained, expression_of, steps_of}
use Rattle.algebra.specs.Plans.{Plan, linked, linked_all, plan_of, parts_of as linked_parts}
use Rattle.algebra.proofs.Folds.{group_is, union_is as united_is, chain_is}
use Rattle.group_translation.specs.Chains.{stacked}

-- one pattern more at the end of a group's
pub linked_push : (before : Plan Term) (parts : List (Link Term × Kept Term)) (part : Link Term × Kept Term) → linked_all before (linked_parts (parts ++ part ∷ [])) ≡ linked (linked_all before (linked_parts parts)) part.0 (plan_of part.1)
linked_push before [] part = refl
linked_push before (p ∷ parts) part = linked_push (linked before p.0 (plan_of p.1)) parts part

-- ---- expressions

-- a step as it is seen
abbrev step_of : TwoOperator × Made Term → TwoOperator × Expression Term
step_of s = (s.0, expression_of s.1)

pub stacked_push : (e : Expression Term) (ss : List (TwoOperator × Expression Term)) (s : TwoOperator × Expression Term) → stacked e (ss ++ s ∷ []) ≡ stacked (made.Two s.0 e s.1) ss
stacked_push e [] s = refl
stacked_push e (x ∷ ss) s = ap (λ f. made.Two x.0 f x.1) (stacked_push e ss s)

chained_push : (e : Expression Term) (ss : List (TwoOperator × Expression Term)) (s : TwoOperator × Expression Term) → chained e (ss ++ s ∷ []) ≡ made.Two s.0 (chained e ss) s.1
chained_push e [] s = refl
chained_push e (x ∷ ss) s = chained_push (made.Two x.0 e x.1) ss s

-- operators from left to right are those the outermost first, turned round
pub reversed_chain : (e : Expression Term) (ss : List (TwoOperator × Made Term)) → chained e (steps_of (reverse ss)) ≡ stacked e (steps_of ss)
reversed_chain e [] = refl
reversed_chain e (s ∷ ss) =
    ap (λ (xs : List (TwoOperator × Made Term)). chained e (steps_of xs)) (reverse-append (s ∷ []) ss)
    ∙ ap (chained e) (map_push step_of (reverse ss) s) ∙ chained_push e (steps_of (reverse ss)) (step_of s)
    ∙ ap (λ f. made.Two s.0 f (expression_of s.1)) (reversed_chain e ss)

-- a step down to the left
pub descended : (first left right all : Expression Term) (before after : List (TwoOperator × Made Term)) (o : TwoOperator) (r : Made Term) → stacked first (steps_of before) ≡ all → after ≡ before ++ (o, r) ∷ [] → expression_of r ≡ right → first ≡ made.Two o left right → stacked left (steps_of after) ≡ all
descended first left right all before after o r told pushed translated is =
    ap (λ (ss : List (TwoOperator × Made Term)). stacked left (steps_of ss)) pushed ∙ ap (λ (ss : List (TwoOperator × Expression Term)). stacked left ss) (map_push step_of before (o, r)) ∙ stacked_push left (steps_of before) (o, expression_of r)
    ∙ ap (λ (x : Expression Term). stacked (made.Two o left x) (steps_of before)) translated ∙ ap (λ (x : Expression Term). stacked x (steps_of before)) (sym is) ∙ told

pub ruleset folded = (group_is, united_is, chain_is)
