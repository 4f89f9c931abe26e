-- Trees that are still to come.
use Rattle.std.proofs.Common.{rules, Bor, ◌≡◌, ◌+◌, List, [], ◌∷◌, ◌++◌, sym, ap, ◌∙◌}
use Rattle.std.proofs.lemmas.List.{append_assoc}
use Rattle.syntax_trees.specs.declared.tree.Node.{Node}
use Rattle.syntax_trees.specs.Expressions.{tree_of}
use Rattle.syntax_trees.specs.declared.expression.Expression.{Expression as Kept}
use Rattle.nodes.specs.Nodes.{nodes_of_tree}
pub use Rattle.nodes.specs.Pending.{weight, pending_nodes, pending_weight}

pub pending_push : (es : List (Bor Kept)) (e : Bor Kept) → pending_nodes (es ++ e ∷ []) ≡ nodes_of_tree (tree_of e.now) ++ pending_nodes es
pending_push [] e = search rules
pending_push (x ∷ es) e = ap (λ (ns : List Node). ns ++ nodes_of_tree (tree_of x.now)) (pending_push es e) ∙ append_assoc (nodes_of_tree (tree_of e.now)) (pending_nodes es) (nodes_of_tree (tree_of x.now))

-- a tree of the stack that was seen itself, and one whose two operands take its place

pub seen : (found new : List Node) (pending : List (Bor Kept)) (e : Bor Kept) (ns : List Node) → nodes_of_tree (tree_of e.now) ≡ ns → new ≡ found ++ ns → new ++ pending_nodes pending ≡ found ++ pending_nodes (pending ++ e ∷ [])
seen found new pending e ns is pushed =
    ap (λ (xs : List Node). xs ++ pending_nodes pending) pushed ∙ append_assoc found ns (pending_nodes pending)
    ∙ ap (λ (xs : List Node). found ++ xs) (ap (λ (xs : List Node). xs ++ pending_nodes pending) (sym is) ∙ sym (pending_push pending e))

pub operands_put : (found : List Node) (pending new : List (Bor Kept)) (e l r : Bor Kept) → nodes_of_tree (tree_of e.now) ≡ nodes_of_tree (tree_of l.now) ++ nodes_of_tree (tree_of r.now) → new ≡ (pending ++ r ∷ []) ++ l ∷ [] → found ++ pending_nodes new ≡ found ++ pending_nodes (pending ++ e ∷ [])
operands_put found pending new e l r is put =
    ap (λ (xs : List Node). found ++ xs)
    (ap pending_nodes put ∙ pending_push (pending ++ r ∷ []) l ∙ ap (λ (xs : List Node). nodes_of_tree (tree_of l.now) ++ xs) (pending_push pending r)
    ∙ sym (append_assoc (nodes_of_tree (tree_of l.now)) (nodes_of_tree (tree_of r.now)) (pending_nodes pending))
    ∙ ap (λ (xs : List Node). xs ++ pending_nodes pending) (sym is) ∙ sym (pending_push pending e))

pub weight_push : (es : List (Bor Kept)) (e : Bor Kept) → pending_weight (es ++ e ∷ []) ≡ weight (tree_of e.now) + pending_weight es
weight_push [] e = search rules
weight_push (x ∷ es) e = ap (λ n. n + weight (tree_of x.now)) (weight_push es e) ∙ search rules
