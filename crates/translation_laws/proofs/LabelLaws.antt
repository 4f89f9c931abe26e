-- The labels of an operation that has at most 2^32 nodes have numbers of 32 bits.
use Rattle.std.proofs.Common.{ℕ, suc, ◌+◌, ◌<◌, ◌≤◌, ◌^◌, Bool, true, false, cond, List, [], ◌∷◌, length, Option, Some, None, unwrap_or, arith}
use Rattle.std.specs.Prelude.{IfSome, All}
use Rattle.std.specs.declared.cmp.Ordering.{Ordering}
use Rattle.std.specs.declared.cmp.Ordering.TheVariants.{Less, Equal, Greater}
use Rattle.std.specs.BTreeMap.{insert_entry, is_at}
use Rattle.std.specs.Map.{lookup, values_of}
use Rattle.std.specs.List.{cons_option}
use Rattle.std.specs.Ordering.{match_ordering}
use Rattle.std.proofs.lemmas.List.Elements.{All-from_recursion}
use Rattle.std.proofs.lemmas.Map.Views.{All-values-insert_entry, IfSome-lookup_from_All}
use Rattle.terms.specs.Term.{text_cmp}
use Rattle.syntax_trees.specs.declared.tree.Node.{Node}
use Rattle.names.specs.Numbers.{label_of, labels_of, Labels, is_label_in, with_label, with_labels, label_number}

-- a number of 32 bits
abbrev pub IsNumber : ℕ → Type 0
IsNumber l = l < 2 ^ 32

length-insert_entry : (ls : Labels) (l : List ℕ) (n : ℕ) → length (insert_entry text_cmp ls l n) ≤ suc (length ls)
length-insert_entry [] l n = omega arith
length-insert_entry (e ∷ ls) l n = at (text_cmp l e.0) (length-insert_entry ls l n)
  where
    at : (r : Ordering) → length (insert_entry text_cmp ls l n) ≤ suc (length ls)
        → length (match_ordering r ((l, n) ∷ e ∷ ls) ((e.0, n) ∷ ls) (e ∷ insert_entry text_cmp ls l n)) ≤ suc (suc (length ls))
    at Less h = omega arith
    at Equal h = omega arith
    at Greater h = omega (arith, h)

abbrev AreNumbers : Labels → Type 0
AreNumbers known = All IsNumber (values_of known)

one_numbered : (b : Bool) (l : List ℕ) (known : Labels) → AreNumbers known → length known < 2 ^ 32 → AreNumbers (cond b known (insert_entry text_cmp known l (length known)))
one_numbered true l known h small = h
one_numbered false l known h small = All-values-insert_entry text_cmp l (length known) IsNumber known h small

one_more : (b : Bool) (l : List ℕ) (known : Labels) → length (cond b known (insert_entry text_cmp known l (length known))) ≤ suc (length known)
one_more true l known = omega arith
one_more false l known = length-insert_entry known l (length known)

all_numbered : (ls : List (List ℕ)) (known : Labels) → AreNumbers known → length known + length ls ≤ 2 ^ 32 → AreNumbers (with_labels ls known)
all_numbered [] known h small = h
all_numbered (l ∷ ls) known h small =
    let more = one_more (is_label_in known l) l known in
    all_numbered ls (with_label l known) (one_numbered (is_label_in known l) l known h (omega (arith, small))) (omega (arith, small, more))

labels_fewer : (ns : List Node) → length (labels_of ns) ≤ length ns
labels_fewer [] = omega arith
labels_fewer (n ∷ ns) = at (label_of n) (labels_fewer ns)
  where
    at : (o : Option (List ℕ)) → length (labels_of ns) ≤ length ns → length (cons_option o (labels_of ns)) ≤ suc (length ns)
    at None h = omega (arith, h)
    at (Some l) h = omega (arith, h)

pub labels_numbered : (ns : List Node) → length ns ≤ 2 ^ 32 → (l : List ℕ) → IsNumber (label_number (with_labels (labels_of ns) []) l)
labels_numbered ns small l = at (lookup (is_at (text_cmp l)) known) (IfSome-lookup_from_All IsNumber (is_at (text_cmp l)) known numbers)
  where
    known : Labels
    known = with_labels (labels_of ns) []

    numbers : AreNumbers known
    numbers = let few = labels_fewer ns in all_numbered (labels_of ns) [] (All-from_recursion IsNumber [] tt) (omega (arith, few, small))

    at : (o : Option ℕ) → IfSome o IsNumber → IsNumber (unwrap_or o 0)
    at None h = omega arith
    at (Some n) h = h
