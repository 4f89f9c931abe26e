-- What a list gives, by its last member.
use Rattle.std.specs.Prelude.{ℕ, ◌≤◌, ◌-◌}
use Rattle.std.proofs.Common.{◌≡◌, List, [], ◌∷◌, ◌++◌, suc, zero, length, take, get_or, refl, sym, ap, ◌∙◌, arith}
use Rattle.std.proofs.lemmas.List.{nil_from_length, get_or_default}
use Rattle.datasets.specs.declared.id.Id.{Id}
use Rattle.datasets.specs.declared.quad.Quad.{Quad}
use Rattle.datasets.specs.Id.{id_order}
use Rattle.algebra.specs.Plans.{Plan, Join, nothing, plan_of, parts_of, linked, linked_all}
use Rattle.algebra.specs.declared.pattern.TriplePattern.{TriplePattern}
use Rattle.algebra.specs.declared.plan.Link.{Link}
use Rattle.algebra.specs.declared.plan.Link.TheVariants as link
use Rattle.algebra.specs.declared.plan.Plan.{Plan as Kept}
use Rattle.meaning.specs.Mapping.{Mapping, empty_mapping}
use Rattle.meaning.specs.Operators.{join}
use Rattle.meaning.specs.Solutions.{joined_with, solutions_among, basic_solutions}

-- a list is what stands before its last member, and that
ends_at : {A : Type 0} (xs : List A) (d : A) (n : ℕ) → length xs ≡ suc n → xs ≡ take n xs ++ get_or xs n d ∷ []
ends_at [] d n e = absurd (omega arith)
ends_at (x ∷ []) d zero e = refl
ends_at (x ∷ y ∷ xs) d zero e = absurd (omega arith)
ends_at (x ∷ xs) d (suc n) e = ap (λ zs. x ∷ zs) (ends_at xs d n (omega arith))

pub ends : {A : Type 0} (xs : List A) (d : A) → 1 ≤ length xs → xs ≡ take (length xs - 1) xs ++ get_or xs (length xs - 1) d ∷ []
ends xs d le = ends_at xs d (length xs - 1) (omega arith)

-- ---- basic patterns

joined_ends : (width : ℕ) (found : List (Mapping Id)) (ts : List (TriplePattern Id)) (t : TriplePattern Id) (triples : List (Quad Id))
    → join id_order (joined_with id_order width found ts triples) (solutions_among id_order width t triples) ≡ joined_with id_order width found (ts ++ t ∷ []) triples
joined_ends width found [] t triples = refl
joined_ends width found (s ∷ ts) t triples = joined_ends width (join id_order found (solutions_among id_order width s triples)) ts t triples

-- the last join of a basic pattern
pub basic_ends : (width : ℕ) (ts : List (TriplePattern Id)) (d : TriplePattern Id) (triples : List (Quad Id)) (before next : List (Mapping Id)) → 1 ≤ length ts
    → before ≡ basic_solutions id_order width (take (length ts - 1) ts) triples → next ≡ solutions_among id_order width (get_or ts (length ts - 1) d) triples
    → join id_order before next ≡ basic_solutions id_order width ts triples
basic_ends width ts d triples before next le e f =
    (λ i. join id_order (e i) (f i)) ∙ joined_ends width (empty_mapping width ∷ []) (take (length ts - 1) ts) (get_or ts (length ts - 1) d) triples
    ∙ ap (λ xs. basic_solutions id_order width xs triples) (sym (ends ts d le))

-- ---- parts of groups

linked_ends : (before : Plan Id) (parts : List (Link Id × Kept Id)) (last : Link Id × Kept Id)
    → linked_all before (parts_of (parts ++ last ∷ [])) ≡ linked (linked_all before (parts_of parts)) last.0 (plan_of last.1)
linked_ends before [] last = refl
linked_ends before (part ∷ parts) last = linked_ends (linked before part.0 (plan_of part.1)) parts last

-- the last part of a group
pub group_ends : (parts : List (Link Id × Kept Id)) (d e : Link Id × Kept Id) → 1 ≤ length parts
    → linked_all nothing (parts_of parts)
    ≡ linked (linked_all nothing (parts_of (take (length parts - 1) parts))) (get_or parts (length parts - 1) d).0 (plan_of (get_or parts (length parts - 1) e).1)
group_ends parts d e le =
    let first = linked_all nothing (parts_of (take (length parts - 1) parts)) in
    let link = (get_or parts (length parts - 1) d).0 in
    ap (λ xs. linked_all nothing (parts_of xs)) (ends parts d le)
    ∙ linked_ends nothing (take (length parts - 1) parts) (get_or parts (length parts - 1) d)
    ∙ ap (λ (x : Link Id × Kept Id). linked first link (plan_of x.1)) (get_or_default parts (length parts - 1) d e (omega arith))

-- a group of one, to which it goes on by a join
pub group_alone : (parts : List (Link Id × Kept Id)) (d e : Link Id × Kept Id) → 1 ≤ length parts
    → length (take (length parts - 1) parts) ≡ 0 → (get_or parts (length parts - 1) d).0 ≡ link.Join
    → linked_all nothing (parts_of parts) ≡ Join nothing (plan_of (get_or parts (length parts - 1) e).1)
group_alone parts d e le none is =
    group_ends parts d e le
    ∙ (λ i. linked (linked_all nothing (parts_of (nil_from_length (take (length parts - 1) parts) none i))) (is i) (plan_of (get_or parts (length parts - 1) e).1))
