-- Patterns one after another, at their solutions.
use Rattle.std.specs.Prelude.{ℕ, Bool, filter, map}
use Rattle.std.proofs.Common.{◌≡◌, ◌≤◌, ◌-◌, List, [], ◌∷◌, Option, length, take, drop, get_or, refl, sym, ap, ◌∙◌, arith}
use Rattle.std.proofs.lemmas.List.{take_all}
use Rattle.datasets.specs.Id.{id_order}
use Rattle.datasets.specs.declared.id.Id.{Id}
use Rattle.algebra.specs.Expressions.{Expression}
use Rattle.algebra.specs.Plans.{Plan, Union, plan_of, parts_of, linked, linked_all, filtered, united, united_with}
use Rattle.algebra.specs.declared.plan.Link.{Link}
use Rattle.algebra.specs.declared.plan.Link.TheVariants as link
use Rattle.algebra.specs.declared.plan.Plan.{Plan as Kept}
use Rattle.meaning.specs.Mapping.{Mapping}
use Rattle.meaning.specs.Operators.{union_of}
use Rattle.meaning.specs.Solutions.{solutions, passes_all}
use Rattle.reads.specs.Reads.{View}
use Rattle.eval.specs.Groups.{combined}

-- the patterns of a union behind the first
abbrev pub behind : List (Kept Id) → List (Kept Id)
behind plans = take (length plans - 1) (drop 1 plans)

pub union_begins : (plans : List (Kept Id)) (first : Kept Id) → 1 ≤ length plans → first ≡ get_or plans 0 first
    → united (map plan_of plans) ≡ united_with (plan_of first) (map plan_of (behind plans))
union_begins [] first le is = absurd (omega (arith, le))
union_begins (p ∷ ps) first le is =
    ap (λ f. united_with (plan_of f) (map plan_of ps)) (sym is)
    ∙ ap (λ xs. united_with (plan_of first) (map plan_of xs)) (sym (take_all (length (p ∷ ps) - 1) ps (omega (arith, le))))

-- no filters let all pass
module _ (passes : Expression Id → Mapping Id → Bool) where
  all_kept : (xs : List (Mapping Id)) → filter (passes_all passes []) xs ≡ xs
  all_kept [] = refl
  all_kept (x ∷ xs) = ap (λ ys. x ∷ ys) (all_kept xs)

  pub unfiltered : {A : Type 0} (f : A → Expression Id) (es : List A) (xs : List (Mapping Id)) → length es ≡ 0 → filter (passes_all passes (map f es)) xs ≡ xs
  unfiltered f [] xs e = all_kept xs
  unfiltered f (x ∷ es) xs e = absurd (omega arith)

module _ (passes : Expression Id → Mapping Id → Bool) (width : ℕ) (d : View) (graph : Option Id) where
  abbrev pub solved : Plan Id → List (Mapping Id)
  solved p = solutions id_order passes width p d graph

  -- what is found, and then parts of a group
  abbrev pub parts_on : List (Mapping Id) → List (Link Id × Kept Id) → List (Mapping Id)
  parts_on found [] = found
  parts_on found (part ∷ parts) = parts_on (combined passes part.0 found (solved (plan_of part.1))) parts

  pub linked_solved : (l : Link Id) (before p : Plan Id) → combined passes l (solved before) (solved p) ≡ solved (linked before l p)
  linked_solved link.Join before p = refl
  linked_solved (link.LeftJoin es) before p = refl
  linked_solved link.Minus before p = refl

  pub parts_solved : (before : Plan Id) (parts : List (Link Id × Kept Id)) → parts_on (solved before) parts ≡ solved (linked_all before (parts_of parts))
  parts_solved before [] = refl
  parts_solved before (part ∷ parts) =
      ap (λ found. parts_on found parts) (linked_solved part.0 before (plan_of part.1)) ∙ parts_solved (linked before part.0 (plan_of part.1)) parts

  -- what is found, and then patterns of a union
  abbrev pub union_on : List (Mapping Id) → List (Kept Id) → List (Mapping Id)
  union_on found [] = found
  union_on found (plan ∷ plans) = union_on (union_of id_order found (solved (plan_of plan))) plans

  pub union_solved : (before : Plan Id) (plans : List (Kept Id)) → union_on (solved before) plans ≡ solved (united_with before (map plan_of plans))
  union_solved before [] = refl
  union_solved before (plan ∷ plans) = union_solved (Union before (plan_of plan)) plans

  -- filters over a pattern, where there are any
  pub filtered_solved : (es : List (Expression Id)) (p : Plan Id) → filter (passes_all passes es) (solved p) ≡ solved (filtered es p)
  filtered_solved [] p = all_kept passes (solved p)
  filtered_solved (e ∷ es) p = refl
