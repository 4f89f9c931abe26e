-- What a filter lets through: every quad that was put, and so each pattern that one of them
-- matches.
use Rattle.std.specs.Prelude.{Bool, true, false, ◌&&◌, Option, Some, None, slice_set}
use Rattle.std.proofs.Common.{◌≡◌, ◌<◌, ℕ, zero, suc, List, [], ◌∷◌, refl, sym, ap, ◌∙◌, length, get_or, arith}
use Rattle.std.proofs.lemmas.Bool.{false≢true, and_parts, and_from}
use Rattle.std.specs.Cmp.Lexicographic.{options_total}
use Rattle.sets.proofs.SetLaws.{exact_by}
use Rattle.datasets.specs.declared.id.Id.{Id}
use Rattle.datasets.specs.declared.quad.Quad.{Quad}
use Rattle.datasets.specs.declared.read.GraphPlace.{GraphPlace}
use Rattle.datasets.specs.declared.read.GraphPlace.TheVariants.{Any, Only}
use Rattle.datasets.specs.declared.read.QuadPattern.{QuadPattern}
use Rattle.datasets.specs.Dataset.{matches, free_or, in_place}
use Rattle.datasets.specs.Id.{id_order, id_total, id_exact, option_exact}
use Rattle.version_overlay.specs.Seen.{is_seen, is_graph_seen, lets, lets_graph, passes}

-- ---- slots

pub still_set : (xs : List Bool) (i k : ℕ) → get_or xs k false ≡ true → get_or (slice_set xs i true) k false ≡ true
still_set [] i k e = absurd (false≢true e)
still_set (x ∷ xs) zero zero e = refl
still_set (x ∷ xs) zero (suc k) e = e
still_set (x ∷ xs) (suc i) zero e = e
still_set (x ∷ xs) (suc i) (suc k) e = still_set xs i k e

pub set_within : (xs : List Bool) (k : ℕ) → get_or xs k false ≡ true → k < length xs
set_within [] k e = absurd (false≢true e)
set_within (x ∷ xs) zero e = omega arith
set_within (x ∷ xs) (suc k) e = let h = set_within xs k e in omega arith

-- ---- patterns

let_through : (slots : List Bool) (place : Option Id) (x : Id) → is_seen slots x ≡ true → free_or id_order place x ≡ true → lets slots place ≡ true
let_through slots None x seen e = refl
let_through slots (Some y) x seen e = ap (is_seen slots) (sym (exact_by id_total id_exact x y e)) ∙ seen

graph_through : (slots : List Bool) (place : GraphPlace Id) (g : Option Id) → is_graph_seen slots g ≡ true → in_place id_order place g ≡ true → lets_graph slots place ≡ true
graph_through slots Any g seen e = refl
graph_through slots (Only h) g seen e = ap (is_graph_seen slots) (sym (exact_by (options_total id_total) (option_exact id_order id_exact) g h e)) ∙ seen

pub matched : (a b c d : List Bool) (p : QuadPattern Id) (q : Quad Id) → is_seen a q.subject ≡ true → is_seen b q.predicate ≡ true → is_seen c q.object ≡ true → is_graph_seen d q.graph ≡ true
    → matches id_order p q ≡ true → passes a b c d p ≡ true
matched a b c d p q s r o g m =
    let first = and_parts (free_or id_order p.subject q.subject) (free_or id_order p.predicate q.predicate && (free_or id_order p.object q.object && in_place id_order p.graph q.graph)) m in
    let second = and_parts (free_or id_order p.predicate q.predicate) (free_or id_order p.object q.object && in_place id_order p.graph q.graph) first.1 in
    let third = and_parts (free_or id_order p.object q.object) (in_place id_order p.graph q.graph) second.1 in
    and_from _ _ (let_through a p.subject q.subject s first.0) (and_from _ _ (let_through b p.predicate q.predicate r second.0)
    (and_from _ _ (let_through c p.object q.object o third.0) (graph_through d p.graph q.graph g third.1)))

-- ---- more slots

-- what is seen in the first slots is seen in the others
abbrev pub Within : List Bool → List Bool → Type 0
Within xs ys = (x : Id) → is_seen xs x ≡ true → is_seen ys x ≡ true

lets_more : (xs ys : List Bool) → Within xs ys → (place : Option Id) → lets xs place ≡ true → lets ys place ≡ true
lets_more xs ys more None e = refl
lets_more xs ys more (Some x) e = more x e

lets_graph_more : (xs ys : List Bool) → ((g : Option Id) → is_graph_seen xs g ≡ true → is_graph_seen ys g ≡ true) → (place : GraphPlace Id) → lets_graph xs place ≡ true → lets_graph ys place ≡ true
lets_graph_more xs ys more Any e = refl
lets_graph_more xs ys more (Only g) e = more g e

pub passes_more : (a b c d a' b' c' d' : List Bool) → Within a a' → Within b b' → Within c c' → ((g : Option Id) → is_graph_seen d g ≡ true → is_graph_seen d' g ≡ true)
    → (p : QuadPattern Id) → passes a b c d p ≡ true → passes a' b' c' d' p ≡ true
passes_more a b c d a' b' c' d' f g h k p e =
    let first = and_parts (lets a p.subject) (lets b p.predicate && (lets c p.object && lets_graph d p.graph)) e in
    let second = and_parts (lets b p.predicate) (lets c p.object && lets_graph d p.graph) first.1 in
    let third = and_parts (lets c p.object) (lets_graph d p.graph) second.1 in
    and_from _ _ (lets_more a a' f p.subject first.0) (and_from _ _ (lets_more b b' g p.predicate second.0)
    (and_from _ _ (lets_more c c' h p.object third.0) (lets_graph_more d d' k p.graph third.1)))
