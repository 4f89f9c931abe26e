-- Instances, one solution after another.
use Rattle.std.specs.Prelude.{filter_map}
use Rattle.std.proofs.Common.{◌≡◌, ℕ, suc, ◌+◌, ◌<◌, List, ◌∷◌, ◌++◌, length, drop, get_or, sym, ap, ◌∙◌, append_assoc, drop-cons, add-one}
use Rattle.datasets.specs.declared.quad.Quad.{Quad}
use Rattle.meaning.specs.Vocabulary.{Vocabulary}
use Rattle.meaning.specs.Mapping.{Mapping}
use Rattle.meaning.specs.Template.{instance_of, instances_from}
use Rattle.algebra.specs.declared.template.QuadTemplate.{QuadTemplate}

module _ {K : Type 0} (V : Vocabulary K) (request op : ℕ) where
  pub instances_more : (ts : List (QuadTemplate K)) (ms : List (Mapping K)) (i rank : ℕ) (m : Mapping K) (now next all : List (Quad K)) → i < length ms → m ≡ get_or ms i m
      → next ≡ now ++ filter_map (instance_of V (λ l. V.made request op l rank) m) ts
      → now ++ instances_from V request op ts rank (drop i ms) ≡ all
      → next ++ instances_from V request op ts (rank + 1) (drop (i + 1) ms) ≡ all
  instances_more ts ms i rank m now next all h is pushed before =
      let split : drop i ms ≡ m ∷ drop (i + 1) ms = rw add-one (drop-cons ms i m h ∙ ap (λ x. x ∷ drop (suc i) ms) (sym is)) in
      ap (λ z. z ++ instances_from V request op ts (rank + 1) (drop (i + 1) ms)) pushed
      ∙ append_assoc now _ _
      ∙ ap (λ z. now ++ instances_from V request op ts rank z) (sym split)
      ∙ before
