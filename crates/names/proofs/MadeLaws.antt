-- IRIs that are kept, and one more.
use Rattle.std.specs.Prelude.{ℕ, Option, IfSome}
use Rattle.std.proofs.Common.{◌≡◌, cond, List, Some, refl, sym, ap, ◌∙◌, subst}
use Rattle.std.specs.BTreeMap.{BTreeMap, get, is_at, Updates}
use Rattle.std.specs.declared.cmp.Ordering.{Ordering}
use Rattle.std.specs.declared.cmp.Ordering.TheVariants.{Less, Equal, Greater}
use Rattle.std.specs.Ordering.{is_eq}
use Rattle.std.proofs.lemmas.Map.Lookups.{exact_pairs}
use Rattle.terms.specs.Term.{text_cmp}
use Rattle.terms.specs.TermLaws.{text_exact}
use Rattle.syntax_trees.specs.declared.tree.Name.TheVariants as name
use Rattle.names.specs.Names.{Prefixes, iri_of}
use Rattle.names.specs.Made.{AreThemselves, AreOfNames, name_cmp}

module _ {K V : Type 0} (cmp : K → K → Ordering) (exact : (a b : K) → cmp a b ≡ Equal → a ≡ b) (P : K → V → Type 0) where
  here_or_before : (r : Ordering) (k q : K) (v : V) (before : Option V) → cmp k q ≡ r → P k v → IfSome before (P q) → IfSome (cond (is_eq r) (Some v) before) (P q)
  here_or_before Less k q v before e p h = h
  here_or_before Equal k q v before e p h = subst (λ x. P x v) (exact k q e) p
  here_or_before Greater k q v before e p h = h

  -- what holds of each value at its key holds after one more
  pub each_more : (old new : BTreeMap K V) (k : K) (v : V) → ((q : K) → get cmp new q ≡ cond (is_at (cmp k) q) (Some v) (get cmp old q))
      → P k v → ((q : K) → IfSome (get cmp old q) (P q)) → (q : K) → IfSome (get cmp new q) (P q)
  each_more old new k v is p all q = subst (λ o. IfSome o (P q)) (sym (is q)) (here_or_before (cmp k q) k q v (get cmp old q) refl p (all q))

pub whole_more : (old new : BTreeMap (List ℕ) (List ℕ)) (k v : List ℕ) → Updates text_cmp old new k (Some v) → v ≡ k → AreThemselves old → AreThemselves new
whole_more old new k v u e all = each_more text_cmp text_exact (λ q iri. iri ≡ q) old new k v u.0 e all

pub names_more : (ds : Prefixes) (old new : BTreeMap (List ℕ × List ℕ) (List ℕ)) (k : List ℕ × List ℕ) (v : List ℕ) → Updates name_cmp old new k (Some v)
    → iri_of ds (name.Prefixed k.0 k.1) ≡ Some v → AreOfNames ds old → AreOfNames ds new
names_more ds old new k v u e all =
    each_more name_cmp (exact_pairs text_cmp text_cmp text_exact text_exact) (λ n iri. iri_of ds (name.Prefixed n.0 n.1) ≡ Some iri) old new k v u.0 e all

-- an IRI that is kept is that of its name
pub kept_name : (ds entries : Prefixes) (made : BTreeMap (List ℕ × List ℕ) (List ℕ)) (prefix local iri copy : List ℕ) → AreOfNames entries made → entries ≡ ds
    → Some iri ≡ get name_cmp made (prefix, local) → copy ≡ iri → Some copy ≡ iri_of ds (name.Prefixed prefix local)
kept_name ds entries made prefix local iri copy all is e same =
    ap Some same ∙ sym (subst (λ o. IfSome o (λ i. iri_of entries (name.Prefixed prefix local) ≡ Some i)) (sym e) (all (prefix, local)))
    ∙ ap (λ xs. iri_of xs (name.Prefixed prefix local)) is
