-- What a list of quads and a list of names with one more are, as a dataset.
use Rattle.std.specs.Prelude.{Bool, ◌||◌, Option}
use Rattle.std.proofs.Common.{◌≡◌, true, false, List, [], ◌∷◌, ◌++◌, Some, None, refl, sym, ap, ◌∙◌}
use Rattle.std.specs.List.{list_any}
use Rattle.std.specs.List.Sorted.{IsStrictlySortedBy}
use Rattle.std.specs.Option.{option_to_list}
use Rattle.std.specs.declared.cmp.Ordering.{Ordering}
use Rattle.std.specs.declared.cmp.Ordering.TheVariants.{Less, Equal, Greater}
use Rattle.std.specs.Ordering.{eq_by_cmp}
use Rattle.std.specs.Cmp.{IsTotalOrder}
use Rattle.std.proofs.lemmas.List.{append-nil}
use Rattle.std.proofs.lemmas.Bool.{or_right, or_left, or_cases}
use Rattle.std.proofs.Math.Logic.{⊎_elim}
use Rattle.std.proofs.lemmas.List.Folds.{list_any-append}
use Rattle.std.proofs.Math.Bool.{or_self_left}
use Rattle.sets.specs.Sets.{placed, with, set_of, has}
use Rattle.sets.proofs.SetLaws.{has-with, has-set_of, sorted-set_of, sorted-with, same_set, or_swap}
use Rattle.datasets.specs.declared.quad.Quad.{Quad}
use Rattle.datasets.specs.Dataset.{Dataset, IsDataset, quad_order, names_of}
use Rattle.datasets.specs.Id.{quad_exact, quad_total}
use Rattle.terms.specs.declared.term.Term.{Term}
use Rattle.terms.specs.Term.{term_order}
use Rattle.terms.specs.TermLaws.{term_total, term_exact}
use Rattle.terms.specs.DataSet.{is_named, in_named, dataset_of, with_name, with_quad, with_graph}

or_last : (a b : Bool) → (a || (b || false)) ≡ (b || a)
or_last true true = refl
or_last true false = refl
or_last false true = refl
or_last false false = refl

module _ {A : Type 0} {R : A → A → Ordering} (o : IsTotalOrder R) (exact : (x y : A) → R x y ≡ Equal → x ≡ y) where
  -- the set of a list with one more is the set with that one put in
  pub set_of-push : (xs : List A) (x : A) → set_of R (xs ++ x ∷ []) ≡ with R x (set_of R xs)
  set_of-push xs x =
      same_set o exact _ _ (sorted-set_of o (xs ++ x ∷ [])) (sorted-with o x (set_of R xs) (sorted-set_of o xs))
      (λ q. has-set_of o q (xs ++ x ∷ []) ∙ list_any-append (eq_by_cmp R q) xs (x ∷ []) ∙ or_last (has R xs q) (eq_by_cmp R q x)
      ∙ ap (λ b. eq_by_cmp R q x || b) (sym (has-set_of o q xs)) ∙ sym (has-with o q x (set_of R xs)))

  any_placed : (p : A → Bool) (r : Ordering) (x y : A) (ys further : List A) → R x y ≡ r → list_any p further ≡ (p x || list_any p ys)
      → list_any p (placed r x y ys further) ≡ (p x || (p y || list_any p ys))
  any_placed p Less x y ys further e h = refl
  any_placed p Equal x y ys further e h = sym (or_self_left (p y) (list_any p ys)) ∙ ap (λ z. p z || (p y || list_any p ys)) (sym (exact x y e))
  any_placed p Greater x y ys further e h = ap (λ b. p y || b) h ∙ or_swap (p y) (p x) (list_any p ys)

  -- whether a member passes a test
  pub any-with : (p : A → Bool) (x : A) (ys : List A) → list_any p (with R x ys) ≡ (p x || list_any p ys)
  any-with p x [] = refl
  any-with p x (y ∷ ys) = any_placed p (R x y) x y ys (with R x ys) refl (any-with p x ys)

  pub any-set_of : (p : A → Bool) (xs : List A) → list_any p (set_of R xs) ≡ list_any p xs
  any-set_of p [] = refl
  any-set_of p (x ∷ xs) = any-with p x (set_of R xs) ∙ ap (λ b. p x || b) (any-set_of p xs)

any_first : (g : Term) (qs : List (Quad Term)) → has term_order (names_of qs) g ≡ list_any (in_named g) qs → (q : Quad Term) (n : Option Term) → q.graph ≡ n
    → has term_order (names_of (q ∷ qs)) g ≡ (is_named g n || list_any (in_named g) qs)
any_first g qs h q None e = rw e h
any_first g qs h q (Some n) e = rw e (ap (λ b. eq_by_cmp term_order g n || b) h)

pub any_named : (g : Term) (qs : List (Quad Term)) → has term_order (names_of qs) g ≡ list_any (in_named g) qs
any_named g [] = refl
any_named g (q ∷ qs) = any_first g qs (any_named g qs) q q.graph refl

pub quads_total : IsTotalOrder (quad_order term_order)
quads_total = quad_total term_total

pub quads_exact : (a b : Quad Term) → quad_order term_order a b ≡ Equal → a ≡ b
quads_exact = quad_exact term_order term_exact

-- two lists are a dataset if each quad's graph has its name
pub IsDataset-of : (quads : List (Quad Term)) (names : List Term) → ((g : Term) → has term_order (names_of quads) g ≡ true → has term_order names g ≡ true)
    → IsDataset term_order (dataset_of quads names)
IsDataset-of quads names named = record {
  quads = sorted-set_of quads_total quads;
  names = sorted-set_of term_total names;
  named = λ g h. has-set_of term_total g names
      ∙ named g (any_named g quads ∙ sym (any-set_of quads_total quads_exact (in_named g) quads) ∙ sym (any_named g (set_of (quad_order term_order) quads)) ∙ h);
}

-- ---- one more

has-with_name : (n : Option Term) (names : List Term) (g : Term) → has term_order (with_name n names) g ≡ (is_named g n || has term_order names g)
has-with_name None names g = refl
has-with_name (Some n) names g = has-with term_total g n names

sorted-with_name : (n : Option Term) (names : List Term) → IsStrictlySortedBy term_order names → IsStrictlySortedBy term_order (with_name n names)
sorted-with_name None names s = s
sorted-with_name (Some n) names s = sorted-with term_total n names s

pub IsDataset-with_quad : (q : Quad Term) (d : Dataset Term) → IsDataset term_order d → IsDataset term_order (with_quad q d)
IsDataset-with_quad q d is = record {
  quads = sorted-with quads_total q d.quads is.quads;
  names = sorted-with_name q.graph d.names is.names;
  named = λ g h. has-with_name q.graph d.names g
      ∙ ⊎_elim (or_left (is_named g q.graph) (has term_order d.names g)) (λ e. or_right (is_named g q.graph) (has term_order d.names g) (is.named g e)) (or_cases (is_named g q.graph) (has term_order (names_of d.quads) g) (ap (λ b. is_named g q.graph || b) (any_named g d.quads) ∙ sym (any-with quads_total quads_exact (in_named g) q d.quads)
      ∙ sym (any_named g (with (quad_order term_order) q d.quads)) ∙ h));
}

pub IsDataset-with_graph : (g : Term) (d : Dataset Term) → IsDataset term_order d → IsDataset term_order (with_graph g d)
IsDataset-with_graph g d is = record {
  quads = is.quads;
  names = sorted-with term_total g d.names is.names;
  named = λ n h. has-with term_total n g d.names ∙ or_right (eq_by_cmp term_order n g) (has term_order d.names n) (is.named n h);
}

name_pushed : (n : Option Term) (names : List Term) → set_of term_order (names ++ option_to_list n) ≡ with_name n (set_of term_order names)
name_pushed None names = ap (set_of term_order) (append-nil names)
name_pushed (Some n) names = set_of-push term_total term_exact names n

pub quad_pushed : (quads : List (Quad Term)) (names : List Term) (q : Quad Term) → dataset_of (quads ++ q ∷ []) (names ++ option_to_list q.graph) ≡ with_quad q (dataset_of quads names)
quad_pushed quads names q =
    let qs : set_of (quad_order term_order) (quads ++ q ∷ []) ≡ with (quad_order term_order) q (set_of (quad_order term_order) quads) = set_of-push quads_total quads_exact quads q in
    let ns : set_of term_order (names ++ option_to_list q.graph) ≡ with_name q.graph (set_of term_order names) = name_pushed q.graph names in
    λ i. record { quads = qs i; names = ns i }

pub graph_pushed : (quads : List (Quad Term)) (names : List Term) (g : Term) → dataset_of quads (names ++ g ∷ []) ≡ with_graph g (dataset_of quads names)
graph_pushed quads names g =
    let ns : set_of term_order (names ++ g ∷ []) ≡ with term_order g (set_of term_order names) = set_of-push term_total term_exact names g in
    λ i. record { quads = set_of (quad_order term_order) quads; names = ns i }
