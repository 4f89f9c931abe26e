-- A renaming carries sets, quads and graph names along.
use Rattle.std.proofs.Common.{◌≡◌, Bool, true, ◌&&◌, List, [], ◌∷◌, ◌++◌, Option, Some, None, map, refl, sym, ap, ◌∙◌}
use Rattle.std.specs.Prelude.{◌||◌, not}
use Rattle.std.specs.List.{list_all, cons_option}
use Rattle.std.specs.Option.{option_map, option_cmp}
use Rattle.std.specs.declared.cmp.Ordering.{Ordering}
use Rattle.std.specs.declared.cmp.Ordering.TheVariants.{Less, Equal, Greater}
use Rattle.std.specs.Ordering.{is_eq, ordering_then}
use Rattle.std.proofs.lemmas.Bool.{and_parts, and_from}
use Rattle.std.proofs.lemmas.List.{map-append}
use Rattle.sets.specs.Sets.{placed, with, set_of, has, union, without}
use Rattle.sets.proofs.Filters.{each_joined}
use Rattle.datasets.specs.declared.quad.Quad.{Quad}
use Rattle.datasets.specs.Dataset.{quad_order, same_graph, quads_in, graph_name, names_of}
use Rattle.meaning_laws.specs.Renaming.{renamed_quad, option_known, quad_known}
use Rattle.meaning_laws.proofs.RenamedLists.{map-cons, map-filter, all-filter_map}

module _ {A B : Type 0} (R : A → A → Ordering) (S : B → B → Ordering) (f : A → B) (k : A → Bool)
    (o : (x y : A) → k x ≡ true → k y ≡ true → S (f x) (f y) ≡ R x y) where
  -- ---- sets

  pub map-placed : (r : Ordering) (x y : A) (ys further : List A)
      → map f (placed r x y ys further) ≡ placed r (f x) (f y) (map f ys) (map f further)
  map-placed Less x y ys further = refl
  map-placed Equal x y ys further = refl
  map-placed Greater x y ys further = refl

  pub all-placed : (r : Ordering) (x y : A) (ys further : List A) → k x ≡ true → k y ≡ true → list_all k ys ≡ true → list_all k further ≡ true
      → list_all k (placed r x y ys further) ≡ true
  all-placed Less x y ys further hx hy hs hf = and_from (k x) (k y && list_all k ys) hx (and_from (k y) (list_all k ys) hy hs)
  all-placed Equal x y ys further hx hy hs hf = and_from (k y) (list_all k ys) hy hs
  all-placed Greater x y ys further hx hy hs hf = and_from (k y) (list_all k further) hy hf

  pub all-with : (x : A) (ys : List A) → k x ≡ true → list_all k ys ≡ true → list_all k (with R x ys) ≡ true
  all-with x [] hx h = and_from (k x) true hx refl
  all-with x (y ∷ ys) hx h =
      let parts = and_parts (k y) (list_all k ys) h in
      all-placed (R x y) x y ys (with R x ys) hx parts.0 parts.1 (all-with x ys hx parts.1)

  pub map-with : (x : A) (ys : List A) → k x ≡ true → list_all k ys ≡ true → map f (with R x ys) ≡ with S (f x) (map f ys)
  map-with x [] hx h = refl
  map-with x (y ∷ ys) hx h =
      let parts = and_parts (k y) (list_all k ys) h in
      map-placed (R x y) x y ys (with R x ys)
      ∙ (λ i. placed (sym (o x y hx parts.0) i) (f x) (f y) (map f ys) (map-with x ys hx parts.1 i))

  pub all-set_of : (xs : List A) → list_all k xs ≡ true → list_all k (set_of R xs) ≡ true
  all-set_of [] h = refl
  all-set_of (x ∷ xs) h =
      let parts = and_parts (k x) (list_all k xs) h in
      all-with x (set_of R xs) parts.0 (all-set_of xs parts.1)

  pub map-set_of : (xs : List A) → list_all k xs ≡ true → map f (set_of R xs) ≡ set_of S (map f xs)
  map-set_of [] h = refl
  map-set_of (x ∷ xs) h =
      let parts = and_parts (k x) (list_all k xs) h in
      map-with x (set_of R xs) parts.0 (all-set_of xs parts.1) ∙ ap (with S (f x)) (map-set_of xs parts.1)

  pub map-union : (xs ys : List A) → list_all k xs ≡ true → list_all k ys ≡ true → map f (union R xs ys) ≡ union S (map f xs) (map f ys)
  map-union xs ys h h' = map-set_of (xs ++ ys) (each_joined k xs ys h h') ∙ ap (set_of S) (map-append f xs ys)

  pub all-union : (xs ys : List A) → list_all k xs ≡ true → list_all k ys ≡ true → list_all k (union R xs ys) ≡ true
  all-union xs ys h h' = all-set_of (xs ++ ys) (each_joined k xs ys h h')

  pub has-map : (xs : List A) (x : A) → list_all k xs ≡ true → k x ≡ true → has S (map f xs) (f x) ≡ has R xs x
  has-map [] x h hx = refl
  has-map (y ∷ ys) x h hx =
      let parts = and_parts (k y) (list_all k ys) h in
      (λ i. is_eq (o x y hx parts.0 i) || has-map ys x parts.1 hx i)

  pub map-without : (xs ys : List A) → list_all k xs ≡ true → list_all k ys ≡ true → map f (without R xs ys) ≡ without S (map f xs) (map f ys)
  map-without xs ys h h' = map-filter f k (λ x. not (has R ys x)) (λ x. not (has S (map f ys) x)) (λ x hx i. not (has-map ys x h' hx i)) xs h

  pub option-order : (x y : Option A) → option_known k x ≡ true → option_known k y ≡ true
      → option_cmp S (option_map f x) (option_map f y) ≡ option_cmp R x y
  option-order None None h h' = refl
  option-order None (Some y) h h' = refl
  option-order (Some x) None h h' = refl
  option-order (Some x) (Some y) h h' = o x y h h'

  -- ---- quads

  -- a quad's terms are known
  pub record Known (q : Quad A) : Type 0 where
    pub subject : k q.subject ≡ true
    pub predicate : k q.predicate ≡ true
    pub object : k q.object ≡ true
    pub graph : option_known k q.graph ≡ true

  pub parts_of : (q : Quad A) → quad_known k q ≡ true → Known q
  parts_of q h =
      let a = and_parts (k q.subject) (k q.predicate && (k q.object && option_known k q.graph)) h in
      let b = and_parts (k q.predicate) (k q.object && option_known k q.graph) a.1 in
      let c = and_parts (k q.object) (option_known k q.graph) b.1 in
      record { subject = a.0; predicate = b.0; object = c.0; graph = c.1 }

  pub quad-order : (a b : Quad A) → quad_known k a ≡ true → quad_known k b ≡ true
      → quad_order S (renamed_quad f a) (renamed_quad f b) ≡ quad_order R a b
  quad-order a b h h' =
      let u = parts_of a h in
      let v = parts_of b h' in
      (λ i. ordering_then (o a.subject b.subject u.subject v.subject i)
      (ordering_then (o a.predicate b.predicate u.predicate v.predicate i)
      (ordering_then (o a.object b.object u.object v.object i) (option-order a.graph b.graph u.graph v.graph i))))

  pub map-quads_in : (g : Option A) (qs : List (Quad A)) → option_known k g ≡ true → list_all (quad_known k) qs ≡ true
      → map (renamed_quad f) (quads_in R g qs) ≡ quads_in S (option_map f g) (map (renamed_quad f) qs)
  map-quads_in g qs hg h =
      map-filter (renamed_quad f) (quad_known k) (λ q. same_graph R q.graph g) (λ q. same_graph S q.graph (option_map f g))
      (λ q hq i. is_eq (option-order q.graph g (parts_of q hq).graph hg i)) qs h

  pub map-names_of : (qs : List (Quad A)) → map f (names_of qs) ≡ names_of (map (renamed_quad f) qs)
  map-names_of [] = refl
  map-names_of (q ∷ qs) = map-cons f q.graph (names_of qs) ∙ ap (cons_option (option_map f q.graph)) (map-names_of qs)

  pub all-names_of : (qs : List (Quad A)) → list_all (quad_known k) qs ≡ true → list_all k (names_of qs) ≡ true
  all-names_of qs h = all-filter_map (quad_known k) k graph_name (λ q hq. (parts_of q hq).graph) qs h
