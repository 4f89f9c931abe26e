-- Maps by texts, and the places of texts among the first of their kind.
use Rattle.std.specs.Prelude.{ℕ, suc, ◌&&◌, ◌||◌, not, Bool, length, filter, is_some, bytes_eq, slice_get}
use Rattle.std.proofs.Common.{◌≡◌, true, false, cond, List, [], ◌∷◌, Option, Some, None, refl, sym, ap, ◌∙◌, subst}
use Rattle.std.specs.List.{list_any}
use Rattle.std.specs.Option.{option_map}
use Rattle.std.specs.BTreeMap.{insert_entry, is_at}
use Rattle.std.specs.Map.{lookup}
use Rattle.std.specs.declared.cmp.Ordering.{Ordering}
use Rattle.std.specs.declared.cmp.Ordering.TheVariants.{Less, Equal, Greater}
use Rattle.std.specs.Ordering.{is_eq, match_ordering}
use Rattle.std.specs.Cmp.{tied_itself}
use Rattle.std.specs.Cmp.Lexicographic.{bytes_decides}
use Rattle.std.proofs.lemmas.Bool.{false≢true}
use Rattle.terms.specs.Term.{text_cmp}
use Rattle.terms.specs.TermLaws.{text_total, text_exact}
use Rattle.names.specs.Appearance.{distinct}

-- ---- texts that are alike

is_itself : (a b : List ℕ) → a ≡ b → is_eq (text_cmp a b) ≡ true
is_itself a b e = ap (λ (x : List ℕ). is_eq (text_cmp a x)) (sym e) ∙ ap is_eq (tied_itself text_total a)

same_order : (r : Ordering) → is_eq r ≡ true → r ≡ Equal
same_order Less e = absurd (false≢true e)
same_order Equal e = refl
same_order Greater e = absurd (false≢true e)

-- equal bytes are equal in the order of texts
alike : (a b : List ℕ) → is_eq (text_cmp a b) ≡ bytes_eq a b
alike a b = by (bytes_eq a b) refl (is_eq (text_cmp a b)) refl
  where
    by : (v : Bool) → bytes_eq a b ≡ v → (w : Bool) → is_eq (text_cmp a b) ≡ w → w ≡ v
    by true e true f = refl
    by true e false f = sym f ∙ is_itself a b ((bytes_decides a b).0 e)
    by false e true f = sym ((bytes_decides a b).1 (text_exact a b (same_order (text_cmp a b) f))) ∙ e
    by false e false f = refl

pub turned : (a b : List ℕ) → bytes_eq a b ≡ bytes_eq b a
turned a b = by (bytes_eq a b) refl (bytes_eq b a) refl
  where
    by : (v : Bool) → bytes_eq a b ≡ v → (w : Bool) → bytes_eq b a ≡ w → v ≡ w
    by true e true f = refl
    by true e false f = sym ((bytes_decides b a).1 (sym ((bytes_decides a b).0 e))) ∙ f
    by false e true f = sym e ∙ (bytes_decides a b).1 (sym ((bytes_decides b a).0 f))
    by false e false f = refl

-- ---- maps by texts

not_tied : (r : Ordering) (a b : List ℕ) → text_cmp a b ≡ r → is_eq r ≡ false → (q : List ℕ) → bytes_eq q b ≡ true → bytes_eq q a ≡ true → ⊥
not_tied r a b is apart q first second =
    false≢true (sym apart ∙ ap is_eq (sym is) ∙ is_itself a b (sym ((bytes_decides q a).0 second) ∙ (bytes_decides q b).0 first))

module _ {X : Type 0} where
  abbrev pub found : List ℕ → List (List ℕ × X) → Option X
  found q [] = None
  found q (e ∷ es) = cond (bytes_eq q e.0) (Some e.1) (found q es)

  pub is_found : (q : List ℕ) (es : List (List ℕ × X)) → lookup (is_at (text_cmp q)) es ≡ found q es
  is_found q [] = refl
  is_found q (e ∷ es) = ap (λ b. cond b (Some e.1) (lookup (is_at (text_cmp q)) es)) (alike q e.0) ∙ ap (cond (bytes_eq q e.0) (Some e.1)) (is_found q es)

  over : (b : Bool) (v w : X) (o : Option X) → cond b (Some v) o ≡ cond b (Some v) (cond b (Some w) o)
  over true v w o = refl
  over false v w o = refl

  aside : (b c : Bool) (v w : X) (o : Option X) → (b ≡ true → c ≡ true → ⊥) → cond b (Some w) (cond c (Some v) o) ≡ cond c (Some v) (cond b (Some w) o)
  aside true true v w o apart = absurd (apart refl refl)
  aside true false v w o apart = refl
  aside false c v w o apart = refl

  -- what is found after one more
  pub found_after : (es : List (List ℕ × X)) (k : List ℕ) (v : X) (q : List ℕ) → found q (insert_entry text_cmp es k v) ≡ cond (bytes_eq q k) (Some v) (found q es)
  found_after [] k v q = refl
  found_after (e ∷ es) k v q = at (found_after es k v q) (text_cmp k e.0) refl
    where
      at : found q (insert_entry text_cmp es k v) ≡ cond (bytes_eq q k) (Some v) (found q es) → (r : Ordering) → text_cmp k e.0 ≡ r
          → found q (match_ordering r ((k, v) ∷ e ∷ es) ((e.0, v) ∷ es) (e ∷ insert_entry text_cmp es k v)) ≡ cond (bytes_eq q k) (Some v) (found q (e ∷ es))
      at later Less is = refl
      at later Equal is =
          over (bytes_eq q e.0) v e.1 (found q es)
          ∙ ap (λ (x : List ℕ). cond (bytes_eq q x) (Some v) (cond (bytes_eq q e.0) (Some e.1) (found q es))) (sym (text_exact k e.0 is))
      at later Greater is =
          ap (cond (bytes_eq q e.0) (Some e.1)) later
          ∙ aside (bytes_eq q e.0) (bytes_eq q k) v e.1 (found q es) (not_tied Greater k e.0 is refl q)

  -- what isn't there makes it longer by one
  pub longer : (es : List (List ℕ × X)) (k : List ℕ) (v : X) → is_some (found k es) ≡ false → length (insert_entry text_cmp es k v) ≡ suc (length es)
  longer [] k v new = refl
  longer (e ∷ es) k v new = at (longer es k v) (text_cmp k e.0) refl
    where
      none : (b : Bool) (o : Option X) → is_some (cond b (Some e.1) o) ≡ false → (b ≡ false) × (is_some o ≡ false)
      none true o h = absurd (false≢true (sym h))
      none false o h = (refl, h)

      at : (is_some (found k es) ≡ false → length (insert_entry text_cmp es k v) ≡ suc (length es)) → (r : Ordering) → text_cmp k e.0 ≡ r
          → length (match_ordering r ((k, v) ∷ e ∷ es) ((e.0, v) ∷ es) (e ∷ insert_entry text_cmp es k v)) ≡ suc (suc (length es))
      at later Less is = refl
      at later Equal is = absurd (false≢true (sym (none (bytes_eq k e.0) (found k es) new).0 ∙ (bytes_decides k e.0).1 (text_exact k e.0 is)))
      at later Greater is = ap suc (later (none (bytes_eq k e.0) (found k es) new).1)

-- ---- places in a list

abbrev pub place : List ℕ → List (List ℕ) → Option ℕ
place l [] = None
place l (m ∷ ms) = cond (bytes_eq l m) (Some 0) (option_map suc (place l ms))

pub place_is : (l : List ℕ) (ms : List (List ℕ)) (n : ℕ) → place l ms ≡ Some n → slice_get ms n ≡ Some l
place_is l [] n e = absurd cc
place_is l (m ∷ ms) n e = at (place_is l ms) (bytes_eq l m) refl (place l ms) refl e
  where
    at : ((i : ℕ) → place l ms ≡ Some i → slice_get ms i ≡ Some l) → (b : Bool) → bytes_eq l m ≡ b → (o : Option ℕ) → place l ms ≡ o → cond b (Some 0) (option_map suc o) ≡ Some n → slice_get (m ∷ ms) n ≡ Some l
    at later true same o is e =
        let first : 0 ≡ n = cc in
        subst (λ (i : ℕ). slice_get (m ∷ ms) i ≡ Some l) first (ap Some (sym ((bytes_decides l m).0 same)))
    at later false same None is e = absurd cc
    at later false same (Some i) is e =
        let next : suc i ≡ n = cc in
        subst (λ (k : ℕ). slice_get (m ∷ ms) k ≡ Some l) next (later i is)

keeps_place : (p : List ℕ → Bool) (l : List ℕ) → p l ≡ true → (ms : List (List ℕ)) → is_some (place l ms) ≡ true → is_some (place l (filter p ms)) ≡ true
keeps_place p l kept [] h = absurd (false≢true h)
keeps_place p l kept (m ∷ ms) h = at (keeps_place p l kept ms) (bytes_eq l m) refl (p m) refl (place l ms) refl h
  where
    some : (b : Bool) (o : Option ℕ) → is_some o ≡ true → is_some (cond b (Some 0) (option_map suc o)) ≡ true
    some true o h = refl
    some false None h = h
    some false (Some i) h = refl

    at : (is_some (place l ms) ≡ true → is_some (place l (filter p ms)) ≡ true) → (b : Bool) → bytes_eq l m ≡ b → (c : Bool) → p m ≡ c → (o : Option ℕ) → place l ms ≡ o → is_some (cond b (Some 0) (option_map suc o)) ≡ true
        → is_some (place l (cond c (m ∷ filter p ms) (filter p ms))) ≡ true
    at later true same true keep o is h = ap (λ b. is_some (cond b (Some 0) (option_map suc (place l (filter p ms))))) same
    at later true same false keep o is h = absurd (false≢true (sym keep ∙ ap p (sym ((bytes_decides l m).0 same)) ∙ kept))
    at later false same c keep None is h = absurd (false≢true h)
    at later false same true keep (Some i) is h = some (bytes_eq l m) (place l (filter p ms)) (later (ap is_some is))
    at later false same false keep (Some i) is h = later (ap is_some is)

pub has_place : (l : List ℕ) (ms : List (List ℕ)) → list_any (bytes_eq l) ms ≡ true → is_some (place l (distinct ms)) ≡ true
has_place l [] h = absurd (false≢true h)
has_place l (m ∷ ms) h = at (has_place l ms) (bytes_eq l m) refl h
  where
    some : (o : Option ℕ) → is_some o ≡ true → is_some (option_map suc o) ≡ true
    some None h = h
    some (Some i) h = refl

    at : (list_any (bytes_eq l) ms ≡ true → is_some (place l (distinct ms)) ≡ true) → (b : Bool) → bytes_eq l m ≡ b → (b || list_any (bytes_eq l) ms) ≡ true
        → is_some (cond b (Some 0) (option_map suc (place l (filter (λ u. not (bytes_eq m u)) (distinct ms))))) ≡ true
    at later true same h = refl
    at later false same h =
        some (place l (filter (λ u. not (bytes_eq m u)) (distinct ms))) (keeps_place (λ u. not (bytes_eq m u)) l (ap not (turned m l ∙ same)) (distinct ms) (later h))

-- ---- filters

pub filter_twice : (p q r : List ℕ → Bool) → ((u : List ℕ) → (q u && p u) ≡ r u) → (ms : List (List ℕ)) → filter p (filter q ms) ≡ filter r ms
filter_twice p q r both [] = refl
filter_twice p q r both (m ∷ ms) = at (filter_twice p q r both ms) (q m) refl (p m) refl
  where
    at : filter p (filter q ms) ≡ filter r ms → (b : Bool) → q m ≡ b → (c : Bool) → p m ≡ c → filter p (cond b (m ∷ filter q ms) (filter q ms)) ≡ filter r (m ∷ ms)
    at rest true x true y =
        ap (λ c. cond c (m ∷ filter p (filter q ms)) (filter p (filter q ms))) y ∙ ap (λ (zs : List (List ℕ)). m ∷ zs) rest
        ∙ ap (λ c. cond c (m ∷ filter r ms) (filter r ms)) (ap (λ c. true && c) (sym y) ∙ ap (λ b. b && p m) (sym x) ∙ both m)
    at rest true x false y =
        ap (λ c. cond c (m ∷ filter p (filter q ms)) (filter p (filter q ms))) y ∙ rest
        ∙ ap (λ c. cond c (m ∷ filter r ms) (filter r ms)) (ap (λ c. true && c) (sym y) ∙ ap (λ b. b && p m) (sym x) ∙ both m)
    at rest false x c y = rest ∙ ap (λ c. cond c (m ∷ filter r ms) (filter r ms)) (ap (λ b. b && p m) (sym x) ∙ both m)
