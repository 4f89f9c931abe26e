-- Places of numbers.
use Rattle.std.specs.Prelude.{map, slice_index_or}
use Rattle.std.proofs.Common.{◌≡◌, ℕ, zero, suc, Bool, ◌<◌, true, List, [], ◌∷◌, ◌++◌, length, Option, Some, None, refl, sym, ap, ◌∙◌, subst, ◌+◌, take, add-one, append_assoc, arith}
use Rattle.std.specs.List.{list_all}
use Rattle.std.specs.Option.{option_map}
use Rattle.std.proofs.lemmas.Bool.{and_parts, and_from}
use Rattle.std.proofs.lemmas.List.{map-append, append-nil}
use Rattle.std.proofs.lemmas.List.Concat.{flat_map-append}
use Rattle.std.proofs.lemmas.List.Folds.{list_all-append}
use Rattle.std.proofs.Math.Seq.{take-suc}
use Rattle.sets.proofs.Filters.{each_joined}
use Rattle.terms.specs.declared.term.Term.{Term}
use Rattle.terms.specs.Placed.{term_at, quad_at, is_within, is_name_within, is_quad_within, GoesOn, TermsKeepPlaces}
use Rattle.datasets.specs.declared.id.Id.{Id}
use Rattle.datasets.specs.declared.id.Id.TheVariants.{Known, Made}
use Rattle.datasets.specs.declared.quad.Quad.{Quad}
use Rattle.dict.specs.Dictionary.{term_of, is_known}
use Rattle.meaning_laws.specs.Renaming.{renamed_quad, quad_known, option_known}
use Rattle.quad_lists.specs.Known.{known_graph, quad_of}
use Rattle.quad_lists.specs.declared.known.KnownQuad.{KnownQuad}
use Rattle.quad_sets.specs.Pieces.{quads_in_pieces}
use Rattle.numbering.specs.Tables.{StandFor, NamesStandFor, places_of}

-- ---- lists of terms that go on

pub further : (a b c : List Term) → GoesOn a b → GoesOn b c → GoesOn a c
further a b c g h = (g.0 ++ h.0, h.1 ∙ ap (λ xs. xs ++ h.0) g.1 ∙ append_assoc a g.0 h.0)

pub known_parts : (terms : List Term) (q : Quad Id) → quad_known (is_known terms) q ≡ true
    → (is_known terms q.subject ≡ true) × (is_known terms q.predicate ≡ true) × (is_known terms q.object ≡ true) × (option_known (is_known terms) q.graph ≡ true)
known_parts terms q h =
    let s = and_parts (is_known terms q.subject) _ h in
    let p = and_parts (is_known terms q.predicate) _ s.1 in
    let o = and_parts (is_known terms q.object) _ p.1 in
    (s.0, p.0, o.0, o.1)

module _ (keep : TermsKeepPlaces) (old new : List Term) (on : GoesOn old new) where
  kept_names : (names : List ℕ) → list_all (is_within old) names ≡ true → (map (term_at new) names ≡ map (term_at old) names) × (list_all (is_within new) names ≡ true)
  kept_names [] h = (refl, refl)
  kept_names (n ∷ ns) h =
      let parts = and_parts (is_within old n) _ h in
      let first = keep old new on n parts.0 in
      let rest = kept_names ns parts.1 in
      ((λ i. first.0 i ∷ rest.0 i), and_from (is_within new n) _ first.1 rest.1)

  -- a dictionary's number stays one, of the same term
  pub known_kept : (id : Id) → is_known old id ≡ true → (term_of new id ≡ term_of old id) × (is_known new id ≡ true)
  known_kept (Known n) h = keep old new on n h
  known_kept (Made r o l s) h = (refl, refl)

  pub known_name_kept : (name : Option Id) → option_known (is_known old) name ≡ true → (option_map (term_of new) name ≡ option_map (term_of old) name) × (option_known (is_known new) name ≡ true)
  known_name_kept None h = (refl, refl)
  known_name_kept (Some id) h = let kept = known_kept id h in (ap Some kept.0, kept.1)

  pub known_quad_kept : (q : Quad Id) → quad_known (is_known old) q ≡ true → (renamed_quad (term_of new) q ≡ renamed_quad (term_of old) q) × (quad_known (is_known new) q ≡ true)
  known_quad_kept q h =
      let parts = known_parts old q h in
      let s = known_kept q.subject parts.0 in
      let p = known_kept q.predicate parts.1 in
      let o = known_kept q.object parts.2 in
      let g = known_name_kept q.graph parts.3 in (
        (λ i. record { subject = s.0 i; predicate = p.0 i; object = o.0 i; graph = g.0 i }),
        and_from (is_known new q.subject) _ s.1 (and_from (is_known new q.predicate) _ p.1 (and_from (is_known new q.object) _ o.1 g.1)),
      )

  pub known_names_kept : (names : List Id) → list_all (is_known old) names ≡ true → (map (term_of new) names ≡ map (term_of old) names) × (list_all (is_known new) names ≡ true)
  known_names_kept [] h = (refl, refl)
  known_names_kept (n ∷ ns) h =
      let parts = and_parts (is_known old n) _ h in
      let first = known_kept n parts.0 in
      let rest = known_names_kept ns parts.1 in
      ((λ i. first.0 i ∷ rest.0 i), and_from (is_known new n) _ first.1 rest.1)

  pub kept_name : (n : Option ℕ) → is_name_within old n ≡ true → (option_map (term_at new) n ≡ option_map (term_at old) n) × (is_name_within new n ≡ true)
  kept_name None h = (refl, refl)
  kept_name (Some p) h = let kept = keep old new on p h in (ap Some kept.0, kept.1)

  kept_quad : (q : Quad ℕ) → is_quad_within old q ≡ true → (quad_at new q ≡ quad_at old q) × (is_quad_within new q ≡ true)
  kept_quad q h =
      let s = and_parts (is_within old q.subject) _ h in
      let p = and_parts (is_within old q.predicate) _ s.1 in
      let o = and_parts (is_within old q.object) _ p.1 in
      let ks = keep old new on q.subject s.0 in
      let kp = keep old new on q.predicate p.0 in
      let ko = keep old new on q.object o.0 in
      let kg = kept_name q.graph o.1 in (
        (λ i. record { subject = ks.0 i; predicate = kp.0 i; object = ko.0 i; graph = kg.0 i }),
        and_from (is_within new q.subject) _ ks.1 (and_from (is_within new q.predicate) _ kp.1 (and_from (is_within new q.object) _ ko.1 kg.1)),
      )

  kept_quads : (quads : List (Quad ℕ)) → list_all (is_quad_within old) quads ≡ true → (map (quad_at new) quads ≡ map (quad_at old) quads) × (list_all (is_quad_within new) quads ≡ true)
  kept_quads [] h = (refl, refl)
  kept_quads (q ∷ qs) h =
      let parts = and_parts (is_quad_within old q) _ h in
      let first = kept_quad q parts.0 in
      let rest = kept_quads qs parts.1 in
      ((λ i. first.0 i ∷ rest.0 i), and_from (is_quad_within new q) _ first.1 rest.1)

  pub stand_kept : (dict : List Term) (placed : List (Quad ℕ)) (quads : List (Quad Id)) → StandFor dict old placed quads → StandFor dict new placed quads
  stand_kept dict placed quads s = let kept = kept_quads placed s.within in record { each = kept.0 ∙ s.each; within = kept.1 }

  pub names_kept : (dict : List Term) (placed : List ℕ) (names : List Id) → NamesStandFor dict old placed names → NamesStandFor dict new placed names
  names_kept dict placed names s = let kept = kept_names placed s.within in record { each = kept.0 ∙ s.each; within = kept.1 }

-- four places found one after another
pub four_places : (keep : TermsKeepPlaces) (a b c d e : List Term) → GoesOn a b → GoesOn b c → GoesOn c d → GoesOn d e → (q : Quad ℕ) (t : Quad Term)
    → term_at b q.subject ≡ t.subject → is_within b q.subject ≡ true
    → term_at c q.predicate ≡ t.predicate → is_within c q.predicate ≡ true
    → term_at d q.object ≡ t.object → is_within d q.object ≡ true
    → option_map (term_at e) q.graph ≡ t.graph → is_name_within e q.graph ≡ true
    → (quad_at e q ≡ t) × (is_quad_within e q ≡ true)
four_places keep a b c d e ab bc cd de q t ts ws tp wp to wo tg wg =
    let ce = further c d e cd de in
    let be = further b c e bc ce in
    let ks = keep b e be q.subject ws in
    let kp = keep c e ce q.predicate wp in
    let ko = keep d e de q.object wo in (
      (λ i. record { subject = (ks.0 ∙ ts) i; predicate = (kp.0 ∙ tp) i; object = (ko.0 ∙ to) i; graph = tg i }),
      and_from (is_within e q.subject) _ ks.1 (and_from (is_within e q.predicate) _ kp.1 (and_from (is_within e q.object) _ ko.1 wg)),
    )

-- the places of a quad's terms, each put in behind those before it
pub quad_placed : (keep : TermsKeepPlaces) (a b c d e : List Term) → GoesOn a b → GoesOn b c → GoesOn c d → GoesOn d e → (q : Quad ℕ) (quad : Quad Id)
    → quad_known (is_known a) quad ≡ true
    → term_at b q.subject ≡ term_of a quad.subject → is_within b q.subject ≡ true
    → term_at c q.predicate ≡ term_of b quad.predicate → is_within c q.predicate ≡ true
    → term_at d q.object ≡ term_of c quad.object → is_within d q.object ≡ true
    → option_map (term_at e) q.graph ≡ option_map (term_of d) quad.graph → is_name_within e q.graph ≡ true
    → (quad_at e q ≡ renamed_quad (term_of a) quad) × (is_quad_within e q ≡ true)
quad_placed keep a b c d e ab bc cd de q quad h ts ws tp wp to wo tg wg =
    let known = known_parts a quad h in
    let ac = further a b c ab bc in
    let ad = further a c d ac cd in
    four_places keep a b c d e ab bc cd de q (renamed_quad (term_of a) quad) ts ws
    (tp ∙ (known_kept keep a b ab quad.predicate known.1).0) wp
    (to ∙ (known_kept keep a c ac quad.object known.2).0) wo
    (tg ∙ (known_name_kept keep a d ad quad.graph known.3).0) wg

-- one more
pub stand_more : (keep : TermsKeepPlaces) (dict old new : List Term) → GoesOn old new → (placed after : List (Quad ℕ)) (done : List (Quad Id)) (q : Quad ℕ) (quad : Quad Id)
    → after ≡ placed ++ q ∷ [] → quad_at new q ≡ renamed_quad (term_of dict) quad → is_quad_within new q ≡ true
    → StandFor dict old placed done → StandFor dict new after (done ++ quad ∷ [])
stand_more keep dict old new on placed after done q quad made is in_new s =
    let kept = stand_kept keep old new on dict placed done s in
    record {
      each = ap (map (quad_at new)) made ∙ map-append (quad_at new) placed (q ∷ [])
          ∙ (λ i. kept.each i ++ is i ∷ []) ∙ sym (map-append (renamed_quad (term_of dict)) done (quad ∷ []));
      within = ap (list_all (is_quad_within new)) made ∙ each_joined (is_quad_within new) placed (q ∷ []) kept.within (and_from (is_quad_within new q) true in_new refl);
    }

pub name_more : (keep : TermsKeepPlaces) (dict old new : List Term) → GoesOn old new → (placed after : List ℕ) (done : List Id) (p : ℕ) (name : Id)
    → after ≡ placed ++ p ∷ [] → term_at new p ≡ term_of dict name → is_within new p ≡ true
    → NamesStandFor dict old placed done → NamesStandFor dict new after (done ++ name ∷ [])
name_more keep dict old new on placed after done p name made is in_new s =
    let kept = names_kept keep old new on dict placed done s in
    record {
      each = ap (map (term_at new)) made ∙ map-append (term_at new) placed (p ∷ [])
          ∙ (λ i. kept.each i ++ is i ∷ []) ∙ sym (map-append (term_of dict) done (name ∷ []));
      within = ap (list_all (is_within new)) made ∙ each_joined (is_within new) placed (p ∷ []) kept.within (and_from (is_within new p) true in_new refl);
    }

-- ---- loops over a list

-- what stands behind the end of a list of quads
abbrev pub no_quad : Quad Id
no_quad = record { subject = Known 0; predicate = Known 0; object = Known 0; graph = None }

pub loop_next : {A : Type 0} (P : List A → Type 0) (xs : List A) (i : ℕ) (d : A) → i < length xs → P (take i xs ++ slice_index_or xs i d ∷ []) → P (take (i + 1) xs)
loop_next P xs i d lt h = rw add-one (subst P (sym (take-suc xs i d lt)) h)

pub loop_item : {A : Type 0} (P : List A → Type 0) (xs : List A) (i : ℕ) (x : A) → i < length xs → x ≡ slice_index_or xs i x → P (take i xs ++ x ∷ []) → P (take (i + 1) xs)
loop_item P xs i x lt is h = loop_next P xs i x lt (subst (λ y. P (take i xs ++ y ∷ [])) is h)

-- ---- quads of known terms

name_stands : (terms : List Term) (name : Option ℕ) → option_known (is_known terms) (known_graph name) ≡ true
    → (option_map (term_at terms) name ≡ option_map (term_of terms) (known_graph name)) × (is_name_within terms name ≡ true)
name_stands terms None h = (refl, refl)
name_stands terms (Some n) h = (refl, h)

quad_stands : (terms : List Term) (q : KnownQuad) → quad_known (is_known terms) (quad_of q) ≡ true
    → (quad_at terms (places_of q) ≡ renamed_quad (term_of terms) (quad_of q)) × (is_quad_within terms (places_of q) ≡ true)
quad_stands terms q h =
    let parts = known_parts terms (quad_of q) h in
    let name = name_stands terms q.graph parts.3 in (
      (λ i. record { subject = term_at terms q.subject; predicate = term_at terms q.predicate; object = term_at terms q.object; graph = name.0 i }),
      and_from (is_within terms q.subject) _ parts.0 (and_from (is_within terms q.predicate) _ parts.1 (and_from (is_within terms q.object) _ parts.2 name.1)),
    )

-- the number of a known term is its place
pub known_stand : (terms : List Term) (quads : List KnownQuad) → list_all (quad_known (is_known terms)) (map quad_of quads) ≡ true
    → StandFor terms terms (map places_of quads) (map quad_of quads)
known_stand terms [] h = record { each = refl; within = refl }
known_stand terms (q ∷ qs) h =
    let parts = and_parts (quad_known (is_known terms) (quad_of q)) _ h in
    let first = quad_stands terms q parts.0 in
    let rest = known_stand terms qs parts.1 in
    record {
      each = λ i. first.0 i ∷ rest.each i;
      within = and_from (is_quad_within terms (places_of q)) _ first.1 rest.within;
    }

-- so many quads of known terms more
pub known_more : (keep : TermsKeepPlaces) (dict table : List Term) → GoesOn dict table → (placed after : List (Quad ℕ)) (done : List (Quad Id)) (quads : List KnownQuad)
    → after ≡ placed ++ map places_of quads → list_all (quad_known (is_known dict)) (map quad_of quads) ≡ true
    → StandFor dict table placed done → StandFor dict table after (done ++ map quad_of quads)
known_more keep dict table on placed after done quads made known s =
    let here = stand_kept keep dict table on dict (map places_of quads) (map quad_of quads) (known_stand dict quads known) in
    record {
      each = ap (map (quad_at table)) made ∙ map-append (quad_at table) placed (map places_of quads)
          ∙ (λ i. s.each i ++ here.each i) ∙ sym (map-append (renamed_quad (term_of dict)) done (map quad_of quads));
      within = ap (list_all (is_quad_within table)) made ∙ each_joined (is_quad_within table) placed (map places_of quads) s.within here.within;
    }

-- ---- quads in pieces

known_kept_all : (keep : TermsKeepPlaces) (old new : List Term) → GoesOn old new → (quads : List (Quad Id)) → list_all (quad_known (is_known old)) quads ≡ true → list_all (quad_known (is_known new)) quads ≡ true
known_kept_all keep old new on [] h = refl
known_kept_all keep old new on (q ∷ qs) h =
    let parts = and_parts (quad_known (is_known old) q) _ h in
    and_from (quad_known (is_known new) q) _ (known_quad_kept keep old new on q parts.0).1 (known_kept_all keep old new on qs parts.1)

both_pass : (p : Quad Id → Bool) (xs ys : List (Quad Id)) → list_all p (xs ++ ys) ≡ true → (list_all p xs ≡ true) × (list_all p ys ≡ true)
both_pass p xs ys h = and_parts (list_all p xs) (list_all p ys) (sym (list_all-append p xs ys) ∙ h)

-- those of one of the pieces
pub piece_passes : (p : Quad Id → Bool) (pieces : List (List (Quad Id))) (i : ℕ) (d : List (Quad Id)) → i < length pieces → list_all p (quads_in_pieces pieces) ≡ true → list_all p (slice_index_or pieces i d) ≡ true
piece_passes p [] i d lt h = absurd (omega (arith, lt))
piece_passes p (x ∷ xs) zero d lt h = (both_pass p x (quads_in_pieces xs) h).0
piece_passes p (x ∷ xs) (suc i) d lt h = piece_passes p xs i d (omega (arith, lt)) (both_pass p x (quads_in_pieces xs) h).1

pub piece_known : (keep : TermsKeepPlaces) (old new : List Term) → GoesOn old new → (pieces : List (List (Quad Id))) (i : ℕ) (d : List (Quad Id)) → i < length pieces
    → list_all (quad_known (is_known old)) (quads_in_pieces pieces) ≡ true → list_all (quad_known (is_known new)) (slice_index_or pieces i d) ≡ true
piece_known keep old new on pieces i d lt h = known_kept_all keep old new on (slice_index_or pieces i d) (piece_passes (quad_known (is_known old)) pieces i d lt h)

-- one piece more
pub pieces_next : (P : List (Quad Id) → Type 0) (pieces : List (List (Quad Id))) (i : ℕ) (d : List (Quad Id)) → i < length pieces → P (quads_in_pieces (take i pieces) ++ slice_index_or pieces i d) → P (quads_in_pieces (take (i + 1) pieces))
pieces_next P pieces i d lt h =
    loop_next (λ xs. P (quads_in_pieces xs)) pieces i d lt
    (subst P (sym (flat_map-append (λ piece. piece) (take i pieces) (slice_index_or pieces i d ∷ []) ∙ ap (λ xs. quads_in_pieces (take i pieces) ++ xs) (append-nil (slice_index_or pieces i d)))) h)
