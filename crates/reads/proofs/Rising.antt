-- Which datasets are two sets.
use Rattle.std.specs.Prelude.{filter, if◌then◌else◌}
use Rattle.std.proofs.Common.{◌≡◌, Bool, true, false, List, [], ◌∷◌, sym, subst}
use Rattle.std.proofs.lemmas.Bool.{false≢true}
use Rattle.std.proofs.lemmas.List.Kept.{IsStrictlySortedBy-filter}
use Rattle.std.specs.List.Sorted.{IsStrictlySortedBy}
use Rattle.sets.specs.Sets.{set_of}
use Rattle.sets.proofs.SetLaws.{sorted-set_of, sorted-empty, sorted-cons}
use Rattle.datasets.specs.declared.id.Id.{Id}
use Rattle.datasets.specs.declared.quad.Quad.{Quad}
use Rattle.datasets.specs.declared.read.QuadPattern.{QuadPattern}
use Rattle.datasets.specs.Dataset.{quad_order, matches}
use Rattle.datasets.specs.Id.{id_order, id_total, quad_total}
use Rattle.change_laws.specs.Laws.{IsRising}
use Rattle.reads.specs.Reads.{View, IsDataset}

pub set_rises : (quads others : List (Quad Id)) → quads ≡ set_of (quad_order id_order) others → IsStrictlySortedBy (quad_order id_order) quads
set_rises quads others e = subst (λ xs. IsStrictlySortedBy (quad_order id_order) xs) (sym e) (sorted-set_of (quad_total id_total) others)

pub scan_rises : (quads : List (Quad Id)) (p : QuadPattern Id) (d : View) → IsRising id_order d → quads ≡ filter (matches id_order p) d.quads → IsStrictlySortedBy (quad_order id_order) quads
scan_rises quads p d h e =
    subst (λ xs. IsStrictlySortedBy (quad_order id_order) xs) (sym e) (IsStrictlySortedBy-filter (quad_order id_order) (matches id_order p) d.quads h.quads)

module _ (quads : List (Quad Id)) (names : List Id) where
  from_quads : (others : List (Quad Id)) → quads ≡ others → IsStrictlySortedBy (quad_order id_order) others → IsStrictlySortedBy (quad_order id_order) quads
  from_quads others e s = subst (λ xs. IsStrictlySortedBy (quad_order id_order) xs) (sym e) s

  from_names : (others : List Id) → names ≡ others → IsStrictlySortedBy id_order others → IsStrictlySortedBy id_order names
  from_names others e s = subst (λ xs. IsStrictlySortedBy id_order xs) (sym e) s

  pub rises-nothing : quads ≡ [] → names ≡ [] → IsRising id_order (record { quads = quads; names = names })
  rises-nothing e f = record { quads = from_quads [] e (sorted-empty (quad_order id_order)); names = from_names [] f (sorted-empty id_order) }

  pub dataset-nothing : quads ≡ [] → names ≡ [] → IsDataset (record { quads = quads; names = names })
  dataset-nothing e f =
      subst (λ (v : View). IsDataset v) (λ t. record { quads = sym e t; names = sym f t })
      (record { quads = sorted-empty (quad_order id_order); names = sorted-empty id_order; named = λ g h. absurd (false≢true h) })

  pub rises-sets : (qs : List (Quad Id)) (ns : List Id) → quads ≡ set_of (quad_order id_order) qs → names ≡ set_of id_order ns → IsRising id_order (record { quads = quads; names = names })
  rises-sets qs ns e f =
      record { quads = from_quads (set_of (quad_order id_order) qs) e (sorted-set_of (quad_total id_total) qs); names = from_names (set_of id_order ns) f (sorted-set_of id_total ns) }

  pub rises-scan : (p : QuadPattern Id) (d : View) → IsRising id_order d → quads ≡ filter (matches id_order p) d.quads → names ≡ [] → IsRising id_order (record { quads = quads; names = names })
  rises-scan p d h e f =
      record { quads = from_quads (filter (matches id_order p) d.quads) e (IsStrictlySortedBy-filter (quad_order id_order) (matches id_order p) d.quads h.quads); names = from_names [] f (sorted-empty id_order) }

  pub rises-name : (g : Id) (b : Bool) → quads ≡ [] → names ≡ (if b then g ∷ [] else []) → IsRising id_order (record { quads = quads; names = names })
  rises-name g b e f = record { quads = from_quads [] e (sorted-empty (quad_order id_order)); names = from_names (if b then g ∷ [] else []) f (one b) }
    where
      one : (b : Bool) → IsStrictlySortedBy id_order (if b then g ∷ [] else [])
      one true = sorted-cons id_order g [] tt (sorted-empty id_order)
      one false = sorted-empty id_order

  pub rises-names : (d : View) → IsRising id_order d → quads ≡ [] → names ≡ d.names → IsRising id_order (record { quads = quads; names = names })
  rises-names d h e f = record { quads = from_quads [] e (sorted-empty (quad_order id_order)); names = from_names d.names f h.names }
