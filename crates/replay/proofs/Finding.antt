-- A read that lacks a number lacks it in a part.
use Rattle.std.proofs.Common.{◌≡◌, Bool, true, Option, Some, None, ap}
use Rattle.std.specs.Option.{option_map}
use Rattle.std.proofs.lemmas.Bool.{and_parts}
use Rattle.datasets.specs.declared.read.GraphPlace.{GraphPlace}
use Rattle.datasets.specs.declared.read.GraphPlace.TheVariants.{Any, Only}
use Rattle.datasets.specs.declared.read.QuadPattern.{QuadPattern}
use Rattle.datasets.specs.declared.read.Read as reading
use Rattle.datasets.specs.declared.read.Read.TheVariants.{Scan, GraphIs, Graphs}
use Rattle.meaning_laws.specs.Renaming.{option_known}
use Rattle.replay.specs.Lines.{renamed_place, renamed_pattern, renamed_read, place_known, pattern_known, read_known}
use Rattle.replay.specs.Found.{IsFound}

module _ {X Y : Type 0} (known : X → Bool) (named : X → Y) where
  only_place : (g : Option Y) (f : Option (Option X)) → ((x : Option X) → option_known known x ≡ true → option_map named x ≡ g → f ≡ Some x) → (p : GraphPlace X) → place_known known p ≡ true → renamed_place named p ≡ Only g → option_map Only f ≡ Some p
  only_place g f only Any k e = absurd (cc)
  only_place g f only (Only x) k e = ap (option_map Only) (only x k (cc))

  pub missing_only : (g : Option Y) → IsFound (option_known known) (option_map named) g None → IsFound (place_known known) (renamed_place named) (Only g) None
  missing_only g h = record { stands = tt; is_known = tt; only = only_place g None h.only }

  abbrev Bound : Option Y → Option (Option X) → Type 0
  Bound y o = IsFound (option_known known) (option_map named) y o

  abbrev Whole : QuadPattern Y → Option (QuadPattern X) → Type 0
  Whole p o = IsFound (pattern_known known) (renamed_pattern named) p o

  -- the parts of a pattern whose terms are known
  parts_known : (x : QuadPattern X) → pattern_known known x ≡ true → (option_known known x.subject ≡ true) × (option_known known x.predicate ≡ true) × (option_known known x.object ≡ true) × (place_known known x.graph ≡ true)
  parts_known x k =
      let s = and_parts _ _ k in
      let p = and_parts _ _ s.1 in
      let o = and_parts _ _ p.1 in
      (s.0, p.0, o.0, o.1)

  pub missing_subject : (p : QuadPattern Y) → Bound p.subject None → Whole p None
  missing_subject p h = record { stands = tt; is_known = tt; only = λ x k e. absurd (let is = h.only x.subject (parts_known x k).0 (ap (λ q. q.subject) e) in (cc)) }

  pub missing_predicate : (p : QuadPattern Y) → Bound p.predicate None → Whole p None
  missing_predicate p h = record { stands = tt; is_known = tt; only = λ x k e. absurd (let is = h.only x.predicate (parts_known x k).1 (ap (λ q. q.predicate) e) in (cc)) }

  pub missing_object : (p : QuadPattern Y) → Bound p.object None → Whole p None
  missing_object p h = record { stands = tt; is_known = tt; only = λ x k e. absurd (let is = h.only x.object (parts_known x k).2 (ap (λ q. q.object) e) in (cc)) }

  pub missing_graph : (p : QuadPattern Y) → IsFound (place_known known) (renamed_place named) p.graph None → Whole p None
  missing_graph p h = record { stands = tt; is_known = tt; only = λ x k e. absurd (let is = h.only x.graph (parts_known x k).3 (ap (λ q. q.graph) e) in (cc)) }

  abbrev Whole_read : reading.Read Y → Option (reading.Read X) → Type 0
  Whole_read r o = IsFound (read_known known) (renamed_read named) r o

  only_scan : (p : QuadPattern Y) (f : Option (QuadPattern X)) → ((x : QuadPattern X) → pattern_known known x ≡ true → renamed_pattern named x ≡ p → f ≡ Some x) → (r : reading.Read X) → read_known known r ≡ true → renamed_read named r ≡ Scan p → option_map Scan f ≡ Some r
  only_scan p f only (Scan x) k e = ap (option_map Scan) (only x k (cc))
  only_scan p f only (GraphIs x) k e = absurd (cc)
  only_scan p f only Graphs k e = absurd (cc)

  pub missing_scan : (p : QuadPattern Y) → Whole p None → Whole_read (Scan p) None
  missing_scan p h = record { stands = tt; is_known = tt; only = only_scan p None h.only }
