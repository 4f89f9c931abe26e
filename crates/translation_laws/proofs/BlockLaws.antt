-- A block whose requests are accepted or refused keeps a dataset well-formed, and a mark free of
-- its blank labels; so do its first requests.
use Rattle.std.proofs.Common.{◌≡◌, ℕ, zero, suc, ◌≤◌, ◌^◌, false, List, [], ◌∷◌, length, take, Ok, Err, arith}
use Rattle.std.specs.List.{AllByRecursion}
use Rattle.datasets.specs.Dataset.{Dataset}
use Rattle.terms.specs.declared.term.Term.{Term}
use Rattle.meaning.specs.Run.{Request, run, run_of_first}
use Rattle.meaning_laws.specs.Answers.{AnswersWithDatasets}
use Rattle.dict.specs.Dictionary.{written}
use Rattle.canonical_nquads.specs.Tag.{mark_of, is_taken}
use Rattle.nquads_laws.specs.WellFormed.{IsWellFormed}
use Rattle.rules.specs.Refusal.{IsChecked}
use Rattle.rules.specs.Requests.{AreEach, none, more, IsSplit}
use Rattle.translation_laws.specs.Formed.{IsFormedRequest}
use Rattle.translation_laws.proofs.WrittenLaws.{request_formed}
use Rattle.translation_laws.proofs.KeptLaws.{IsBrought, run_kept}
use Rattle.translation_laws.proofs.FormedLaws.{run_well_formed}
use Rattle.translation_laws.proofs.LabelFreeLaws.{IsFree, IsFreeQuad, free, checked_free, dataset_free, none_marked}

-- what holds of each request that is checked holds of the requests of a block
module _ (P : Request Term → Type 0) (each : (text : List ℕ) (r : Request Term) → IsChecked text r → P r) where
  all_checked : {texts : List (List ℕ)} {rs : List (Request Term)} → AreEach IsChecked texts rs → AllByRecursion P rs × (length rs ≡ length texts)
  all_checked none = (tt, omega arith)
  all_checked (more {text} {texts} {c} {cs} is more_are) =
      let rest = all_checked more_are in
      let same = rest.1 in
      ((each text c is, rest.0), omega (arith, same))

  all_first : (n : ℕ) (rs : List (Request Term)) → AllByRecursion P rs → AllByRecursion P (take n rs) × (length (take n rs) ≤ length rs)
  all_first zero rs h = (tt, omega arith)
  all_first (suc n) [] h = (tt, omega arith)
  all_first (suc n) (r ∷ rs) h =
      let rest = all_first n rs h.1 in
      let few = rest.1 in
      ((h.0, rest.0), omega (arith, few))

  pub of_block : (bytes : List ℕ) (block : List (Request Term)) → IsSplit bytes (Ok block) → (length block ≤ 2 ^ 32) × AllByRecursion P block
  of_block bytes block split =
      let checked = all_checked split.3 in
      let many = split.1 in
      let same = checked.1 in
      (omega (arith, many, same), checked.0)

  pub of_first : (bytes : List ℕ) (block : List (Request Term)) (n : ℕ) → IsSplit bytes (Ok block) → (length (take n block) ≤ 2 ^ 32) × AllByRecursion P (take n block)
  of_first bytes block n split =
      let whole = of_block bytes block split in
      let first = all_first n block whole.1 in
      let many = whole.0 in
      let few = first.1 in
      (omega (arith, many, few), first.0)

checked_formed : (text : List ℕ) (r : Request Term) → IsChecked text r → IsFormedRequest r
checked_formed text (Ok update) h = request_formed text update h
checked_formed text (Err kind) h = tt

module _ (datasets : AnswersWithDatasets Term) (bytes : List ℕ) (block : List (Request Term)) where
  pub block_well_formed : (d : Dataset Term) → IsSplit bytes (Ok block) → IsWellFormed d → IsWellFormed (run written block d).0
  block_well_formed d split w = let h = of_block IsFormedRequest checked_formed bytes block split in run_well_formed datasets block d h.0 h.1 w

  pub first_well_formed : (n : ℕ) (d : Dataset Term) → IsSplit bytes (Ok block) → IsWellFormed d → IsWellFormed (run_of_first written n block d).0
  first_well_formed n d split w = let h = of_first IsFormedRequest checked_formed bytes block n split in run_well_formed datasets (take n block) d h.0 h.1 w

-- ---- the tag

requests_free : (tag : ℕ) (requests : List (Request Term)) (d : Dataset Term)
    → (length requests ≤ 2 ^ 32) × AllByRecursion (IsBrought (IsFree (mark_of tag)) (IsFree (mark_of tag)) (IsFreeQuad (mark_of tag)) (free (mark_of tag))) requests
    → IsWellFormed d → is_taken d.quads tag ≡ false → is_taken (run written requests d).0.quads tag ≡ false
requests_free tag requests d h w e =
    let mark = mark_of tag in
    let kept = run_kept (IsFree mark) (IsFree mark) (IsFreeQuad mark) (free mark) requests d h.0 h.1 (dataset_free mark d w e) in
    none_marked mark (run written requests d).0.quads kept.0

pub block_free : (bytes : List ℕ) (block : List (Request Term)) (d : Dataset Term) (tag : ℕ) → IsSplit bytes (Ok block) → IsWellFormed d → is_taken d.quads tag ≡ false
    → is_taken (run written block d).0.quads tag ≡ false
block_free bytes block d tag split w e =
    let mark = mark_of tag in
    requests_free tag block d (of_block (IsBrought (IsFree mark) (IsFree mark) (IsFreeQuad mark) (free mark)) (checked_free mark) bytes block split) w e

pub first_free : (bytes : List ℕ) (block : List (Request Term)) (n : ℕ) (d : Dataset Term) (tag : ℕ) → IsSplit bytes (Ok block) → IsWellFormed d → is_taken d.quads tag ≡ false
    → is_taken (run_of_first written n block d).0.quads tag ≡ false
first_free bytes block n d tag split w e =
    let mark = mark_of tag in
    requests_free tag (take n block) d (of_first (IsBrought (IsFree mark) (IsFree mark) (IsFreeQuad mark) (free mark)) (checked_free mark) bytes block n split) w e
