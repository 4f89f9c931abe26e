-- The run of the numbers is the run of the terms.
use Rattle.std.proofs.Common.{◌≡◌, ℕ, zero, suc, ◌+◌, true, Bool, List, [], ◌∷◌, take, map, refl, ap, ◌∙◌, sym}
use Rattle.std.specs.List.{list_all}
use Rattle.std.proofs.lemmas.Bool.{and_parts, and_from}
use Rattle.std.proofs.lemmas.List.{take-map}
use Rattle.terms.specs.TermLaws.{term_total, term_exact}
use Rattle.terms.specs.declared.term.Term.{Term}
use Rattle.datasets.specs.Dataset.{Dataset, IsDataset}
use Rattle.dict.specs.Dictionary.{IsDictionary, term_of, is_known, written, numbers}
use Rattle.meaning.specs.Vocabulary.{Vocabulary}
use Rattle.meaning.specs.Run.{Request, answer_of, run_from, run_of_first}
use Rattle.meaning_laws.specs.Renaming.{IsRenaming, renamed, renamed_request, request_known}
use Rattle.meaning_laws.specs.Answers.{IsExactOrder}
use Rattle.meaning_laws.proofs.Renames.{carries_run}
use Rattle.meaning_laws.proofs.Answers.{answers_with_datasets}
use Rattle.numbering.specs.Numbered.{CarriesBlock}

all-take : {A : Type 0} (p : A → Bool) (n : ℕ) (xs : List A) → list_all p xs ≡ true → list_all p (take n xs) ≡ true
all-take p zero [] h = refl
all-take p zero (x ∷ xs) h = refl
all-take p (suc n) [] h = refl
all-take p (suc n) (x ∷ xs) h =
    let parts = and_parts (p x) (list_all p xs) h in
    and_from (p x) (list_all p (take n xs)) parts.0 (all-take p n xs parts.1)

run_dataset : {K : Type 0} (V : Vocabulary K) (o : IsExactOrder V) (i : ℕ) (requests : List (Request K)) (d : Dataset K) → IsDataset V.order d → IsDataset V.order (run_from V i requests d).0
run_dataset V o i [] d h = h
run_dataset V o i (r ∷ rs) d h = run_dataset V o (i + 1) rs (answer_of V i r d).0 (answers_with_datasets V i r d o h)

pub carried : ((terms : List Term) → IsDictionary terms → IsRenaming (numbers terms) written (term_of terms) (is_known terms)) → CarriesBlock
carried is_renaming d block b requests n numbered h =
    let terms = b.terms in
    let base = b.dataset in
    let run = carries_run (numbers terms) written (term_of terms) (is_known terms) (take n requests) base (is_renaming terms numbered.base.dictionary)
    (all-take (request_known (is_known terms)) n requests numbered.block_known) numbered.base.known in
    let block_is : map (renamed_request (term_of terms)) (take n requests) ≡ take n block =
    sym (take-map (renamed_request (term_of terms)) n requests) ∙ ap (λ (rs : List (Request Term)). take n rs) numbered.block_is in
    let same : run_from written 0 (map (renamed_request (term_of terms)) (take n requests)) (renamed (term_of terms) base) ≡ run_of_first written n block d =
    λ i. run_from written 0 (block_is i) (numbered.base.dataset_is i) in
    record {
      dataset_is = run.dataset ∙ ap (λ p. p.0) same;
      replies_are = run.replies ∙ ap (λ p. p.1) same;
      known = run.known_after;
      dataset = run_dataset written (record { total = term_total; exact = term_exact }) 0 (take n block) d h;
    }
