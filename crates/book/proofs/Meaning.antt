-- What the machine runs is the sequential run.
use Rattle.std.proofs.Common.{◌≡◌, ℕ, zero, suc, ◌<◌, ◌≤◌, true, List, [], ◌∷◌, ◌++◌, length, Option, Some, None, Ok, slice_get, refl, sym, ap, ◌∙◌, subst, arith}
use Rattle.std.proofs.lemmas.List.Sums.{AllPass-from_list_all}
use Rattle.std.proofs.lemmas.Option.{slice_get-get_or, slice_get_within, get_or_from_slice_get}
use Rattle.terms.specs.declared.term.Term.{Term}
use Rattle.datasets.specs.declared.id.Id.{Id}
use Rattle.datasets.specs.Id.{id_total, id_exact}
use Rattle.dict.specs.Dictionary.{IsDictionary, is_known, numbers, term_of, written}
use Rattle.dict.proofs.Numbers.{is_renaming}
use Rattle.meaning.specs.Run.{Request, answer_of, run_of_first}
use Rattle.meaning.specs.declared.reply.Reply as request
use Rattle.meaning_laws.specs.Answers.{IsExactOrder}
use Rattle.meaning_laws.specs.Renaming.{request_known}
use Rattle.meaning_laws.proofs.Answers.{answers_with_datasets, goes_on_by_one}
use Rattle.meaning_laws.proofs.Renames.{answer-known}
use Rattle.reads.specs.Reads.{View}
use Rattle.delta.specs.Sound.{IsDatasetOf}
use Rattle.block_machine.specs.Serial.{IsSetting, dataset_after, replies_after}
use Rattle.book.specs.Run.{answer_at, setting, HasAllTerms}

module _ (terms : List Term) where
  exact : IsExactOrder (numbers terms)
  exact = record { total = id_total; exact = id_exact }

  answer_dataset : IsDictionary terms → (i : ℕ) (o : Option (Request Id)) (d : View) → ((r : Request Id) → o ≡ Some r → request_known (is_known terms) r ≡ true) → IsDatasetOf (is_known terms) d
      → IsDatasetOf (is_known terms) (answer_at (numbers terms) i o d).0
  answer_dataset is i None d has h = h
  answer_dataset is i (Some r) d has h =
      record {
        set = answers_with_datasets (numbers terms) i r d exact h.set;
        known = answer-known (numbers terms) written (term_of terms) (is_known terms) (is_renaming terms is) i r d (has r refl) h.known;
      }

  module _ (base : View) (block : List (Request Id)) where
    -- the base is a dataset of known terms, and each request makes one of one
    pub is_setting : IsDictionary terms → HasAllTerms terms base block → IsSetting (setting terms base block)
    unfolding setting
    is_setting is has = record {
      base = has.dataset;
      answers = λ i d h. answer_dataset is i (slice_get block i) d
          (λ r e. subst (λ (q : Request Id). request_known (is_known terms) q ≡ true) (get_or_from_slice_get block i r (Ok []) e)
          (AllPass-from_list_all (request_known (is_known terms)) block has.requests i (Ok []) (slice_get_within block i r e))) h;
    }

    abbrev pub so_far : ℕ → View × List request.Reply
    so_far n = run_of_first (numbers terms) n block base

    after_one : (n : ℕ) (o : Option (Request Id)) → slice_get block n ≡ o → n < length block → (d : View) → d ≡ (so_far n).0 → (rs : List request.Reply) → rs ≡ (so_far n).1
        → ((answer_at (numbers terms) n o d).0, rs ++ (answer_at (numbers terms) n o d).1 ∷ []) ≡ so_far (suc n)
    after_one n None e lt d f rs g = absurd (let some = slice_get-get_or block n (Ok []) lt in (cc))
    after_one n (Some r) e lt d f rs g =
        (λ t. ((answer_of (numbers terms) n r (f t)).0, g t ++ (answer_of (numbers terms) n r (f t)).1 ∷ []))
        ∙ sym (goes_on_by_one (numbers terms) n block r base e)

    -- the dataset and the replies of the first requests are those of their sequential run
    pub serial_run : (n : ℕ) → n ≤ length block → (dataset_after (setting terms base block) n, replies_after (setting terms base block) n) ≡ so_far n
    unfolding setting dataset_after replies_after
    serial_run zero le = refl
    serial_run (suc n) le =
        let before = serial_run n (omega (arith, le)) in
        after_one n (slice_get block n) refl (omega (arith, le)) _ (ap (λ p. p.0) before) _ (ap (λ p. p.1) before)
