-- A run goes on by one request.
use Rattle.std.proofs.Common.{◌≡◌, ℕ, suc, ◌+◌, ◌<◌, ◌≤◌, true, List, [], ◌∷◌, ◌++◌, length, get_or, Some, slice_get, refl, sym, ap, ◌∙◌, subst, arith}
use Rattle.std.specs.List.{list_all}
use Rattle.std.proofs.lemmas.List.{take_all}
use Rattle.std.proofs.lemmas.List.Sums.{AllPass-from_list_all}
use Rattle.std.proofs.lemmas.Option.{slice_get_read}
use Rattle.terms.specs.declared.term.Term.{Term}
use Rattle.datasets.specs.declared.id.Id.{Id}
use Rattle.datasets.specs.Id.{id_total, id_exact}
use Rattle.dict.specs.Dictionary.{IsDictionary, is_known, numbers, term_of, written}
use Rattle.dict.proofs.Numbers.{is_renaming}
use Rattle.meaning.specs.Run.{Request, answer_of, run, run_of_first}
use Rattle.meaning.specs.declared.reply.Reply.{Reply}
use Rattle.meaning_laws.specs.Answers.{IsExactOrder, with_next}
use Rattle.meaning_laws.specs.Renaming.{request_known}
use Rattle.meaning_laws.proofs.Answers.{answers_with_datasets, goes_on_by_one}
use Rattle.meaning_laws.proofs.Renames.{answer-known}
use Rattle.reads.specs.Reads.{View}
use Rattle.delta.specs.Sound.{IsDatasetOf}
use Rattle.update.specs.Asked.{IsShort}
use Rattle.update.specs.Asked.{AreShort}

pub next_is : (next made : View) (reply : Reply) (answer : View × Reply) → next ≡ made → (made, reply) ≡ answer → (next, reply) ≡ answer
next_is next made reply answer same is = (λ t. (same t, reply)) ∙ is

pub here : (block : List (Request Id)) (i : ℕ) (r : Request Id) → i < length block → r ≡ get_or block i r → slice_get block i ≡ Some r
here block i r within is = slice_get_read block (length block) i r refl within is

pub short_at : (block : List (Request Id)) (i : ℕ) (r : Request Id) → AreShort block → i < length block → r ≡ get_or block i r → IsShort r
short_at block i r short within is = short i r (here block i r within is)

module _ (terms : List Term) (block : List (Request Id)) (base : View) where
  exact : IsExactOrder (numbers terms)
  exact = record { total = id_total; exact = id_exact }

  module _ (n : ℕ) (request : Request Id) (d next : View) (replies : List Reply) (reply : Reply) (is : (next, reply) ≡ answer_of (numbers terms) n request d) where
    pub next_dataset : IsDictionary terms → list_all (request_known (is_known terms)) block ≡ true → n < length block → request ≡ get_or block n request → IsDatasetOf (is_known terms) d
        → IsDatasetOf (is_known terms) next
    next_dataset dictionary has within at h =
        let request_has = subst (λ (q : Request Id). request_known (is_known terms) q ≡ true) (sym at) (AllPass-from_list_all (request_known (is_known terms)) block has n request within) in
        subst (λ (e : View). IsDatasetOf (is_known terms) e) (sym (ap (λ p. p.0) is))
        (record {
          set = answers_with_datasets (numbers terms) n request d exact h.set;
          known = answer-known (numbers terms) written (term_of terms) (is_known terms) (is_renaming terms dictionary) n request d request_has h.known;
        })

    pub next_run : n < length block → request ≡ get_or block n request → (d, replies) ≡ run_of_first (numbers terms) n block base → (next, replies ++ reply ∷ []) ≡ run_of_first (numbers terms) (n + 1) block base
    next_run within at so_far =
        let more : suc n ≡ n + 1 = omega arith in
        (λ t. ((is t).0, replies ++ (is t).1 ∷ []))
        ∙ (λ t. with_next (so_far t) (answer_of (numbers terms) n request (so_far t).0))
        ∙ sym (goes_on_by_one (numbers terms) n block request base (here block n request within at))
        ∙ ap (λ k. run_of_first (numbers terms) k block base) more

  pub whole_run : (n : ℕ) → length block ≤ n → run_of_first (numbers terms) n block base ≡ run (numbers terms) block base
  whole_run n past = ap (λ requests. run (numbers terms) requests base) (take_all n block past)
