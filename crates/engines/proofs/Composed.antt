-- Numbering, running and naming is running.
use Rattle.std.proofs.lemmas.List.{take_all, length-map}
use Rattle.std.proofs.Common.{◌≡◌, ℕ, zero, suc, ◌≤◌, true, List, [], ◌∷◌, length, map, Some, None, Ok, Err, sym, ap, ◌∙◌, subst, arith, slice_get}
use Rattle.std.proofs.lemmas.Option.{same_Some}
use Rattle.datasets.specs.Dataset.{Dataset, IsDataset}
use Rattle.datasets.specs.declared.id.Id.{Id}
use Rattle.terms.specs.Term.{term_order}
use Rattle.terms.specs.declared.term.Term.{Term}
use Rattle.dict.specs.Dictionary.{term_of, is_known, written, numbers}
use Rattle.meaning.specs.Run.{Request, run, run_of_first}
use Rattle.meaning.specs.declared.reply.Reply.{Reply}
use Rattle.meaning_laws.specs.Renaming.{renamed, renamed_request, renamed_operation, dataset_known}
use Rattle.numbering.specs.Numbered.{IsNumbered, IsCarried, CarriesBlock}
use Rattle.store.specs.Base.{Base}
use Rattle.book.specs.Run.{HasAllTerms}
use Rattle.update.specs.Asked.{IsShort}
use Rattle.update.specs.Asked.{AreShort}
use Rattle.engines.specs.Outputs.{IsWhole}

get-map : {A B : Type 0} (f : A → B) (xs : List A) (i : ℕ) (x : A) → slice_get xs i ≡ Some x → slice_get (map f xs) i ≡ Some (f x)
get-map f [] i x e = absurd (let n : None ≡ Some x = e in (cc))
get-map f (y ∷ ys) zero x e = ap Some (ap f (same_Some y x e))
get-map f (y ∷ ys) (suc i) x e = get-map f ys i x e

short_again : (f : Id → Term) (r : Request Id) → IsShort (renamed_request f r) → IsShort r
short_again f (Ok ops) h = let same : length (map (renamed_operation f) ops) ≡ length ops = length-map ops (renamed_operation f) in (omega (arith, h, same))
short_again f (Err refusal) h = tt

module _ (d : Dataset Term) (block : List (Request Term)) (b : Base) (requests : List (Request Id)) (numbered : IsNumbered d block b requests) where
  pub short : AreShort block → AreShort requests
  short h i r e =
      let f = term_of b.terms in
      let there : slice_get block i ≡ Some (renamed_request f r) = ap (λ (b : List (Request Term)). slice_get b i) (sym numbered.block_is) ∙ get-map (renamed_request f) requests i r e in
      short_again f r (h i (renamed_request f r) there)

  pub same_length : length requests ≡ length block
  same_length = sym (length-map requests (renamed_request (term_of b.terms))) ∙ ap length numbered.block_is

  -- the dictionary has all terms of the base and the block
  pub has_all_terms : HasAllTerms b.terms b.dataset requests
  has_all_terms = record { dataset = record { set = numbered.base.dataset; known = numbered.base.known }; requests = numbered.block_known }

  -- the run of the first n requests at numbers
  module _ (carries_block : CarriesBlock) (dataset : IsDataset term_order d) (n : ℕ) (after : Dataset Id) (replies : List Reply)
      (front : (after, replies) ≡ run_of_first (numbers b.terms) n requests b.dataset) where
    carried : IsCarried d block b.terms b.dataset requests n
    carried = carries_block d block b requests n numbered dataset

    after_is : after ≡ (run_of_first (numbers b.terms) n requests b.dataset).0
    after_is = ap (λ p. p.0) front

    pub known : dataset_known (is_known b.terms) after ≡ true
    unfolding carried after_is
    known = ap (dataset_known (is_known b.terms)) after_is ∙ carried.known

    pub named_is : renamed (term_of b.terms) after ≡ (run_of_first written n block d).0
    unfolding carried after_is
    named_is = ap (renamed (term_of b.terms)) after_is ∙ carried.dataset_is

    pub named_dataset : IsDataset term_order (renamed (term_of b.terms) after)
    unfolding named_is carried
    named_dataset = subst (λ (e : Dataset Term). IsDataset term_order e) (sym named_is) carried.dataset

    pub replies_are : replies ≡ (run_of_first written n block d).1
    unfolding carried
    replies_are = ap (λ p. p.1) front ∙ carried.replies_are

  -- as many as there are, or more
  pub all_of : (n : ℕ) → length requests ≤ n → run_of_first written n block d ≡ run written block d
  all_of n h = ap (λ (b : List (Request Term)). run written b d) (take_all n block (let same = same_length in (omega (arith, h, same))))

-- the run of the whole block
pub whole_run : (terms : List Term) (base : Dataset Id) (block : List (Request Id)) (dataset : Dataset Id) (replies : List Reply)
    → (dataset, replies) ≡ run (numbers terms) block base → IsWhole terms base block dataset replies
whole_run terms base block dataset replies e =
    let all : length block ≤ length block = omega arith in
    (length block, all, e ∙ ap (λ (b : List (Request Id)). run (numbers terms) b base) (sym (take_all (length block) block all)))
