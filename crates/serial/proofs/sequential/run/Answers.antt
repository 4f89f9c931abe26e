use Rattle.std.proofs.Common.{◌≡◌, ◌≤◌, List, length, sym, ap, ◌∙◌, subst, arith}
use Rattle.terms.specs.declared.term.Term.{Term}
use Rattle.dict.specs.Dictionary.{IsDictionary, is_known, numbers}
use Rattle.meaning.specs.Run.{answer_of}
use Rattle.reads.specs.Reads.{View, IsDataset}
use Rattle.delta.specs.Sound.{IsDatasetOf}
use Rattle.serial.proofs.Runs.{short_at, next_dataset, next_run, whole_run}
use Rattle.serial.proofs.sequential.run.Goals as goal

pub loop-place-init : goal.loop-place-init
loop-place-init c = record {
  dataset = subst (λ (d : View). IsDatasetOf (is_known c.args.base.now.terms) d) (sym (c.in_ok-current.ensures ∙ c.dataset.ensures.value)) (record {
    set = subst (λ (d : View). IsDataset d) c.dataset.ensures.value c.dataset.ensures.dataset;
    known = c.requires.base;
  });
  so_far = λ t. ((c.in_ok-current.ensures ∙ c.dataset.ensures.value) t, c.new-replies.ensures t);
}

pub answer-requires-clause-dataset : goal.answer-requires-clause-dataset
answer-requires-clause-dataset c =
    subst (λ (terms : List Term). IsDatasetOf (is_known terms) c.loop-place.current) (sym c.terms-terms.ensures) c.loop-place.invariant.dataset

pub answer-requires-clause-short : goal.answer-requires-clause-short
answer-requires-clause-short c = short_at c.args.block.now c.loop-place.place c.index-block-place.result c.requires.short (omega arith) c.index-block-place.is

pub loop-place-preserved : goal.loop-place-preserved
loop-place-preserved c =
    let replied = subst (λ (terms : List Term). (c.answer.new.current, c.in_ok-reply.reply) ≡ answer_of (numbers terms) c.loop-place.place c.index-block-place.result c.loop-place.current) c.terms-terms.ensures c.in_ok-reply.ensures in
    record {
      dataset =
          next_dataset c.args.base.now.terms c.args.block.now c.args.base.now.dataset c.loop-place.place c.index-block-place.result c.loop-place.current c.answer.new.current
          c.loop-place.replies c.in_ok-reply.reply replied (subst IsDictionary c.terms-terms.ensures c.len-count.ensures.form) c.requires.block (omega arith) c.index-block-place.is c.loop-place.invariant.dataset;
      so_far =
          ap (λ replies. (c.answer.new.current, replies)) c.in_ok-push.ensures.ok
          ∙ next_run c.args.base.now.terms c.args.block.now c.args.base.now.dataset c.loop-place.place c.index-block-place.result c.loop-place.current c.answer.new.current
          c.loop-place.replies c.in_ok-reply.reply replied (omega arith) c.index-block-place.is c.loop-place.invariant.so_far;
    }

pub returns-clause-dataset : goal.returns-clause-dataset
returns-clause-dataset c = subst (λ (d : View). IsDatasetOf (is_known c.args.base.now.terms) d) (sym c.in_ok-dataset.ensures) c.loop-place.invariant.dataset

pub returns-clause-run : goal.returns-clause-run
returns-clause-run c =
    let past : length c.args.block.now ≤ c.loop-place.place = omega arith in
    ap (λ dataset. (dataset, c.loop-place.replies)) c.in_ok-dataset.ensures ∙ c.loop-place.invariant.so_far
    ∙ whole_run c.args.base.now.terms c.args.block.now c.args.base.now.dataset c.loop-place.place past
