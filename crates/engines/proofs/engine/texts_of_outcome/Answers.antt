use Rattle.std.proofs.Common.{ap, ◌∙◌}
use Rattle.dict.specs.Dictionary.{term_of}
use Rattle.meaning_laws.specs.Renaming.{renamed}
use Rattle.canonical_nquads.specs.Canonical.{canonical}
use Rattle.command_line.specs.Replies.{reply_lines}
use Rattle.engines.proofs.engine.texts_of_outcome.Goals as goal

pub returns-clause-dataset : goal.returns-clause-dataset
returns-clause-dataset g c =
    c.in_ok-text.ensures ∙ ap (λ d. canonical d c.tag-tag.result) c.in_ok-answer.ensures
    ∙ ap (λ t. canonical (renamed (term_of c.args.numbered.base.terms) c.args.outcome.dataset) t) c.tag-tag.ensures

pub returns-clause-replies : goal.returns-clause-replies
returns-clause-replies g c = c.in_ok-replies_text.ensures ∙ ap reply_lines c.as_slice.ensures
