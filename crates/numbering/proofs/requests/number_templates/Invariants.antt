use Rattle.std.proofs.Common.{drop}
use Rattle.dict.specs.Dictionary.{term_of, is_known}
use Rattle.meaning_laws.specs.Renaming.{renamed_template, template_known}
use Rattle.store.specs.Held.{is_held}
use Rattle.store.proofs.Loops.{SoFar}
use Rattle.numbering.proofs.requests.number_templates.Given as goal

abbrev pub invariant-loop-template : goal.invariant-loop-template
invariant-loop-template l = SoFar (renamed_template (term_of l.numbers)) (template_known (is_known l.numbers)) (template_known (is_held l.numbers)) l.list.items (drop l.template-index l.templates) l.templates
