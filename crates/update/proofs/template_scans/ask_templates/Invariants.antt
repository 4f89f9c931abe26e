use Rattle.std.proofs.Common.{Bool, None}
use Rattle.reads.specs.Reads.{Read}
use Rattle.asking.specs.Goes.{Goes}
use Rattle.update.specs.TemplateScans.{AskedTemplates}
use Rattle.update.specs.Once.{AddsNew}
use Rattle.update.proofs.template_scans.ask_templates.Given as goal

-- the scans so far were asked for, each once
abbrev pub invariant-loop-template : goal.invariant-loop-template
invariant-loop-template g l = record {
  goes : (allowed : Read → Bool) → AskedTemplates allowed l.templates → Goes g.S.Source.asks allowed l.fn.source l.source l.fn.notes.items l.notes.items None;
  new : AddsNew l.fn.notes.items l.notes.items;
}
