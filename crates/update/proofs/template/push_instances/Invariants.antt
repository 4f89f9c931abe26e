use Rattle.std.proofs.Common.{◌≡◌, ◌++◌, drop, ℕ, filter_map}
use Rattle.datasets.specs.declared.id.Id.{Id}
use Rattle.datasets.specs.declared.id.Id.TheVariants.{Made}
use Rattle.dict.specs.Dictionary.{numbers}
use Rattle.meaning.specs.Template.{instance_of}
use Rattle.update.proofs.template.push_instances.Given as goal

abbrev pub invariant-loop-template : goal.invariant-loop-template
invariant-loop-template l =
    let node : ℕ → Id = λ k. Made l.origin.request l.origin.op k l.origin.rank in
    l.quads.items ++ filter_map (instance_of (numbers l.dict) node l.mapping) (drop l.template-index l.templates)
    ≡ l.fn.quads.items ++ filter_map (instance_of (numbers l.dict) node l.mapping) l.templates
