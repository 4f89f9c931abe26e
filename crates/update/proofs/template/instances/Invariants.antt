use Rattle.std.proofs.Common.{◌≡◌, ◌++◌, drop, ◌≤◌, length}
use Rattle.dict.specs.Dictionary.{numbers}
use Rattle.meaning.specs.Template.{instances_from, instances}
use Rattle.update.proofs.template.instances.Given as goal

abbrev pub invariant-loop-mapping : goal.invariant-loop-mapping
invariant-loop-mapping l =
    let V = numbers l.dict in
    record {
      counted : l.rank ≡ l.mapping-index;
      few : length l.found ≤ 1000000;
      made : l.quads.items ++ instances_from V l.request l.op l.templates l.rank (drop l.mapping-index l.found) ≡ instances V l.request l.op l.templates l.found;
    }
