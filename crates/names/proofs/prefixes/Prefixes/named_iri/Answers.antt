use Rattle.std.proofs.Common.{List, ℕ, ap, ◌∙◌}
use Rattle.std.specs.BTreeMap.{get}
use Rattle.names.specs.Made.{name_cmp}
use Rattle.names.proofs.MadeLaws.{kept_name}
use Rattle.names.proofs.prefixes.Prefixes.named_iri.Goals as goal

pub returns-in-Some : goal.returns-in-Some
returns-in-Some c =
    kept_name c.args.self.now c.self.inside.map.entries c.self.inside.named c.args.prefix.now c.args.local.now c.in-Some.iri.now c.in_ok-copied.field-0 c.self.invariant c.self.view_is
    (c.in-Some.ensures.value ∙ ap (λ (k : List ℕ × List ℕ). get name_cmp c.self.inside.named k) c.name_key.ensures) c.in_ok-copied.ensures
