-- Whether all terms of a group's parts are among those that are renamed.
use Rattle.std.specs.Prelude.{Bool, true, ◌&&◌, map}
use Rattle.std.specs.List.{list_all}
use Rattle.algebra.specs.Expressions.{expression_of}
use Rattle.algebra.specs.Plans.{Plan}
use Rattle.algebra.specs.declared.plan.Link.{Link}
use Rattle.algebra.specs.declared.plan.Link.TheVariants as link
use Rattle.meaning_laws.specs.Renaming.{expression_known, plan_known}

module _ {A : Type 0} (known : A → Bool) where
  abbrev pub link_known : Link A → Bool
  link_known link.Join = true
  link_known (link.LeftJoin es) = list_all (expression_known known) (map expression_of es.items)
  link_known link.Minus = true

  abbrev pub part_known : Link A × Plan A → Bool
  part_known p = plan_known known p.1 && link_known p.0
