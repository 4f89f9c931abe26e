-- Trees of groups: the parts of a union, and a list that grows.
use Rattle.std.proofs.Common.{◌≡◌, map, sym, ap, ◌∙◌}
use Rattle.std.specs.Global.{Vec}
use Rattle.std.proofs.lemmas.Simd.{map-map}
use Rattle.syntax_trees.specs.declared.group.Element.{Element, fold-roll-Element}
use Rattle.syntax_trees.specs.declared.group.Element.TheOpen.{Element-F}
use Rattle.syntax_trees.specs.declared.group.Element.TheVariants as element
use Rattle.syntax_trees.specs.declared.group.Element.TheVariants.{rolls-Union}
use Rattle.syntax_trees.specs.Groups.{Part, Union, group, groups, part_of, part_step, parts_of, lists_of}

unions : (gs : Vec (Vec Element)) → part_of (element.Union gs) ≡ Union (groups (map (λ (g : Vec Element). group (parts_of g.items)) gs.items))
unions gs = ap part_of (sym (rolls-Union gs)) ∙ fold-roll-Element Part part_step (Element-F.Union gs) ∙ ap (λ gs. Union (groups gs)) (map-map (λ g. group g.items) _ gs.items)

pub union_is : (gs : Vec (Vec Element)) → part_of (element.Union gs) ≡ Union (groups (map group (lists_of gs.items)))
union_is gs = unions gs ∙ ap (λ gs. Union (groups gs)) (sym (map-map group (λ (g : Vec Element). parts_of g.items) gs.items))

pub ruleset union_lists = (union_is)
