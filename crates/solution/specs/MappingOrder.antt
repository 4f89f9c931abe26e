-- The order of mappings is total, and tells any two apart.
use Rattle.std.specs.Prelude.{◌≡◌}
use Rattle.std.specs.declared.cmp.Ordering.TheVariants.{Equal}
use Rattle.std.specs.Option.{option_cmp}
use Rattle.std.specs.Cmp.{IsTotalOrder}
use Rattle.std.specs.Cmp.Lexicographic.{lists_total, options_total}
use Rattle.datasets.specs.declared.id.Id.{Id}
use Rattle.datasets.specs.Id.{id_order, id_total, id_exact, option_exact, list_exact}
use Rattle.meaning.specs.Mapping.{Mapping, mapping_cmp}

pub mapping_total : IsTotalOrder (mapping_cmp id_order)
mapping_total = lists_total (options_total id_total)

pub mapping_exact : (a b : Mapping Id) → mapping_cmp id_order a b ≡ Equal → a ≡ b
mapping_exact = list_exact (option_cmp id_order) (option_exact id_order id_exact)
