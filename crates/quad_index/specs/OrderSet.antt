-- Which orders are kept.
use Rattle.std.specs.Prelude.{Bool, true}
use Rattle.quad_lists.specs.declared.key.Arrangement.{Arrangement}
use Rattle.quad_lists.specs.declared.key.Arrangement.TheVariants.{Spog, Pogs, Ogsp, Gspo, Gpso, Ospg}
use Rattle.quad_index.specs.declared.order_set.OrderSet.{OrderSet}

-- SPOG always is
abbrev pub has_order : OrderSet → Arrangement → Bool
has_order orders Spog = true
has_order orders Pogs = orders.pogs
has_order orders Ogsp = orders.ogsp
has_order orders Gspo = orders.gspo
has_order orders Gpso = orders.gpso
has_order orders Ospg = orders.ospg
