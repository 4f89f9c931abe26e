-- Quads of known terms in the order of the quads that they are.
use Rattle.std.specs.Prelude.{ℕ, Option, Some, None}
use Rattle.std.proofs.Common.{◌≡◌, refl, sym, ap, ◌∙◌}
use Rattle.std.specs.declared.cmp.Ordering.{Ordering}
use Rattle.std.specs.declared.cmp.Ordering.TheVariants.{Equal}
use Rattle.std.specs.Cmp.{IsTotalOrder}
use Rattle.datasets.specs.Id.{id_order, id_total, id_exact, quad_total, quad_exact}
use Rattle.datasets.specs.Dataset.{quad_order}
use Rattle.datasets.specs.declared.id.Id.{Id}
use Rattle.datasets.specs.declared.id.Id.TheVariants.{Known, Made}
use Rattle.datasets.specs.declared.quad.Quad.{Quad}
use Rattle.quad_lists.specs.Known.{quad_of, known_graph}
use Rattle.quad_lists.specs.declared.known.KnownQuad.{KnownQuad}

abbrev pub known_order : KnownQuad → KnownQuad → Ordering
known_order a b = quad_order id_order (quad_of a) (quad_of b)

pub known_total : IsTotalOrder known_order
known_total =
    let total : IsTotalOrder (quad_order id_order) = quad_total id_total in
    record {
      antisymm = λ a b. total.antisymm (quad_of a) (quad_of b);
      trans = λ a b c. total.trans (quad_of a) (quad_of b) (quad_of c);
      congr = λ a b c. total.congr (quad_of a) (quad_of b) (quad_of c);
    }

abbrev number_back : Id → ℕ
number_back (Known n) = n
number_back (Made r o l s) = r

abbrev graph_back : Option Id → Option ℕ
graph_back None = None
graph_back (Some g) = Some (number_back g)

graph_there : (g : Option ℕ) → graph_back (known_graph g) ≡ g
graph_there None = refl
graph_there (Some n) = refl

abbrev back : Quad Id → KnownQuad
back q = record { subject = number_back q.subject; predicate = number_back q.predicate; object = number_back q.object; graph = graph_back q.graph }

there : (a : KnownQuad) → back (quad_of a) ≡ a
there a = λ i. record { subject = a.subject; predicate = a.predicate; object = a.object; graph = graph_there a.graph i }

pub known_exact : (a b : KnownQuad) → known_order a b ≡ Equal → a ≡ b
known_exact a b e =
    let same = quad_exact id_order id_exact (quad_of a) (quad_of b) e in
    sym (there a) ∙ ap back same ∙ there b
