use Rattle.std.specs.Prelude.{ℕ}
use Rattle.std.proofs.Common.{◌≡◌, List, [], Some, slice_get, refl, subst}
use Rattle.std.specs.List.{Contains}
use Rattle.names.specs.Appearance.{distinct}
use Rattle.names.specs.Numbers.{labels_of, label_number, with_labels}
use Rattle.nodes.specs.Nodes.{nodes_of_operation}
use Rattle.translation_laws.proofs.TokenOrder.{labels_as_read}
use Rattle.translation_laws.proofs.laws.labels_are_numbered_as_read.Goals as goal

pub returns : goal.returns
returns c tokens rest op r ds =
    let same = labels_as_read tokens rest op r in
    let numbered = λ (l : List ℕ) (among : Contains (labels_of (nodes_of_operation op)) l). c.labels_are_numbered_as_they_appear.ensures (labels_of (nodes_of_operation op)) l among in (
      with_labels (labels_of (nodes_of_operation op)) [],
      refl,
      subst
          (λ (ls : List (List ℕ)). (l : List ℕ) → Contains ls l → slice_get (distinct ls) (label_number (with_labels (labels_of (nodes_of_operation op)) []) l) ≡ Some l)
          same numbered,
    )
