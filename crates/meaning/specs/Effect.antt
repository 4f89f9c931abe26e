-- What an operation does to a dataset (SPARQL 1.1 Update, 3.1).
use Rattle.std.specs.Prelude.{ℕ, Bool, nat_lt, if◌then◌else◌, List, length, Result, Ok, Err}
use Rattle.sets.specs.Sets.{union, without}
use Rattle.datasets.specs.Dataset.{Dataset, quad_order, names_of}
use Rattle.datasets.specs.declared.quad.Quad.{Quad}
use Rattle.meaning.specs.Vocabulary.{Vocabulary}
use Rattle.meaning.specs.Mapping.{Mapping}
use Rattle.meaning.specs.Solutions.{solutions}
use Rattle.meaning.specs.Template.{instances}
use Rattle.meaning.specs.GraphOperations.{graphs_after, silently}
use Rattle.algebra.specs.declared.template.QuadTemplate.{QuadTemplate}
use Rattle.algebra.specs.declared.update.Operation.{Operation}
use Rattle.algebra.specs.declared.update.Operation.TheVariants as operation
use Rattle.meaning.specs.declared.reply.Cause.{Cause}
use Rattle.meaning.specs.declared.reply.Cause.TheVariants.{TooManySolutions}

-- more than 1,000,000 solutions are too many
abbrev pub is_too_many : ℕ → Bool
is_too_many n = nat_lt 1000000 n

module _ {K : Type 0} (V : Vocabulary K) where
  -- all deletions come first, then all insertions; an inserted quad's graph is there
  abbrev pub replaced : Dataset K → List (Quad K) → List (Quad K) → Dataset K
  replaced d deleted inserted = record {
    quads = union (quad_order V.order) (without (quad_order V.order) d.quads deleted) inserted;
    names = union V.order d.names (names_of inserted);
  }

  -- DELETE and INSERT over the solutions of WHERE
  abbrev pub modified : (request place : ℕ) → (delete insert : List (QuadTemplate K)) → List (Mapping K) → Dataset K → Result (Dataset K) Cause
  modified request place delete insert found d =
      if is_too_many (length found) then Err TooManySolutions
      else Ok (replaced d (instances V request place delete found) (instances V request place insert found))

  -- the effect of the operation at a place of a request, both counted from 0. WHERE is evaluated
  -- once, in the graph of WITH or the default graph.
  abbrev pub effect_of : (request place : ℕ) → Operation K → Dataset K → Result (Dataset K) Cause
  effect_of request place (operation.Modify m) d = modified request place m.delete m.insert (solutions V.order V.passes m.width m.pattern d m.active) d
  effect_of request place (operation.Graphs silent graphs) d = silently V.order silent d (graphs_after V.order graphs d)
