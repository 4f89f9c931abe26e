-- What a request itself brings into a dataset (RDF 1.1 Concepts, sections 3 and 4): terms of the
-- form of their kind, IRIs as the names of new graphs, and labels by numbers of 32 bits.
use Rattle.std.specs.Prelude.{ℕ, ◌<◌, ◌≤◌, ◌^◌, length, Ok, Err, IfSome}
use Rattle.std.specs.List.{AllByRecursion}
use Rattle.algebra.specs.declared.update.GraphOperation.{GraphOperation}
use Rattle.algebra.specs.declared.update.GraphOperation.TheVariants as graphs
use Rattle.algebra.specs.declared.update.Operation.{Operation}
use Rattle.algebra.specs.declared.update.Operation.TheVariants as operation
use Rattle.terms.specs.declared.term.Term.{Term}
use Rattle.meaning.specs.Run.{Request}
use Rattle.nquads_laws.specs.WellFormed.{IsTerm, IsIriTerm}
use Rattle.translation_laws.specs.Each.{EachOfQuad}

-- what holds of the name of a graph that comes to be there (G)
abbrev pub EachOfGraphs : (Term → Type 0) → GraphOperation Term → Type 0
EachOfGraphs G (graphs.Create g) = G g
EachOfGraphs G (graphs.Drop t) = Unit {0}
EachOfGraphs G (graphs.Clear t) = Unit {0}
EachOfGraphs G (graphs.Transfer how from to) = IfSome to G

-- of such a name, of each inserted term (T) and of each label's number (L); what is deleted, and
-- the pattern, bring nothing
abbrev pub EachBrought : (T G : Term → Type 0) → (ℕ → Type 0) → Operation Term → Type 0
EachBrought T G L (operation.Modify m) = AllByRecursion (EachOfQuad T (λ v. Unit {0}) L) m.insert
EachBrought T G L (operation.Graphs silent op) = EachOfGraphs G op

-- the place of each operation is a number of 32 bits too; a refused request brings nothing
abbrev pub IsFormedRequest : Request Term → Type 0
IsFormedRequest (Ok operations) = (length operations ≤ 2 ^ 32) × AllByRecursion (EachBrought IsTerm IsIriTerm (λ l. l < 2 ^ 32)) operations
IsFormedRequest (Err refusal) = Unit {0}
