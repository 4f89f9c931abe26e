use Rattle.std.proofs.Common.{◌≡◌, List, [], ◌∷◌, ◌++◌, refl, ap}
use Rattle.std.specs.List.{fold}
use Rattle.algebra.specs.declared.update.Operation.{Operation as Made}
use Rattle.terms.specs.declared.term.Term.{Term}
use Rattle.syntax_trees.specs.declared.tree.Operation.{Operation}
use Rattle.syntax_trees.specs.declared.tree.Step.{Step}
use Rattle.syntax_trees.specs.declared.tree.Step.TheVariants as step
use Rattle.names.specs.Names.{Prefixes, declare}
use Rattle.names.specs.Appearance.{after_declarations}
use Rattle.translation.specs.Translation.{operation_of, translated_after}
use Rattle.translation_laws.specs.Tokens.{declarations}
use Rattle.translation_laws.proofs.laws.names_have_the_last_declaration.Goals as goal

-- the prefixes after these steps, behind known ones
abbrev prefixes_after : Prefixes → List Step → Prefixes
prefixes_after known steps = fold (λ k d. declare d.0 d.1 k) known (declarations steps)

-- an operation follows what is declared before it
parted : (known : Prefixes) (before later : List Step) (op : Operation) → translated_after known (before ++ step.Do op ∷ later)
    ≡ translated_after known before ++ operation_of (prefixes_after known before) op ∷ translated_after (prefixes_after known before) later
parted known [] later op = refl
parted known (step.Declare prefix iri ∷ before) later op = parted (declare prefix iri known) before later op
parted known (step.Do other ∷ before) later op = ap (λ (rest : List (Made Term)). operation_of known other ∷ rest) (parted known before later op)

pub returns : goal.returns
returns c before later op = (after_declarations (declarations before), parted [] before later op, c.last_declaration_counts.ensures (declarations before))
