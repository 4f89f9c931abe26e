use Rattle.std.proofs.Common.{◌++◌, List, ℕ, sym, ap, ◌∙◌}
use Rattle.std.specs.Option.{option_map}
use Rattle.syntax_trees.specs.declared.tree.Name.TheVariants as name
use Rattle.names.specs.Names.{Prefixes, iri_of, namespace_of}
use Rattle.names.proofs.MadeLaws.{names_more}
use Rattle.names.proofs.prefixes.Prefixes.keep_named.Goals as goal

pub invariant_of-self-in_ok-insert : goal.invariant_of-self-in_ok-insert
invariant_of-self-in_ok-insert c =
    let ds = c.self.inside.map.entries in
    names_more ds c.self.inside.named c.insert.new.self c.name_key.result c.in-Some-2.iri c.in_ok-insert.ensures.updates
    (ap (λ (k : List ℕ × List ℕ). iri_of ds (name.Prefixed k.0 k.1)) c.name_key.ensures
    ∙ ap (λ (xs : Prefixes). option_map (λ (ns : List ℕ). ns ++ c.args.local.now) (namespace_of xs c.args.prefix.now)) c.self.view_is
    ∙ ap (option_map (λ (ns : List ℕ). ns ++ c.args.local.now)) (sym c.namespace_of.ensures ∙ c.in-Some.is)
    ∙ sym c.in_ok-iri.ensures ∙ c.in-Some-2.is)
    c.self.invariant

pub invariant_of-self-in_ok-insert-2 : goal.invariant_of-self-in_ok-insert-2
invariant_of-self-in_ok-insert-2 c =
    let ds = c.self.inside.map.entries in
    names_more ds c.self.inside.named c.insert.new.self c.name_key.result c.in-Some-2.iri c.in_ok-insert.ensures.updates
    (ap (λ (k : List ℕ × List ℕ). iri_of ds (name.Prefixed k.0 k.1)) c.name_key.ensures
    ∙ ap (λ (xs : Prefixes). option_map (λ (ns : List ℕ). ns ++ c.args.local.now) (namespace_of xs c.args.prefix.now)) c.self.view_is
    ∙ ap (option_map (λ (ns : List ℕ). ns ++ c.args.local.now)) (sym c.namespace_of.ensures ∙ c.in-Some.is)
    ∙ sym c.in_ok-iri.ensures ∙ c.in-Some-2.is)
    c.self.invariant
