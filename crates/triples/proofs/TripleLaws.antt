-- Triples: what is read is in the grammar, and what is in it is read.
use Rattle.std.proofs.Common.{◌≡◌, Bool, true, false, cond, List, [], ◌∷◌, length, Some, refl, ap, arith}
use Rattle.iris.specs.Bracketed.{◌>>=◌}
use Rattle.iris.proofs.Options.{bind_some}
use Rattle.lexer.specs.declared.token.Token.{Token}
use Rattle.lexer.specs.declared.token.Token.TheVariants as token
use Rattle.lexer.specs.declared.token.Sign.TheVariants as signs
use Rattle.syntax_trees.specs.declared.tree.SameSubject.{SameSubject}
use Rattle.productions.specs.Steps.{Found, Takes}
use Rattle.productions.specs.Many.{many}
use Rattle.productions.proofs.ManyLaws.{Consumes, Sounds, many_found, Completes, many_again}
use Rattle.triples.specs.Laws.{AgainBefore}
use Rattle.triples.specs.Reads.{ReadsSame, same, TripleLink, dot, last_dot, no_dot, ReadsTriples, ReadsMaybeTriples, none, some, EndsTriples, at_open, at_close, at_word}
use Rattle.triples.specs.Reading.{node_at, begins_node, property_at, property_link, triple_link, properties_at, same_at, triples_at, maybe_triples_at}
use Rattle.triples.proofs.ManyMore.{Leads, many_takes, many_begins}
use Rattle.triples.proofs.NodeLaws.{moved, node_found, node_takes, node_again, node_begins}
use Rattle.triples.proofs.PropertyLaws.{properties_consume, properties_sound, properties_takes, EndsProperties, properties_complete}

-- ---- a subject

same_found : Found same_at ReadsSame
unfolding same_at properties_at
same_found ts x e =
    let v = bind_some (node_at ts) (λ v. many property_at property_link v.1 >>= λ ps. Some (record { subject = v.0; properties = ps.0 }, ps.1)) x e in
    let ps = bind_some (many property_at property_link v.0.1) (λ ps. Some (record { subject = v.0.0; properties = ps.0 }, ps.1)) x v.2 in
    moved ReadsSame ts (record { subject = v.0.0; properties = ps.0.0 }, ps.0.1) x ps.2
    (same (node_found ts v.0 v.1) (many_found property_at property_link properties_sound (length v.0.1) v.0.1 ps.0 ps.1))

same_takes : Takes ReadsSame
same_takes _ _ _ (same {ts} {r} {s} {x} {ps} subject properties) =
    let first = node_takes ts x r subject in
    let second = properties_takes r ps s properties in
    omega arith

same_again : {ts r : List Token} {x : SameSubject} → ReadsSame ts x r → EndsProperties r → same_at ts ≡ Some (x, r)
unfolding same_at properties_at
same_again (same {ts} {r} {s} {x} {ps} subject properties) after = rw (node_again ts x r subject, many_again property_at property_link properties_consume properties_complete properties after) refl

same_begins : (ts : List Token) (x : SameSubject) (rest : List Token) → ReadsSame ts x rest → begins_node ts ≡ true
same_begins _ _ _ (same subject properties) = node_begins subject

-- ---- triples

triple_link_found : (ts : List Token) → TripleLink ts (triple_link ts).0 (triple_link ts).1
triple_link_found (token.Sign signs.Dot ∷ ts) = elim (begins_node ts) as (λ b. TripleLink (token.Sign signs.Dot ∷ ts) b ts) [ true ↦ dot | false ↦ last_dot ]
triple_link_found ts = no_dot

triple_leads : Leads TripleLink
triple_leads _ _ _ dot = omega arith
triple_leads _ _ _ last_dot = omega arith
triple_leads _ _ _ no_dot = omega arith

pub triples_consume : Consumes same_at triple_link
triples_consume = record {
  item_takes = λ ts x e. same_takes ts x.0 x.1 (same_found ts x e);
  link_takes = λ ts. triple_leads ts _ _ (triple_link_found ts);
}

triples_sound : Sounds same_at triple_link ReadsSame TripleLink
triples_sound = record { item_found = same_found; link_found = triple_link_found }

dot_is : {r u s : List Token} {x : SameSubject} → TripleLink r true u → ReadsSame u x s → EndsProperties r × (triple_link r ≡ (true, u))
dot_is {s = s} {x = x} (dot {rest}) i = (tt, ap (λ (b : Bool). let p : Bool × List Token = (b, rest) in p) (same_begins rest x s i))

dot_ends : {r s : List Token} → TripleLink r false s → EndsTriples s → EndsProperties r × (triple_link r ≡ (false, s))
dot_ends last_dot at_open = (tt, refl)
dot_ends last_dot at_close = (tt, refl)
dot_ends last_dot (at_word a) = (tt, refl)
dot_ends no_dot at_open = (tt, refl)
dot_ends no_dot at_close = (tt, refl)
dot_ends no_dot (at_word a) = (a, refl)

triples_complete : Completes same_at triple_link ReadsSame TripleLink EndsProperties EndsTriples
triples_complete = record { item_again = same_again; goes_on = dot_is; ends = dot_ends }

pub triples_found : Found triples_at ReadsTriples
unfolding triples_at
triples_found ts x e = many_found same_at triple_link triples_sound (length ts) ts x e

pub triples_takes : Takes ReadsTriples
triples_takes = many_takes same_takes triple_leads

pub triples_again : AgainBefore EndsTriples triples_at ReadsTriples
unfolding triples_at
triples_again ts xs rest m after = many_again same_at triple_link triples_consume triples_complete m after

pub triples_begin : (ts rest : List Token) (xs : List SameSubject) → ReadsTriples ts xs rest → begins_node ts ≡ true
triples_begin ts rest xs m = many_begins (λ ts. begins_node ts ≡ true) same_begins m

pub nothing_begins : (ts : List Token) → EndsTriples ts → begins_node ts ≡ false
nothing_begins _ at_open = refl
nothing_begins _ at_close = refl
nothing_begins _ (at_word a) = refl

-- ---- triples that may be missing

pub maybe_found : Found maybe_triples_at ReadsMaybeTriples
unfolding maybe_triples_at
maybe_found ts x e =
    elim (begins_node ts) as (λ b. cond b (triples_at ts) (Some ([], ts)) ≡ Some x → ReadsMaybeTriples ts x.0 x.1) [
      | true ↦ λ e. some (triples_found ts x e)
      | false ↦ λ e. moved ReadsMaybeTriples ts ([], ts) x e none
    ] e

pub maybe_again : AgainBefore EndsTriples maybe_triples_at ReadsMaybeTriples
unfolding maybe_triples_at
maybe_again _ _ _ (none {rest}) after = rw (nothing_begins rest after) refl
maybe_again _ _ _ (some {ts} {rest} {xs} m) after = rw (triples_begin ts rest xs m) (triples_again ts xs rest m after)
