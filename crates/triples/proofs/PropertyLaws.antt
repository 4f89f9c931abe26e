-- Objects and properties: what is read is in the grammar, and what is in it is read.
use Rattle.std.proofs.Common.{◌≡◌, Bool, true, false, List, ◌∷◌, length, Some, refl, ap, ◌∙◌, arith}
use Rattle.iris.specs.Bracketed.{◌>>=◌}
use Rattle.iris.proofs.Options.{bind_some}
use Rattle.lexer.specs.declared.token.Token.{Token}
use Rattle.lexer.specs.declared.token.Token.TheVariants as token
use Rattle.lexer.specs.declared.token.Sign.TheVariants as signs
use Rattle.syntax_trees.specs.declared.tree.Property.{Property}
use Rattle.productions.specs.Steps.{Found, Takes}
use Rattle.productions.specs.Many.{many}
use Rattle.productions.proofs.ManyLaws.{Consumes, Sounds, many_found, Completes, many_again}
use Rattle.triples.specs.Reads.{ReadsObject, ObjectLink, comma, no_comma, ReadsObjects, ReadsProperty, property, PropertyLink, semicolon, again, no_semicolon, ReadsProperties, is_a}
use Rattle.triples.specs.Reading.{verb_at, object_at, begins_verb, object_link, skip_semicolons, property_link, objects_at, property_at}
use Rattle.triples.proofs.ManyMore.{Leads, many_takes}
use Rattle.triples.proofs.NodeLaws.{moved, verb_found, verb_takes, verb_again, verb_begins, object_found, object_takes, object_again}

-- ---- objects

object_link_found : (ts : List Token) → ObjectLink ts (object_link ts).0 (object_link ts).1
object_link_found (token.Sign signs.Comma ∷ ts) = comma
object_link_found ts = no_comma

object_leads : Leads ObjectLink
object_leads _ _ _ comma = omega arith
object_leads _ _ _ no_comma = omega arith

pub objects_consume : Consumes object_at object_link
objects_consume = record {
  item_takes = λ ts x e. object_takes ts x.0 x.1 (object_found ts x e);
  link_takes = λ ts. object_leads ts _ _ (object_link_found ts);
}

objects_sound : Sounds object_at object_link ReadsObject ObjectLink
objects_sound = record { item_found = object_found; link_found = object_link_found }

abbrev NoComma : List Token → Type 0
NoComma ts = object_link ts ≡ (false, ts)

comma_is : {r u : List Token} → ObjectLink r true u → Unit {0} × (object_link r ≡ (true, u))
comma_is comma = (tt, refl)

done_is : {r s : List Token} → ObjectLink r false s → NoComma s → Unit {0} × (object_link r ≡ (false, s))
done_is no_comma after = (tt, after)

objects_complete : Completes object_at object_link ReadsObject ObjectLink (λ ts. Unit {0}) NoComma
objects_complete = record {
  item_again = λ {ts} {r} {x} i after. object_again ts x r i;
  goes_on = λ l i. comma_is l;
  ends = λ l after. done_is l after;
}

objects_takes : Takes ReadsObjects
objects_takes = many_takes object_takes object_leads

-- ---- a property

pub property_found : Found property_at ReadsProperty
unfolding property_at objects_at
property_found ts x e =
    let v = bind_some (verb_at ts) (λ v. many object_at object_link v.1 >>= λ os. Some (record { verb = v.0; objects = os.0 }, os.1)) x e in
    let os = bind_some (many object_at object_link v.0.1) (λ os. Some (record { verb = v.0.0; objects = os.0 }, os.1)) x v.2 in
    moved ReadsProperty ts (record { verb = v.0.0; objects = os.0.0 }, os.0.1) x os.2
    (property (verb_found ts v.0 v.1) (many_found object_at object_link objects_sound (length v.0.1) v.0.1 os.0 os.1))

pub property_takes : Takes ReadsProperty
property_takes _ _ _ (property {ts} {r} {s} {v} {os} verb objects) =
    let first = verb_takes ts v r verb in
    let second = objects_takes r os s objects in
    omega arith

property_again : {ts r : List Token} {x : Property} → ReadsProperty ts x r → NoComma r → property_at ts ≡ Some (x, r)
unfolding property_at objects_at
property_again (property {ts} {r} {s} {v} {os} verb objects) after = rw (verb_again ts v r verb, many_again object_at object_link objects_consume objects_complete objects after) refl

-- ---- properties

link_skip : (b : Bool) (ts : List Token) → PropertyLink (token.Sign signs.Semicolon ∷ ts) b (skip_semicolons ts)
link_skip true (token.Sign signs.Semicolon ∷ ts) = again (link_skip true ts)
link_skip true ts = semicolon
link_skip false (token.Sign signs.Semicolon ∷ ts) = again (link_skip false ts)
link_skip false ts = again no_semicolon

property_link_found : (ts : List Token) → PropertyLink ts (property_link ts).0 (property_link ts).1
property_link_found (token.Sign signs.Semicolon ∷ ts) = link_skip (begins_verb (skip_semicolons ts)) ts
property_link_found ts = no_semicolon

property_leads : Leads PropertyLink
property_leads _ _ _ semicolon = omega arith
property_leads _ _ _ (again {rest} {s} {b} l) = let more = property_leads rest b s l in omega arith
property_leads _ _ _ no_semicolon = omega arith

pub properties_consume : Consumes property_at property_link
properties_consume = record {
  item_takes = λ ts x e. property_takes ts x.0 x.1 (property_found ts x e);
  link_takes = λ ts. property_leads ts _ _ (property_link_found ts);
}

pub properties_sound : Sounds property_at property_link ReadsProperty PropertyLink
properties_sound = record { item_found = property_found; link_found = property_link_found }

pub properties_takes : Takes ReadsProperties
properties_takes = many_takes property_takes property_leads

-- what may follow a list of properties
abbrev pub EndsProperties : List Token → Type 0
EndsProperties (token.Variable v ∷ ts) = ⊥
EndsProperties (token.Iri i ∷ ts) = ⊥
EndsProperties (token.Name p l ∷ ts) = ⊥
EndsProperties (token.Word w ∷ ts) = is_a w ≡ false
EndsProperties (token.Sign signs.Semicolon ∷ ts) = ⊥
EndsProperties (token.Sign signs.Comma ∷ ts) = ⊥
EndsProperties ts = Unit {0}

record Ended (s : List Token) : Type 0 where
  skips : skip_semicolons s ≡ s
  verb : begins_verb s ≡ false
  comma : NoComma s
  link : property_link s ≡ (false, s)

ended : (s : List Token) → EndsProperties s → Ended s
ended (token.Variable v ∷ ts) e = absurd e
ended (token.Iri i ∷ ts) e = absurd e
ended (token.Name p l ∷ ts) e = absurd e
ended (token.Word w ∷ ts) e = record { skips = refl; verb = e; comma = refl; link = refl }
ended (token.Sign signs.Semicolon ∷ ts) e = absurd e
ended (token.Sign signs.Comma ∷ ts) e = absurd e
ended ts e = record { skips = refl; verb = refl; comma = refl; link = refl }

skip_is : {r u : List Token} {b : Bool} → PropertyLink r b u → skip_semicolons u ≡ u → skip_semicolons r ≡ u
skip_is semicolon e = e
skip_is (again l) e = skip_is l e
skip_is no_semicolon e = e

after_semicolon : (ts u : List Token) (b : Bool) → skip_semicolons ts ≡ u → begins_verb u ≡ b → property_link (token.Sign signs.Semicolon ∷ ts) ≡ (b, u)
after_semicolon ts u b e h = ap (λ (x : List Token). let p : Bool × List Token = (begins_verb x, x) in p) e ∙ ap (λ (c : Bool). let p : Bool × List Token = (c, u) in p) h

link_goes_on : {r u : List Token} → PropertyLink r true u → skip_semicolons u ≡ u → begins_verb u ≡ true → NoComma r × (property_link r ≡ (true, u))
link_goes_on (semicolon {rest}) e h = (refl, after_semicolon rest rest true e h)
link_goes_on (again {rest} {s} {b} l) e h = (refl, after_semicolon rest s true (skip_is l e) h)

link_ends : {r s : List Token} → PropertyLink r false s → EndsProperties s → NoComma r × (property_link r ≡ (false, s))
link_ends (again {rest} {s} {b} l) after = let e = ended s after in (refl, after_semicolon rest s false (skip_is l e.skips) e.verb)
link_ends (no_semicolon {rest}) after = let e = ended rest after in (e.comma, e.link)

begins_property : {u r : List Token} {x : Property} → ReadsProperty u x r → (begins_verb u ≡ true) × (skip_semicolons u ≡ u)
begins_property (property verb objects) = verb_begins verb

pub properties_complete : Completes property_at property_link ReadsProperty PropertyLink NoComma EndsProperties
properties_complete = record {
  item_again = property_again;
  goes_on = λ l i. let v = begins_property i in link_goes_on l v.1 v.0;
  ends = link_ends;
}
