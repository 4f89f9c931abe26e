-- The loop over the parts of a group: what was found and what is left to read is all.
use Rattle.std.proofs.Common.{◌≡◌, ℕ, zero, suc, ◌<◌, Bool, true, false, List, [], ◌∷◌, ◌++◌, length, Option, Some, None, Result, Err, refl, sym, ap, ◌∙◌, subst, arith, append_assoc}
use Rattle.std.specs.Option.{MatchOption, is_some, option_and_then}
use Rattle.std.proofs.lemmas.Option.{same_Some}
use Rattle.std.proofs.lemmas.List.{map_push}
use Rattle.iris.specs.Bracketed.{◌>>=◌}
use Rattle.iris.proofs.Options.{bind_some}
use Rattle.lexer.specs.declared.token.Token.{Token}
use Rattle.lexer.specs.declared.token.Sign.TheVariants as signs
use Rattle.lexer.specs.declared.stop.Stop.{Stop}
use Rattle.lexer.specs.declared.stop.Stop.TheVariants as stop
use Rattle.syntax_trees.specs.declared.group.Element.{Element}
use Rattle.syntax_trees.specs.Groups.{Part, part_of, parts_of}
use Rattle.productions.specs.Steps.{Reader, Fails, Gives}
use Rattle.productions.specs.Signs.{sign_at}
use Rattle.triples.specs.Reading.{after_dot}
use Rattle.productions.specs.Many.{many_from}
use Rattle.productions.proofs.ManyLaws.{with_front, so_far}
use Rattle.groups.specs.Reading.{behind, union_link, front_at, part_with, item_with, items, parts_with, group_at}
use Rattle.groups.specs.Laws.{ItemsShrink}
use Rattle.groups.proofs.ItemLaws.{behind_nothing, behind_both, items_stuck, items_next}

-- ---- exits

pub passes : {X Y : Type 0} (view : X → Y) (r : Result X Stop) (read : Option Y) (e f : Stop) → r ≡ Err e → e ≡ f → Fails f read → Gives view r read
passes {X} {Y} view r read e f r-is e-is h = subst (λ (r : Result X Stop). Gives view r read) (sym r-is) (subst (λ (e : Stop). Fails e read) (sym e-is) h)

pub where_none : {A : Type 0} (o : Option A) (P : Type 0) (Q : A → Type 0) → is_some o ≡ false → MatchOption o P Q → P
where_none None P Q e h = h
where_none (Some x) P Q e h = absurd cc

no_behind : (front : List Part) (read : Option (List Part × List Token)) → behind front read ≡ None → read ≡ None
no_behind front None e = refl
no_behind front (Some x) e = absurd cc

-- ---- what is pushed

pushed_behind : (before after : List Element) (x : Element) → after ≡ before ++ x ∷ [] → (read : Option (List Part × List Token)) → behind (parts_of after) read ≡ behind (parts_of before) (read >>= λ xs. Some (part_of x ∷ xs.0, xs.1))
pushed_behind before after x is None = refl
pushed_behind before after x is (Some xs) =
    ap (λ (ps : List Part). let r : Option (List Part × List Token) = Some (ps ++ xs.0, xs.1) in r) (ap parts_of is ∙ map_push part_of before x)
    ∙ ap (λ (ps : List Part). let r : Option (List Part × List Token) = Some (ps, xs.1) in r) (append_assoc (parts_of before) (part_of x ∷ []) xs.0)

-- a part is pushed, and then the triples behind it are
pub item_pushed : (n : ℕ) (inner : Reader (List Part)) (ts r u : List Token) (before after : List Element) (x : Element) → part_with n inner ts ≡ Some (part_of x, r) → after ≡ before ++ x ∷ [] → u ≡ after_dot r → behind (parts_of after) (front_at u) ≡ behind (parts_of before) (item_with n inner ts)
unfolding item_with
item_pushed n inner ts r u before after x part_is is undotted =
    ap (λ (us : List Token). behind (parts_of after) (front_at us)) undotted
    ∙ pushed_behind before after x is (front_at (after_dot r))
    ∙ ap (λ (o : Option (Part × List Token)). behind (parts_of before) (o >>= λ p. front_at (after_dot p.1) >>= λ xs. Some (p.0 ∷ xs.0, xs.1))) (sym part_is)

pub group_pushed : (read : Option (List Part × List Token)) (before found : List (List Part)) (rest : List Token) → option_and_then (λ (g : List Part × List Token). let r : Option (List (List Part) × List Token) = Some (before ++ g.0 ∷ [], g.1) in r) read ≡ Some (found, rest) → (g : List Part) × (read ≡ Some (g, rest)) × (before ++ g ∷ [] ≡ found)
group_pushed None before found rest e = absurd cc
group_pushed (Some g) before found rest e =
    let same = same_Some (before ++ g.0 ∷ [], g.1) (found, rest) e in
    (g.0, ap (λ (y : List (List Part) × List Token). let r : Option (List Part × List Token) = Some (g.0, y.1) in r) same, ap (λ (y : List (List Part) × List Token). y.0) same)

push_unread : (read : Option (List Part × List Token)) (before : List (List Part)) → option_and_then (λ (g : List Part × List Token). let r : Option (List (List Part) × List Token) = Some (before ++ g.0 ∷ [], g.1) in r) read ≡ None → read ≡ None
push_unread None before e = refl
push_unread (Some g) before e = absurd cc

many_unread : (item : Reader (List Part)) (k : ℕ) (ts : List Token) → item ts ≡ None → many_from item union_link k ts ≡ None
many_unread item zero ts none = refl
many_unread item (suc k) ts none = rw none refl

-- where a group isn't read, neither are the groups from there on
pub group_unread : (n : ℕ) (before : List (List Part)) (ts : List Token) (goes_on : Bool) (all : Option (List (List Part) × List Token)) (e : Stop) → goes_on ≡ true → Fails e (option_and_then (λ (g : List Part × List Token). let r : Option (List (List Part) × List Token) = Some (before ++ g.0 ∷ [], g.1) in r) (group_at n ts)) → so_far (group_at n) union_link goes_on before ts ≡ all → Fails e all
group_unread n before ts goes_on all stop.Memory is h all-is = tt
group_unread n before ts goes_on all stop.NoReading is h all-is =
    sym all-is ∙ ap (λ (b : Bool). so_far (group_at n) union_link b before ts) is
    ∙ ap (λ (o : Option (List (List Part) × List Token)). with_front (group_at n) union_link before o) (many_unread (group_at n) (length ts) ts (push_unread (group_at n ts) before h))

-- ---- turns

module _ (n : ℕ) where
  abbrev pub item : Reader (List Part)
  item = item_with n (group_at n)

  abbrev pub all : Reader (List Part)
  all = parts_with n (group_at n)

  abbrev finish : List Part × List Token → Option (List Part × List Token)
  finish xs = behind xs.0 (items item xs.1)

  first : (none : List Element) (ts : List Token) → none ≡ [] → front_at ts ≡ behind (parts_of none) (front_at ts)
  first none ts is = sym (behind_nothing (front_at ts)) ∙ ap (λ (es : List Element). behind (parts_of es) (front_at ts)) (sym is)

  pub starts : (none : List Element) (ts : List Token) (found : List Part) (rest : List Token) → none ≡ [] → behind (parts_of none) (front_at ts) ≡ Some (found, rest) → behind found (items item rest) ≡ all ts
  unfolding parts_with
  starts none ts found rest is e = sym (ap (λ (o : Option (List Part × List Token)). o >>= finish) (first none ts is ∙ e))

  pub first_fails : (none : List Element) (ts : List Token) (e : Stop) → none ≡ [] → Fails e (behind (parts_of none) (front_at ts)) → Fails e (all ts)
  unfolding parts_with
  first_fails none ts stop.Memory is h = tt
  first_fails none ts stop.NoReading is h = ap (λ (o : Option (List Part × List Token)). o >>= finish) (first none ts is ∙ h)

  -- one turn: the item at the front of ts is pushed behind what was found
  module _ (shrink : ItemsShrink) (front : List Part) (ts : List Token) where
    pub item_fails : (read : Option (List Part × List Token)) (e : Stop) → sign_at signs.CloseBrace ts ≡ None → Fails e (behind front (item ts)) → behind front (items item ts) ≡ read → Fails e read
    item_fails read stop.Memory unclosed h all-is = tt
    item_fails read stop.NoReading unclosed h all-is = sym all-is ∙ ap (behind front) (items_stuck item (shrink n) ts unclosed (no_behind front (item ts) h))

    abbrev pair : List Part → List Token → List Part × List Token
    pair found rest = (found, rest)

    record Turn (found : List Part) (rest : List Token) : Type 0 where
      x : List Part × List Token
      is : item ts ≡ Some x
      same : pair (front ++ x.0) x.1 ≡ pair found rest

    turn : (found : List Part) (rest : List Token) → behind front (item ts) ≡ Some (found, rest) → Turn found rest
    turn found rest e =
        let y = bind_some (item ts) (λ x. Some (front ++ x.0, x.1)) (found, rest) e in
        record { x = y.0; is = y.1; same = same_Some (front ++ y.0.0, y.0.1) (found, rest) y.2 }

    pub turn_shrinks : (found : List Part) (rest : List Token) → behind front (item ts) ≡ Some (found, rest) → length rest < length ts
    turn_shrinks found rest e =
        let t = turn found rest e in
        let c = shrink n ts t.x t.is in
        let same : length t.x.1 ≡ length rest = ap (λ (y : List Part × List Token). length y.1) t.same in
        omega arith

    pub turns : (found : List Part) (rest : List Token) → sign_at signs.CloseBrace ts ≡ None → behind front (item ts) ≡ Some (found, rest) → behind found (items item rest) ≡ behind front (items item ts)
    turns found rest unclosed e =
        let t = turn found rest e in
        ap (λ (y : List Part × List Token). behind y.0 (items item y.1)) (sym t.same)
        ∙ sym (behind_both front t.x.0 (items item t.x.1))
        ∙ ap (behind front) (sym (items_next item (shrink n) ts t.x unclosed t.is))
