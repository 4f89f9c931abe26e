-- A request is read step by step: each ends at the first `;` outside braces.
use Rattle.std.proofs.Common.{◌≡◌, ℕ, zero, suc, ◌<◌, List, [], ◌∷◌, ◌++◌, length, Result, Ok, Err, refl, sym, ap, ◌∙◌, subst, arith}
use Rattle.std.specs.Borrow.{Bor}
use Rattle.std.proofs.lemmas.List.{append-nil, append_cancel_right}
use Rattle.lexer.specs.Cut.{Cuts, end}
use Rattle.lexer.specs.Ends.{after_end, AreEnded}
use Rattle.lexer.specs.Gives.{IsFront as IsFrontOfTokens, IsFrontCut}
use Rattle.lexer.specs.declared.token.Token.{Token}
use Rattle.lexer.specs.declared.token.Token.TheVariants as token
use Rattle.lexer.specs.declared.token.Sign.TheVariants as signs
use Rattle.lexer.specs.declared.stop.Stop.{Stop}
use Rattle.lexer.specs.declared.stop.Stop.TheVariants as stop
use Rattle.syntax_trees.specs.declared.tree.Step.{Step}
use Rattle.syntax_trees.specs.declared.tree.Step.TheVariants as step
use Rattle.syntax_trees.specs.declared.tree.Operation.{Operation}
use Rattle.productions.specs.Keywords.{keyword}
use Rattle.productions.specs.Names.{NoSuffix}
use Rattle.grammar.specs.Below.{Below}
use Rattle.grammar.specs.Fronts.{ReadsText, IsFront, IsFrontRead}
use Rattle.grammar.specs.Reads.{ReadsRequest, nothing, prefix, last, next, ReadsOperation, ReadsTransfer, ReadsChange}
use Rattle.grammar.specs.Reads as reads
use Rattle.grammar.specs.Reading.{AreRead}
use Rattle.grammar.proofs.EndLaws.{operation_passes}
use Rattle.grammar.proofs.RequestLaws.{nothing_left}
use Rattle.grammar.proofs.TailLaws.{Swap, here, there, swap_more, swap_less, operation_moves}

-- ---- what ends early

abbrev failed : Stop → Result (List Step × Bor (List ℕ)) Stop
failed e = Err e

uncut_by : (text : List ℕ) (f : Stop) → IsFrontCut text (Err f) → IsFrontRead text (Err f)
uncut_by text stop.Memory none = tt
uncut_by text stop.NoReading none = λ all r. none r.tokens r.cut

pub uncut : (text : List ℕ) (r : Result (List Step × Bor (List ℕ)) Stop) (e f : Stop) → r ≡ Err e → e ≡ f → IsFrontCut text (Err f) → IsFrontRead text r
uncut text r e f r-is e-is none = subst (λ r. IsFrontRead text r) (sym (r-is ∙ ap failed e-is)) (uncut_by text f none)

-- ---- how requests begin

transfer_free : {ts rest : List Token} {how : _} → ReadsTransfer ts how rest → NoSuffix ts
transfer_free (reads.copy (keyword is)) = tt
transfer_free (reads.move (keyword is)) = tt
transfer_free (reads.add (keyword is)) = tt

change_free : {ts rest : List Token} {xs ys : _} → ReadsChange ts xs ys rest → NoSuffix ts
change_free (reads.delete (keyword is) q) = tt
change_free (reads.insert (keyword is) q) = tt
change_free (reads.both (keyword is) q insert more) = tt

operation_free : {ts rest : List Token} {x : Operation} → ReadsOperation ts x rest → NoSuffix ts
operation_free (reads.create (keyword is) said g) = tt
operation_free (reads.drop (keyword is) said t) = tt
operation_free (reads.clear (keyword is) said t) = tt
operation_free (reads.transferred word said aim between to) = transfer_free word
operation_free (reads.insert_data (keyword is) second q) = tt
operation_free (reads.delete_data (keyword is) second q) = tt
operation_free (reads.delete_where (keyword is) second q) = tt
operation_free (reads.modify (reads.with (keyword is) named) change where_word g) = tt
operation_free (reads.modify reads.without change where_word g) = change_free change

request_free : {ts : List Token} {steps : List Step} → ReadsRequest ts steps → NoSuffix ts
request_free nothing = tt
request_free (prefix (keyword is) r) = tt
request_free (last is) = operation_free is
request_free (next is r) = operation_free is

-- ---- tokens that end with their first end

abbrev a_word : List Token
a_word = token.Word [] ∷ []

nothing_is_no_word : (t : Token) (ts : List Token) → [] ≡ t ∷ ts → ⊥
nothing_is_no_word t ts e = absurd cc

not_ended : AreEnded [] → ⊥
not_ended ended = nothing_is_no_word (token.Word []) [] (ended a_word)

head_or : Token → List Token → Token
head_or t [] = t
head_or t (u ∷ us) = u

tail_of : List Token → List Token
tail_of [] = []
tail_of (t ∷ ts) = ts

-- without a first token that is no brace and no end
pub record Peeled (t : Token) (us ts more : List Token) : Type 0 where
  pub left : List Token
  pub is : ts ≡ t ∷ left
  pub goes_on : us ≡ left ++ more
  pub ended : AreEnded left

peel : (t : Token) → ((us : List Token) → after_end 0 (t ∷ us) ≡ after_end 0 us) → (us ts more : List Token) → t ∷ us ≡ ts ++ more → AreEnded ts → Peeled t us ts more
unfolding head_or tail_of
peel t passes us [] more e ended = absurd (not_ended ended)
peel t passes us (u ∷ ts) more e ended =
    let same : t ≡ u = ap (head_or t) e in
    let ended : AreEnded (t ∷ ts) = subst (λ (x : Token). AreEnded (x ∷ ts)) (sym same) ended in
    record {
      left = ts;
      is = ap (λ (x : Token). x ∷ ts) (sym same);
      goes_on = ap tail_of e;
      ended = λ later. sym (passes (ts ++ later)) ∙ ended later;
    }

-- a reading of tokens, of which the first are ended, in two parts
pub record Parts (ts more : List Token) (all : List Step) : Type 0 where
  pub front : List Step
  pub later : List Step
  pub first : ReadsRequest ts front
  pub second : ReadsRequest more later
  pub is : all ≡ front ++ later

unended : {ts : List Token} {x : Operation} → ReadsOperation ts x [] → AreEnded ts → ⊥
unended {ts} {x} is ended =
    let m = operation_moves [] a_word tt ts x [] a_word is here in
    nothing_is_no_word (token.Word []) [] (sym (operation_passes 0 m.0 x a_word m.2) ∙ ap (after_end 0) (swap_more a_word ts m.0 m.1) ∙ ended a_word)

parts : {us : List Token} {all : List Step} → ReadsRequest us all → (ts more : List Token) → us ≡ ts ++ more → AreEnded ts → Parts ts more all
parts nothing [] more e ended = absurd (not_ended ended)
parts nothing (t ∷ ts) more e ended = absurd cc
parts (prefix {rest = rest} {p = p} {i = i} {steps = steps} (keyword {w} is) r) ts more e ended =
    let a = peel (token.Word w) (λ us. refl) (token.Name p [] ∷ token.Iri i ∷ rest) ts more e ended in
    let b = peel (token.Name p []) (λ us. refl) (token.Iri i ∷ rest) a.left more a.goes_on a.ended in
    let c = peel (token.Iri i) (λ us. refl) rest b.left more b.goes_on b.ended in
    let q = parts r c.left more c.goes_on c.ended in
    let tokens : ts ≡ token.Word w ∷ token.Name p [] ∷ token.Iri i ∷ c.left =
    a.is ∙ ap (λ (us : List Token). token.Word w ∷ us) (b.is ∙ ap (λ (us : List Token). token.Name p [] ∷ us) c.is) in
    record {
      front = step.Declare p i ∷ q.front;
      later = q.later;
      first = subst (λ (us : List Token). ReadsRequest us (step.Declare p i ∷ q.front)) (sym tokens) (prefix (keyword is) q.first);
      second = q.second;
      is = ap (λ (ss : List Step). step.Declare p i ∷ ss) q.is;
    }
parts (last {ts = us} {x} is) ts more e ended =
    let none : more ≡ [] = sym (ended more) ∙ ap (after_end 0) (sym e) ∙ operation_passes 0 us x [] is in
    let tokens : us ≡ ts = e ∙ ap (λ (m : List Token). ts ++ m) none ∙ append-nil ts in
    record {
      front = step.Do x ∷ [];
      later = [];
      first = subst (λ (vs : List Token). ReadsRequest vs (step.Do x ∷ [])) tokens (last is);
      second = subst (λ (m : List Token). ReadsRequest m []) (sym none) nothing;
      is = refl;
    }
parts (next {ts = us} {rest} {x} {steps} is r) ts more e ended =
    let same : rest ≡ more = sym (operation_passes 0 us x (token.Sign signs.Semicolon ∷ rest) is) ∙ ap (after_end 0) e ∙ ended more in
    let is : ReadsOperation us x (token.Sign signs.Semicolon ∷ more) = subst (λ (m : List Token). ReadsOperation us x (token.Sign signs.Semicolon ∷ m)) same is in
    let m = operation_moves more [] tt us x (token.Sign signs.Semicolon ∷ more) (token.Sign signs.Semicolon ∷ []) is (there (token.Sign signs.Semicolon) here) in
    let tokens : m.0 ≡ ts = append_cancel_right m.0 ts more (sym (swap_less more us m.0 m.1) ∙ e) in
    record {
      front = step.Do x ∷ [];
      later = steps;
      first = subst (λ (vs : List Token). ReadsRequest vs (step.Do x ∷ [])) tokens (next m.2 nothing);
      second = subst (λ (m : List Token). ReadsRequest m steps) same r;
      is = refl;
    }

module _ (below : Below) where
  whole : {ts : List Token} {steps : List Step} → ReadsRequest ts steps → AreEnded ts → (more : List Token) (later : List Step) → ReadsRequest more later → ReadsRequest (ts ++ more) (steps ++ later)
  whole nothing ended more later r = absurd (not_ended ended)
  whole (prefix (keyword is) first) ended more later r = prefix (keyword is) (whole first (λ us. ended us) more later r)
  whole (last is) ended more later r = absurd (unended is ended)
  whole (next {ts} {rest} {x} {steps} is first) ended more later r =
      let none : rest ≡ [] = sym (operation_passes 0 ts x (token.Sign signs.Semicolon ∷ rest) is) ∙ ap (after_end 0) (sym (append-nil ts)) ∙ ended [] in
      let is : ReadsOperation ts x (token.Sign signs.Semicolon ∷ []) = subst (λ (m : List Token). ReadsOperation ts x (token.Sign signs.Semicolon ∷ m)) none is in
      let m = operation_moves [] more (request_free r) ts x (token.Sign signs.Semicolon ∷ []) (token.Sign signs.Semicolon ∷ more) is (there (token.Sign signs.Semicolon) here) in
      let no_more : steps ≡ [] = nothing_left below (subst (λ (m : List Token). ReadsRequest m steps) none first) in
      subst (λ (us : List Token). ReadsRequest us (step.Do x ∷ steps ++ later)) (swap_more more ts m.0 m.1)
      (next m.2 (subst (λ (ss : List Step). ReadsRequest more (ss ++ later)) (sym no_more) r))

  -- ---- of a text

  module _ (one_cut : (text : List ℕ) (ts us : List Token) → Cuts text ts → Cuts text us → ts ≡ us) where
    whole_of : (text rest : List ℕ) (ts us : List Token) (steps later : List Step) → IsFrontOfTokens text ts rest → Cuts rest us → ReadsRequest ts steps → ReadsRequest us later → ReadsRequest (ts ++ us) (steps ++ later)
    whole_of text [] ts us steps later front cut first r =
        let none : us ≡ [] = one_cut [] us [] cut end in
        let no_more : later ≡ [] = nothing_left below (subst (λ (m : List Token). ReadsRequest m later) none r) in
        subst (λ (m : List Token). ReadsRequest (ts ++ m) (steps ++ later)) (sym none)
        (subst (λ (ss : List Step). ReadsRequest (ts ++ []) (steps ++ ss)) (sym no_more)
        (subst (λ (vs : List Token). ReadsRequest vs (steps ++ [])) (sym (append-nil ts)) (subst (λ (ss : List Step). ReadsRequest ts ss) (sym (append-nil steps)) first)))
    whole_of text (b ∷ bs) ts us steps later front cut first r = whole first (front.ended (omega arith)) us later r

    parts_of : (text rest : List ℕ) (ts us : List Token) (all : List Step) → IsFrontOfTokens text ts rest → Cuts rest us → ReadsRequest (ts ++ us) all → Parts ts us all
    parts_of text [] ts us all front cut r =
        let none : us ≡ [] = one_cut [] us [] cut end in
        record {
          front = all;
          later = [];
          first = subst (λ (vs : List Token). ReadsRequest vs all) (ap (λ (m : List Token). ts ++ m) none ∙ append-nil ts) r;
          second = subst (λ (m : List Token). ReadsRequest m []) (sym none) nothing;
          is = sym (append-nil all);
        }
    parts_of text (b ∷ bs) ts us all front cut r = parts r ts us refl (front.ended (omega arith))

    parts_in : (text rest : List ℕ) (ts : List Token) (all : List Step) → IsFrontOfTokens text ts rest → ReadsText text all → (us : List Token) × Cuts rest us × Parts ts us all
    parts_in text rest ts all front r =
        let o = front.only r.tokens r.cut in
        (o.0, o.2, parts_of text rest ts o.0 all front o.2 (subst (λ (vs : List Token). ReadsRequest vs all) o.1 r.request))

    pub front_read : (text rest : List ℕ) (ts : List Token) (steps : List Step) → IsFrontOfTokens text ts rest → AreRead ts (Ok steps) → IsFront text steps rest
    front_read text rest ts steps front read = record {
      more = λ later r. record { tokens = ts ++ r.tokens; cut = front.more r.tokens r.cut; request = whole_of text rest ts r.tokens steps later front r.cut read.0 r.request };
      only = λ all r.
          let p = parts_in text rest ts all front r in
          let q = p.2 in
          (q.later, q.is ∙ ap (λ (ss : List Step). ss ++ q.later) (read.1 q.front q.first), record { tokens = p.0; cut = p.1; request = q.second });
      shorter = front.shorter;
    }

    pub front_unread : (text rest : List ℕ) (ts : List Token) → IsFrontOfTokens text ts rest → AreRead ts (Err stop.NoReading) → (all : List Step) → ReadsText text all → ⊥
    front_unread text rest ts front none all r = let q = (parts_in text rest ts all front r).2 in none q.front q.first

    -- where memory ran out, nothing is said
    unread_by : (text rest : List ℕ) (ts : List Token) (f : Stop) → IsFrontOfTokens text ts rest → AreRead ts (Err f) → IsFrontRead text (Err f)
    unread_by text rest ts stop.Memory front none = tt
    unread_by text rest ts stop.NoReading front none = front_unread text rest ts front none

    pub unread : (text rest : List ℕ) (ts : List Token) (r : Result (List Step × Bor (List ℕ)) Stop) (e f : Stop) → r ≡ Err e → e ≡ f → IsFrontOfTokens text ts rest → AreRead ts (Err f) → IsFrontRead text r
    unread text rest ts r e f r-is e-is front none = subst (λ r. IsFrontRead text r) (sym (r-is ∙ ap failed e-is)) (unread_by text rest ts f front none)
