-- Quads: what is read is in the grammar, and what is in it is read.
use Rattle.std.proofs.Common.{◌≡◌, ℕ, zero, suc, ◌≤◌, ◌<◌, true, false, List, [], ◌∷◌, ◌++◌, length, Option, Some, None, refl, sym, ap, ◌∙◌, subst, arith, append_assoc, Result, Err}
use Rattle.std.specs.Prelude.{codes}
use Rattle.std.specs.Option.{option_map_or}
use Rattle.std.proofs.lemmas.List.{append-nil}
use Rattle.iris.specs.Bracketed.{◌>>=◌}
use Rattle.iris.proofs.Options.{bind_some}
use Rattle.lexer.specs.declared.token.Token.{Token}
use Rattle.lexer.specs.declared.token.Token.TheVariants as token
use Rattle.lexer.specs.declared.token.Sign.TheVariants as signs
use Rattle.lexer.specs.declared.stop.Stop.{Stop}
use Rattle.lexer.specs.declared.stop.Stop.TheVariants as stop
use Rattle.syntax_trees.specs.declared.tree.Node.{Node}
use Rattle.syntax_trees.specs.declared.tree.SameSubject.{SameSubject}
use Rattle.syntax_trees.specs.declared.tree.Block.{Block}
use Rattle.productions.specs.Steps.{Found, Takes, Again, Fails, Gives}
use Rattle.productions.specs.Keywords.{is_keyword, keyword_at, ReadsKeyword, keyword}
use Rattle.productions.specs.Signs.{sign_at}
use Rattle.productions.proofs.SignLaws.{sign_found}
use Rattle.productions.proofs.KeywordLaws.{reads_keyword, keyword_again, keyword_takes}
use Rattle.triples.specs.Laws.{AgainBefore}
use Rattle.triples.specs.Reads.{ReadsGraphName, ReadsMaybeTriples, none, some, ReadsMaybeDot, dot, no_dot, ReadsGraphBlock, block, ReadsBlocks, close, graph, ReadsQuads, quads, is_a, EndsTriples, at_open, at_close, at_word}
use Rattle.triples.specs.Reading.{begins_node, graph_name_at, maybe_triples_at, after_dot, braced_at, graph_block_at, default_block_at, section_at, blocks_from, blocks_at, blocks_behind, quads_at}
use Rattle.triples.proofs.NodeLaws.{moved, a_is, graph_name_found, graph_name_takes, graph_name_again}
use Rattle.triples.proofs.TripleLaws.{triples_takes, triples_begin, maybe_found, maybe_again}

graph_is_no_verb : (w : List ℕ) → is_keyword w (codes "GRAPH") ≡ true → is_a w ≡ false
graph_is_no_verb w is =
    elim (is_a w) as (λ b. is_a w ≡ b → b ≡ false) [
      | true ↦ λ a. absurd (let not : false ≡ true = ap (λ (w : List ℕ). is_keyword w (codes "GRAPH")) (sym (a_is w a)) ∙ is in cc)
      | false ↦ λ a. refl
    ] refl

-- ---- what takes no token, or more

maybe_keeps : {ts rest : List Token} {xs : List SameSubject} → ReadsMaybeTriples ts xs rest → length rest ≤ length ts
maybe_keeps none = omega arith
maybe_keeps (some {ts} {rest} {xs} m) = let taken = triples_takes ts xs rest m in omega arith

pub dot_keeps : {ts rest : List Token} → ReadsMaybeDot ts rest → length rest ≤ length ts
dot_keeps dot = omega arith
dot_keeps no_dot = omega arith

graph_block_takes : Takes ReadsGraphBlock
graph_block_takes _ _ _ (block {ts} {r} {u} {rest} {g} {xs} n inside end) =
    let first = graph_name_takes ts g (token.Sign signs.OpenBrace ∷ r) n in
    let second = maybe_keeps inside in
    let third = dot_keeps end in
    omega arith

blocks_takes : Takes ReadsBlocks
blocks_takes _ _ _ close = omega arith
blocks_takes _ _ _ (graph {ts} {r} {u} {v} {rest} {b} {xs} {later} word first after more) =
    let a = keyword_takes word in
    let c = graph_block_takes r b u first in
    let d = maybe_keeps after in
    let e = blocks_takes v later rest more in
    omega arith

pub quads_takes : Takes ReadsQuads
quads_takes _ _ _ (quads {ts} {r} {rest} {xs} {later} first more) =
    let a = maybe_keeps first in
    let b = blocks_takes r later rest more in
    omega arith

-- ---- what is read is in the grammar

pub dot_found : (ts : List Token) → ReadsMaybeDot ts (after_dot ts)
dot_found ts =
    elim (sign_at signs.Dot ts) as (λ o. sign_at signs.Dot ts ≡ o → ReadsMaybeDot ts (option_map_or (λ r. r) o ts)) [
      | None ↦ λ q. no_dot
      | Some r ↦ λ q. subst (λ (us : List Token). ReadsMaybeDot us r) (sym (sign_found signs.Dot ts r q)) dot
    ] refl

-- what stands in braces
data Braced : List Token → List SameSubject → List Token → Type 0 where
  braced : {ts rest : List Token} {xs : List SameSubject} → ReadsMaybeTriples ts xs (token.Sign signs.CloseBrace ∷ rest) → Braced (token.Sign signs.OpenBrace ∷ ts) xs rest

braced_found : Found braced_at Braced
unfolding braced_at
braced_found ts x e =
    let r = bind_some (sign_at signs.OpenBrace ts) (λ r. maybe_triples_at r >>= λ xs. sign_at signs.CloseBrace xs.1 >>= λ s. Some (xs.0, s)) x e in
    let xs = bind_some (maybe_triples_at r.0) (λ xs. sign_at signs.CloseBrace xs.1 >>= λ s. Some (xs.0, s)) x r.2 in
    let s = bind_some (sign_at signs.CloseBrace xs.0.1) (λ s. Some (xs.0.0, s)) x xs.2 in
    moved Braced ts (xs.0.0, s.0) x s.2
    (subst (λ (us : List Token). Braced us xs.0.0 s.0) (sym (sign_found signs.OpenBrace ts r.0 r.1))
    (braced (subst (λ (us : List Token). ReadsMaybeTriples r.0 xs.0.0 us) (sign_found signs.CloseBrace xs.0.1 s.0 s.1) (maybe_found r.0 xs.0 xs.1))))

with_braced : {ts r u rest : List Token} {g : Node} {xs : List SameSubject} → ReadsGraphName ts g r → Braced r xs u → ReadsMaybeDot u rest → ReadsGraphBlock ts (record { graph = Some g; triples = xs }) rest
with_braced n (braced inside) end = block n inside end

graph_block_found : Found graph_block_at ReadsGraphBlock
unfolding graph_block_at
graph_block_found ts x e =
    let g = bind_some (graph_name_at ts) (λ g. braced_at g.1 >>= λ xs. Some (record { graph = Some g.0; triples = xs.0 }, after_dot xs.1)) x e in
    let xs = bind_some (braced_at g.0.1) (λ xs. Some (record { graph = Some g.0.0; triples = xs.0 }, after_dot xs.1)) x g.2 in
    moved ReadsGraphBlock ts (record { graph = Some g.0.0; triples = xs.0.0 }, after_dot xs.0.1) x xs.2
    (with_braced (graph_name_found ts g.0 g.1) (braced_found g.0.1 xs.0 xs.1) (dot_found xs.0.1))

-- triples that may be missing, as a block of the default graph
data Default : List Token → Block → List Token → Type 0 where
  default : {ts rest : List Token} {xs : List SameSubject} → ReadsMaybeTriples ts xs rest → Default ts (record { graph = None; triples = xs }) rest

default_block_found : Found default_block_at Default
unfolding default_block_at
default_block_found ts x e =
    let xs = bind_some (maybe_triples_at ts) (λ xs. Some (record { graph = None; triples = xs.0 }, xs.1)) x e in
    moved Default ts (record { graph = None; triples = xs.0.0 }, xs.0.1) x xs.2 (default (maybe_found ts xs.0 xs.1))

-- both blocks behind 'GRAPH'
data Section : List Token → Block × Block → List Token → Type 0 where
  section : {ts r rest : List Token} {b c : Block} → ReadsGraphBlock ts b r → Default r c rest → Section ts (b, c) rest

section_found : Found section_at Section
unfolding section_at
section_found ts x e =
    let b = bind_some (graph_block_at ts) (λ b. default_block_at b.1 >>= λ c. Some ((b.0, c.0), c.1)) x e in
    let c = bind_some (default_block_at b.0.1) (λ c. Some ((b.0.0, c.0), c.1)) x b.2 in
    moved Section ts ((b.0.0, c.0.0), c.0.1) x c.2 (section (graph_block_found ts b.0 b.1) (default_block_found b.0.1 c.0 c.1))

with_section : {ts r u rest : List Token} {bs : Block × Block} {later : List Block} → ReadsKeyword (codes "GRAPH") ts r → Section r bs u → ReadsBlocks u later rest → ReadsBlocks ts (bs.0 ∷ bs.1 ∷ later) rest
with_section word (section first (default after)) more = graph word first after more

-- two blocks before those that were read
abbrev with_two : Block × Block → Option (List Block × List Token) → Option (List Block × List Token)
with_two bs read = read >>= λ later. Some (bs.0 ∷ bs.1 ∷ later.0, later.1)

abbrev go_on : ℕ → List Token → Option (List Block × List Token)
go_on n r = section_at r >>= λ x. with_two x.0 (blocks_from n x.1)

abbrev done : List Token → Option (List Block × List Token)
done ts = sign_at signs.CloseBrace ts >>= λ rest. Some ([], rest)

done_found : (ts : List Token) (x : List Block × List Token) → done ts ≡ Some x → ReadsBlocks ts x.0 x.1
done_found ts x e =
    let r = bind_some (sign_at signs.CloseBrace ts) (λ r. Some ([], r)) x e in
    subst (λ (us : List Token). ReadsBlocks us x.0 x.1) (sym (sign_found signs.CloseBrace ts r.0 r.1)) (moved ReadsBlocks (token.Sign signs.CloseBrace ∷ r.0) ([], r.0) x r.2 close)

blocks_from_found : (n : ℕ) → Found (blocks_from n) ReadsBlocks
blocks_from_found zero ts x e = absurd cc
blocks_from_found (suc n) ts x e =
    elim (keyword_at (codes "GRAPH") ts) as (λ o. keyword_at (codes "GRAPH") ts ≡ o → option_map_or (go_on n) o (done ts) ≡ Some x → ReadsBlocks ts x.0 x.1) [
      | None ↦ λ q e. done_found ts x e
      | Some r ↦ λ q e.
          let s = bind_some (section_at r) (λ x. with_two x.0 (blocks_from n x.1)) x e in
          let m = bind_some (blocks_from n s.0.1) (λ later. Some (s.0.0.0 ∷ s.0.0.1 ∷ later.0, later.1)) x s.2 in
          moved ReadsBlocks ts (s.0.0.0 ∷ s.0.0.1 ∷ m.0.0, m.0.1) x m.2
          (with_section (reads_keyword (codes "GRAPH") ts r q) (section_found r s.0 s.1) (blocks_from_found n s.0.1 m.0 m.1))
    ] refl e

pub blocks_found : Found blocks_at ReadsBlocks
unfolding blocks_at
blocks_found ts x e = blocks_from_found (length ts) ts x e

behind_found : {ts : List Token} (b : Block) (r : List Token) (x : List Block × List Token) → Default ts b r → blocks_behind b r ≡ Some x → ReadsQuads (token.Sign signs.OpenBrace ∷ ts) x.0 x.1
unfolding blocks_behind
behind_found {ts} _ r x (default {xs = xs} first) e =
    let b : Block = record { graph = None; triples = xs } in
    let later = bind_some (blocks_at r) (λ later. Some (b ∷ later.0, later.1)) x e in
    moved ReadsQuads (token.Sign signs.OpenBrace ∷ ts) (b ∷ later.0.0, later.0.1) x later.2 (quads first (blocks_found r later.0 later.1))

pub quads_found : Found quads_at ReadsQuads
unfolding quads_at
quads_found ts x e =
    let r = bind_some (sign_at signs.OpenBrace ts) (λ r. default_block_at r >>= λ b. blocks_behind b.0 b.1) x e in
    let b = bind_some (default_block_at r.0) (λ b. blocks_behind b.0 b.1) x r.2 in
    subst (λ (us : List Token). ReadsQuads us x.0 x.1) (sym (sign_found signs.OpenBrace ts r.0 r.1)) (behind_found b.0.0 b.0.1 x (default_block_found r.0 b.0 b.1) b.2)

-- ---- what is in the grammar is read

pub dot_again : {ts rest : List Token} → ReadsMaybeDot ts rest → sign_at signs.Dot rest ≡ None → after_dot ts ≡ rest
dot_again dot ends = refl
dot_again no_dot ends = rw ends refl

graph_block_again : AgainBefore (λ rest. sign_at signs.Dot rest ≡ None) graph_block_at ReadsGraphBlock
unfolding graph_block_at braced_at
graph_block_again _ _ _ (block {ts} {r} {u} {rest} {g} {xs} n inside end) after =
    rw (graph_name_again ts g (token.Sign signs.OpenBrace ∷ r) n, maybe_again r xs (token.Sign signs.CloseBrace ∷ u) inside at_close, dot_again end after) refl

default_block_again : {ts rest : List Token} {xs : List SameSubject} → ReadsMaybeTriples ts xs rest → EndsTriples rest → default_block_at ts ≡ Some (record { graph = None; triples = xs }, rest)
unfolding default_block_at
default_block_again {ts} {rest} {xs} m after = rw (maybe_again ts xs rest m after) refl

-- what follows the triples of a block ends them
blocks_end : {ts rest : List Token} {bs : List Block} → ReadsBlocks ts bs rest → EndsTriples ts
blocks_end close = at_close
blocks_end (graph (keyword {w} is) first after more) = at_word (graph_is_no_verb w is)

begins_no_dot : (ts : List Token) → begins_node ts ≡ true → sign_at signs.Dot ts ≡ None
begins_no_dot [] e = refl
begins_no_dot (token.Sign s ∷ ts) e = absurd cc
begins_no_dot (t ∷ ts) e = refl

ends_no_dot : {ts : List Token} → EndsTriples ts → sign_at signs.Dot ts ≡ None
ends_no_dot at_open = refl
ends_no_dot at_close = refl
ends_no_dot (at_word a) = refl

no_dot_follows : {ts rest : List Token} {xs : List SameSubject} → ReadsMaybeTriples ts xs rest → EndsTriples rest → sign_at signs.Dot ts ≡ None
no_dot_follows none after = ends_no_dot after
no_dot_follows (some {ts} {rest} {xs} m) after = begins_no_dot ts (triples_begin ts rest xs m)

section_again : {ts r u rest : List Token} {b : Block} {xs : List SameSubject} {later : List Block} → ReadsGraphBlock ts b r → ReadsMaybeTriples r xs u → ReadsBlocks u later rest → section_at ts ≡ Some ((b, record { graph = None; triples = xs }), u)
unfolding section_at
section_again {ts} {r} {b = b} first after more =
    let ends = blocks_end more in
    rw (graph_block_again ts b r first (no_dot_follows after ends), default_block_again after ends) refl

blocks_from_again : {ts rest : List Token} {bs : List Block} (n : ℕ) → length ts ≤ n → ReadsBlocks ts bs rest → blocks_from n ts ≡ Some (bs, rest)
blocks_from_again zero enough close = absurd (omega arith)
blocks_from_again (suc n) enough close = refl
blocks_from_again zero enough (graph word first after more) = absurd (let taken = keyword_takes word in omega arith)
blocks_from_again (suc n) enough (graph {ts} {r} {u} {v} {rest} {b} {xs} {later} word first after more) =
    let a = keyword_takes word in
    let c = graph_block_takes r b u first in
    let d = maybe_keeps after in
    rw (keyword_again word, section_again first after more, blocks_from_again n (omega arith) more) refl

pub quads_again : Again quads_at ReadsQuads
unfolding quads_at blocks_behind blocks_at
quads_again _ _ _ (quads {ts} {r} {rest} {xs} {later} first more) =
    rw (default_block_again first (blocks_end more), blocks_from_again (length r) (omega arith) more) refl

pub quads_begin : (ts rest : List Token) (bs : List Block) (k : List ℕ) → ReadsQuads ts bs rest → keyword_at k ts ≡ None
quads_begin _ _ _ k (quads first more) = refl

-- ---- the loop

section_shorter : {ts rest : List Token} {bs : Block × Block} → Section ts bs rest → length rest < length ts
section_shorter (section {ts} {r} {rest} {b} {c} first (default after)) =
    let a = graph_block_takes ts b r first in
    let d = maybe_keeps after in
    omega arith

enough : (n m : ℕ) (ts : List Token) → length ts ≤ n → length ts ≤ m → blocks_from n ts ≡ blocks_from m ts
enough zero zero ts hn hm = refl
enough zero (suc m) [] hn hm = refl
enough zero (suc m) (t ∷ ts) hn hm = absurd (omega arith)
enough (suc n) zero [] hn hm = refl
enough (suc n) zero (t ∷ ts) hn hm = absurd (omega arith)
enough (suc n) (suc m) ts hn hm =
    elim (keyword_at (codes "GRAPH") ts) as (λ o. keyword_at (codes "GRAPH") ts ≡ o → option_map_or (go_on n) o (done ts) ≡ option_map_or (go_on m) o (done ts)) [
      | None ↦ λ q. refl
      | Some r ↦ λ q.
          elim (section_at r) as (λ o. section_at r ≡ o → (o >>= λ x. with_two x.0 (blocks_from n x.1)) ≡ (o >>= λ x. with_two x.0 (blocks_from m x.1))) [
            | None ↦ λ e. refl
            | Some x ↦ λ e.
                let a = keyword_takes (reads_keyword (codes "GRAPH") ts r q) in
                let b = section_shorter (section_found r x e) in
                ap (with_two x.0) (enough n m x.1 (omega arith) (omega arith))
          ] refl
    ] refl

-- the blocks so far, and those that are left to read
abbrev pub behind : List Block → Option (List Block × List Token) → Option (List Block × List Token)
behind front read = read >>= λ x. Some (front ++ x.0, x.1)

two_more : (front : List Block) (b c : Block) (read : Option (List Block × List Token)) → behind front (with_two (b, c) read) ≡ behind ((front ++ b ∷ []) ++ c ∷ []) read
two_more front b c None = refl
two_more front b c (Some x) = ap (λ (bs : List Block). let r : Option (List Block × List Token) = Some (bs, x.1) in r) (sym (append_assoc (front ++ b ∷ []) (c ∷ []) x.0 ∙ append_assoc front (b ∷ []) (c ∷ x.0)))

unrolled : (ts : List Token) → blocks_at ts ≡ option_map_or (go_on (length ts)) (keyword_at (codes "GRAPH") ts) (done ts)
unfolding blocks_at
unrolled ts = enough (length ts) (suc (length ts)) ts (omega arith) (omega arith)

pub blocks_step : (front : List Block) (ts r u : List Token) (bs : Block × Block) → keyword_at (codes "GRAPH") ts ≡ Some r → section_at r ≡ Some (bs, u) → behind ((front ++ bs.0 ∷ []) ++ bs.1 ∷ []) (blocks_at u) ≡ behind front (blocks_at ts)
unfolding blocks_at
blocks_step front ts r u bs word e =
    let a = keyword_takes (reads_keyword (codes "GRAPH") ts r word) in
    let b = section_shorter (section_found r (bs, u) e) in
    let read : blocks_at ts ≡ with_two bs (blocks_at u) =
    unrolled ts ∙ ap (λ (o : Option (List Token)). option_map_or (go_on (length ts)) o (done ts)) word
    ∙ ap (λ (o : Option ((Block × Block) × List Token)). o >>= λ x. with_two x.0 (blocks_from (length ts) x.1)) e
    ∙ ap (with_two bs) (enough (length ts) (length u) u (omega arith) (omega arith)) in
    sym (ap (behind front) read ∙ two_more front bs.0 bs.1 (blocks_at u))

pub blocks_smaller : (ts r u : List Token) (bs : Block × Block) → keyword_at (codes "GRAPH") ts ≡ Some r → section_at r ≡ Some (bs, u) → length u < length ts
blocks_smaller ts r u bs word e =
    let a = keyword_takes (reads_keyword (codes "GRAPH") ts r word) in
    let b = section_shorter (section_found r (bs, u) e) in
    omega arith

pub blocks_fail : (front : List Block) (ts r : List Token) (e : Stop) → keyword_at (codes "GRAPH") ts ≡ Some r → Fails e (section_at r) → Fails e (behind front (blocks_at ts))
blocks_fail front ts r stop.Memory word e = tt
blocks_fail front ts r stop.NoReading word e =
    ap (behind front) (unrolled ts ∙ ap (λ (o : Option (List Token)). option_map_or (go_on (length ts)) o (done ts)) word
    ∙ ap (λ (o : Option ((Block × Block) × List Token)). o >>= λ x. with_two x.0 (blocks_from (length ts) x.1)) e)

blocks_stop : (front : List Block) (ts : List Token) → keyword_at (codes "GRAPH") ts ≡ None → behind front (blocks_at ts) ≡ behind front (done ts)
blocks_stop front ts word = ap (behind front) (unrolled ts ∙ ap (λ (o : Option (List Token)). option_map_or (go_on (length ts)) o (done ts)) word)

abbrev closed : Option (List Token) → Option (List Block × List Token)
closed o = o >>= λ rest. Some ([], rest)

pub blocks_close : (front : List Block) (ts r : List Token) → keyword_at (codes "GRAPH") ts ≡ None → sign_at signs.CloseBrace ts ≡ Some r → behind front (blocks_at ts) ≡ Some (front, r)
blocks_close front ts r word e =
    blocks_stop front ts word ∙ ap (λ (o : Option (List Token)). behind front (closed o)) e
    ∙ ap (λ (bs : List Block). let x : Option (List Block × List Token) = Some (bs, r) in x) (append-nil front)

pub blocks_open : (front : List Block) (ts : List Token) → keyword_at (codes "GRAPH") ts ≡ None → sign_at signs.CloseBrace ts ≡ None → behind front (blocks_at ts) ≡ None
blocks_open front ts word e = blocks_stop front ts word ∙ ap (λ (o : Option (List Token)). behind front (closed o)) e

-- an error that is passed on says the same
pub gives_error : {X Y : Type 0} (view : X → Y) (r : Result X Stop) (read other : Option Y) (e f : Stop) → r ≡ Err e → e ≡ f → other ≡ read → Fails f other → Gives view r read
gives_error {X} view r read other e f r-is e-is same fails =
    subst (λ (r : Result X Stop). Gives view r read) (sym (r-is ∙ ap (λ (e : Stop). let r : Result X Stop = Err e in r) e-is)) (subst (Fails f) same fails)
